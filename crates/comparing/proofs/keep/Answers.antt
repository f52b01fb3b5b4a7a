-- `keep` meets its contract: the first windows and slots are copied.
use Prim.Native.Nat.{◌*◌}
use native.Mathlib.Omega.{arith}
use Rattle.std.proofs.lemmas.List.{length-take}
use Rattle.window.specs.Entries.{window, no_server}
use Rattle.window.proofs.Chains.{copied}
use Rattle.comparing.proofs.keep.Goals as goal

pub returns : goal.returns
returns c =
    let a = c.args in
    let servers = copied no_server a.n a.kept.now.servers a.state.now.servers _
    (omega (arith, length-take a.n a.kept.now.servers)) (omega (arith, length-take a.n a.state.now.servers)) c.copy_from_slice.ensures.after in
    let left = copied 0 (a.n * window) a.kept.now.left a.state.now.left _
    (omega (arith, length-take (a.n * window) a.kept.now.left)) (omega (arith, length-take (a.n * window) a.state.now.left)) c.copy_from_slice-2.ensures.after in
    rw (servers, left)
