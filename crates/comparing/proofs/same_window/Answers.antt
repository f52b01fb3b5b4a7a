-- `same_window` meets its contract: two slices are the same where each slot is.
use mathlib.Core.Path.{◌≡◌, ◌∙◌}
use Prim.Native.Nat.{min}
use native.Mathlib.Omega.{arith}
use Rattle.std.proofs.lemmas.List.{length-take}
use Rattle.window.specs.Entries.{window}
use Rattle.comparing.proofs.CompareLaws.{window_same}
use Rattle.comparing.proofs.same_window.Goals as goal

pub returns : goal.returns
returns c =
    let a = c.args in
    let n : c.min-most.result ≡ min a.n window = omega (arith, c.min-most.ensures, c.from.ensures) in
    c.eq.ensures ∙ window_same a.s.now a.r.now a.n c.min-most.result n
    (omega (arith, length-take c.min-most.result a.s.now.jobs)) (omega (arith, length-take c.min-most.result a.r.now.jobs))
