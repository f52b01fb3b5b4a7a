-- `put_fix` meets its contract: the numbers begin where `fix=` ended.
use mathlib.Core.Path.{ap}
use mathlib.Core.List.{List}
use Prim.Native.Nat.{ℕ, ◌+◌, ◌≤◌}
use native.Mathlib.Omega.{arith}
use lib.ListN.{length, length-append}
use Rattle.format.specs.Bytes.{bytes, line_feed}
use Rattle.salvaging.specs.Fixes.{fix}
use Rattle.writing.specs.Line.{pair}
use Rattle.writing.proofs.Writing.{named, room, both}
use Rattle.mending.specs.Kind.{number_of}
use Rattle.mending.proofs.Lengths.{fix_is}
use Rattle.mending.proofs.fixes.put_fix.Goals as goal

fit : (n k : ℕ) (part : List ℕ) → length (fix n k) ≤ length part → length (bytes "fix=") + length (pair n k line_feed) ≤ length part
fit n k part h = omega (arith, ap length (fix_is n k), length-append (bytes "fix=") (pair n k line_feed))

pub put_bytes-at-requires : goal.put_bytes-at-requires
put_bytes-at-requires c = omega (arith, fit c.args.n (number_of c.args.kind) c.args.part.now c.requires)

pub put_pair-requires : goal.put_pair-requires
put_pair-requires c =
    rw c.number.ensures (room (pair c.args.n (number_of c.args.kind) line_feed) c.put_bytes-at.ensures (fit c.args.n (number_of c.args.kind) c.args.part.now c.requires))

pub returns : goal.returns
returns c =
    named (fix_is c.args.n (number_of c.args.kind))
    (both (pair c.args.n (number_of c.args.kind) line_feed) c.put_bytes-at.ensures (fit c.args.n (number_of c.args.kind) c.args.part.now c.requires) (rw c.number.ensures at c.put_pair.ensures))
