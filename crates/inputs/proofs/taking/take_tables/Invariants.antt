-- Each length so far is one.
use Rattle.std.proofs.Common.{ℕ, ◌<◌}
use lib.ListN.{get_or}
use Rattle.scanning.specs.Positions.{far}
use Rattle.inputs.proofs.taking.take_tables.Given as goal

abbrev pub invariant-loop-i : goal.invariant-loop-i
invariant-loop-i g l = (k : ℕ) → k < l.i → get_or l.lengths k 0 < far
