use mathlib.Core.Path.{◌≡◌}
use Prim.Native.Nat.{◌*◌, ◌≤◌}
use lib.ListN.{length, take}
use Rattle.margins.specs.Margins.{margin_lines}
use Rattle.marginlines.specs.Lines.{longest_lines}
use Rattle.marginlines.proofs.text.graphs_length.Given as goal

abbrev pub invariant-loop-g : goal.invariant-loop-g
invariant-loop-g l = (l.n ≡ length (margin_lines (take l.g l.figures) l.limits)) × (l.n ≤ l.g * longest_lines)
