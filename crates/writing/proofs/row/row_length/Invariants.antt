use mathlib.Core.Path.{◌≡◌}
use mathlib.Core.List.{map}
use Prim.Native.Nat.{◌*◌, ◌≤◌}
use lib.ListN.{length, take}
use Rattle.rules.specs.Answers.{row_text}
use Rattle.writing.specs.Lengths.{longest_run}
use Rattle.writing.specs.Row.{running_of}
use Rattle.writing.proofs.row.row_length.Given as goal

abbrev pub invariant-loop-x : goal.invariant-loop-x
invariant-loop-x l = (l.n ≡ length (row_text (map running_of (take l.x-index l.x-items)))) × (l.n ≤ l.x-index * longest_run)
