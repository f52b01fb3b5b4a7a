use mathlib.Core.Path.{◌≡◌}
use Prim.Native.Nat.{◌*◌, ◌≤◌}
use lib.ListN.{length, take}
use Rattle.format.specs.Bytes.{bytes}
use Rattle.rules.specs.Answers.{response_lines}
use Rattle.writing.specs.Lengths.{longest_line}
use Rattle.writing.proofs.report.responses_length.Given as goal

abbrev pub invariant-loop-figure : goal.invariant-loop-figure
invariant-loop-figure l = (l.n ≡ length (response_lines (take l.figure-index l.figures))) × (l.n ≤ l.figure-index * longest_line (bytes "response"))
