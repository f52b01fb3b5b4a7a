-- Each case is a byte or more.
use Rattle.std.proofs.Common.{length}
use Rattle.answers.proofs.print_cases.Given as goal

abbrev pub decreases-loop-mark : goal.decreases-loop-mark
decreases-loop-mark l = length l.rest
