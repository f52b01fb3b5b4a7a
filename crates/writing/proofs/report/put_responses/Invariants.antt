use lib.ListN.{take}
use Rattle.rules.specs.Answers.{response_lines}
use Rattle.writing.specs.Written.{Written}
use Rattle.writing.proofs.report.put_responses.Given as goal

abbrev pub invariant-loop-figure : goal.invariant-loop-figure
invariant-loop-figure l = Written (response_lines (take l.figure-index l.figures)) l.initial.part l.part l.at
