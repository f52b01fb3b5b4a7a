-- `responses_length` meets its contract. The loop's invariant: `n` is the length of the lines of the figures passed, each of which is at most
-- the longest.
use mathlib.Core.Path.{refl, ap}
use native.Mathlib.Omega.{arith}
use lib.ListN.{length, take, get_or, length-append}
use Rattle.rules.specs.Answers.{response_lines}
use Rattle.writing.proofs.Responses.{response, response_more}
use Rattle.writing.proofs.report.responses_length.Goals as goal

pub loop-figure-init : goal.loop-figure-init
unfolding response_lines
loop-figure-init c = (refl, omega arith)

pub loop-figure-preserved : goal.loop-figure-preserved
loop-figure-preserved c =
    let l = c.loop-figure in
    let fs = c.args.figures.now in
    let g = l.figure-index in (
      omega (arith, l.invariant.0, c.line_length-n.ensures.size, length-append (response_lines (take g fs)) (response (get_or fs g 0)), ap length (response_more fs g (omega arith))),
      omega (arith, c.line_length-n.ensures.within),
    )
