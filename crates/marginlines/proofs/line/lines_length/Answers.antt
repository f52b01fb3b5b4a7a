-- `lines_length` meets its contract.
use mathlib.Core.Path.{ap}
use native.Mathlib.Omega.{arith}
use lib.ListN.{length, length-append}
use Rattle.rules.specs.Answers.{answer_line}
use Rattle.margins.specs.Margins.{margin_line}
use Rattle.writing.proofs.AnswerLine.{line_is}
use Rattle.marginlines.proofs.line.lines_length.Goals as goal

pub returns : goal.returns
returns c =
    let first = c.line_length.ensures in
    let second = c.margin_length.ensures in
    record {
      size =
          omega (
            arith,
            first.size,
            second.size,
            ap length (line_is "response" c.args.response),
            length-append (answer_line "response" c.args.response) (margin_line c.args.limit c.args.response),
          );
      within = omega (arith, first.within, second.within);
    }
