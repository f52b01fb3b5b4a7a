-- `report_length` meets its contract.
use mathlib.Core.List.{◌++◌}
use native.Mathlib.Omega.{arith}
use lib.ListN.{length-append}
use Rattle.format.specs.Bytes.{bytes}
use Rattle.rules.specs.Answers.{answer_line, response_lines, report_text}
use Rattle.writing.specs.Line.{line}
use Rattle.writing.proofs.report.report_length.Goals as goal

pub returns : goal.returns
unfolding report_text answer_line
returns c =
    let a = c.args in
    let answer = line (bytes "answer") 0 in
    let round = line (bytes "round") a.round in
    let ticks = line (bytes "ticks") a.ticks in
    let responses = response_lines a.figures.now in
    record {
      size = omega (
        arith,
        length-append answer (round ++ (ticks ++ responses)),
        length-append round (ticks ++ responses),
        length-append ticks responses,
        c.line_length.ensures.size,
        c.line_length-2.ensures.size,
        c.line_length-3.ensures.size,
        c.responses_length.ensures.size,
      );
      within = omega (arith, c.line_length.ensures.within, c.line_length-2.ensures.within, c.line_length-3.ensures.within, c.responses_length.ensures.within);
    }
