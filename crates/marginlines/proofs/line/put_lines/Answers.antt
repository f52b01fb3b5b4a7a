-- `put_lines` meets its contract: the margin's line begins where the response's ended.
use mathlib.Core.Path.{ap}
use native.Mathlib.Omega.{arith}
use lib.ListN.{length}
use Rattle.rules.specs.Answers.{answer_line}
use Rattle.margins.specs.Margins.{margin_line}
use Rattle.writing.proofs.Writing.{named, apart, room, both}
use Rattle.writing.proofs.AnswerLine.{line_is}
use Rattle.marginlines.proofs.line.put_lines.Goals as goal

pub put_line-at-requires : goal.put_line-at-requires
put_line-at-requires c =
    let a = c.args in
    omega (arith, ap length (line_is "response" a.response), apart (answer_line "response" a.response) (margin_line a.limit a.response) a.part.now c.requires)

pub put_margin-requires : goal.put_margin-requires
put_margin-requires c =
    let a = c.args in
    let first = named (line_is "response" a.response) c.put_line-at.ensures in
    room (margin_line a.limit a.response) first (apart (answer_line "response" a.response) (margin_line a.limit a.response) a.part.now c.requires)

pub returns : goal.returns
returns c =
    let a = c.args in
    let first = named (line_is "response" a.response) c.put_line-at.ensures in
    both (margin_line a.limit a.response) first (apart (answer_line "response" a.response) (margin_line a.limit a.response) a.part.now c.requires) c.put_margin.ensures
