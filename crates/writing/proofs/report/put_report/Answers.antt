-- `put_report` meets its contract: each line begins where the line before it ended.
use mathlib.Core.Path.{◌≡◌, ap, ◌∙◌}
use mathlib.Core.List.{List, ◌++◌, append_assoc}
use Prim.Native.Nat.{ℕ, ◌+◌, ◌≤◌}
use native.Mathlib.Omega.{arith}
use lib.ListN.{length, length-append}
use Rattle.format.specs.Bytes.{bytes}
use Rattle.rules.specs.Answers.{answer_line, response_lines, report_text}
use Rattle.writing.specs.Line.{line}
use Rattle.writing.proofs.Writing.{named, room, both}
use Rattle.writing.proofs.report.put_report.Goals as goal

abbrev answer-line : List ℕ
answer-line = line (bytes "answer") 0

abbrev round-line : ℕ → List ℕ
round-line round = line (bytes "round") round

abbrev ticks-line : ℕ → List ℕ
ticks-line ticks = line (bytes "ticks") ticks

-- the lines as they are written one after the other
report_is : (round ticks : ℕ) (figures : List ℕ) → ((answer-line ++ round-line round) ++ ticks-line ticks) ++ response_lines figures ≡ report_text round ticks figures
unfolding report_text answer_line
report_is round ticks figures =
    append_assoc (answer-line ++ round-line round) (ticks-line ticks) (response_lines figures)
    ∙ append_assoc answer-line (round-line round) (ticks-line ticks ++ response_lines figures)

-- each line fits behind those before it where the whole text fits
module _ (round ticks : ℕ) (figures buf : List ℕ) (whole : length (report_text round ticks figures) ≤ length buf) where
  fit-responses : length ((answer-line ++ round-line round) ++ ticks-line ticks) + length (response_lines figures) ≤ length buf
  fit-responses =
      omega (
        arith,
        ap length (report_is round ticks figures),
        length-append ((answer-line ++ round-line round) ++ ticks-line ticks) (response_lines figures),
      )

  fit-ticks : length (answer-line ++ round-line round) + length (ticks-line ticks) ≤ length buf
  fit-ticks = omega (arith, fit-responses, length-append (answer-line ++ round-line round) (ticks-line ticks))

  fit-round : length answer-line + length (round-line round) ≤ length buf
  fit-round = omega (arith, fit-ticks, length-append answer-line (round-line round))

pub put_line-round_at-requires : goal.put_line-round_at-requires
put_line-round_at-requires c =
    omega (arith, fit-round c.args.round c.args.ticks c.args.figures.now c.args.buf.now c.requires)

pub put_line-requires : goal.put_line-requires
put_line-requires c =
    room (round-line c.args.round) c.put_line-round_at.ensures (fit-round c.args.round c.args.ticks c.args.figures.now c.args.buf.now c.requires)

pub put_line-requires-2 : goal.put_line-requires-2
put_line-requires-2 c =
    let second = both (round-line c.args.round) c.put_line-round_at.ensures (fit-round c.args.round c.args.ticks c.args.figures.now c.args.buf.now c.requires) c.put_line.ensures in
    room (ticks-line c.args.ticks) second (fit-ticks c.args.round c.args.ticks c.args.figures.now c.args.buf.now c.requires)

pub put_responses-requires : goal.put_responses-requires
put_responses-requires c =
    let second = both (round-line c.args.round) c.put_line-round_at.ensures (fit-round c.args.round c.args.ticks c.args.figures.now c.args.buf.now c.requires) c.put_line.ensures in
    let third = both (ticks-line c.args.ticks) second (fit-ticks c.args.round c.args.ticks c.args.figures.now c.args.buf.now c.requires) c.put_line-2.ensures in
    room (response_lines c.args.figures.now) third (fit-responses c.args.round c.args.ticks c.args.figures.now c.args.buf.now c.requires)

pub returns : goal.returns
returns c =
    let second = both (round-line c.args.round) c.put_line-round_at.ensures (fit-round c.args.round c.args.ticks c.args.figures.now c.args.buf.now c.requires) c.put_line.ensures in
    let third = both (ticks-line c.args.ticks) second (fit-ticks c.args.round c.args.ticks c.args.figures.now c.args.buf.now c.requires) c.put_line-2.ensures in
    named (report_is c.args.round c.args.ticks c.args.figures.now)
    (both (response_lines c.args.figures.now) third (fit-responses c.args.round c.args.ticks c.args.figures.now c.args.buf.now c.requires) c.put_responses.ensures)
