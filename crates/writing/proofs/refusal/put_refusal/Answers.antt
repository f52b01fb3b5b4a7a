-- `put_refusal` meets its contract: `line=` and `column=` go where the line before them ended.
use mathlib.Core.Path.{ap}
use native.Mathlib.Omega.{arith}
use Rattle.format.specs.Bytes.{bytes}
use Rattle.format.specs.Refusals.{number_of}
use Rattle.rules.specs.Answers.{answer_line, printed}
use Rattle.writing.specs.Line.{line, placed}
use Rattle.writing.proofs.Writing.{named, apart, room, both}
use Rattle.writing.proofs.refusal.put_refusal.Goals as goal

pub put_line-at-requires : goal.put_line-at-requires
unfolding printed answer_line
put_line-at-requires c =
    rw c.number_of.ensures (omega (arith, apart (line (bytes "answer") (number_of c.args.r)) (placed c.args.r) c.args.buf.now c.requires))

pub put_place-requires : goal.put_place-requires
unfolding printed answer_line
put_place-requires c =
    let w = named (ap (line (bytes "answer")) c.number_of.ensures) c.put_line-at.ensures in
    room (placed c.args.r) w (apart (line (bytes "answer") (number_of c.args.r)) (placed c.args.r) c.args.buf.now c.requires)

pub returns : goal.returns
unfolding printed answer_line
returns c =
    let w = named (ap (line (bytes "answer")) c.number_of.ensures) c.put_line-at.ensures in
    both (placed c.args.r) w (apart (line (bytes "answer") (number_of c.args.r)) (placed c.args.r) c.args.buf.now c.requires) c.put_place.ensures
