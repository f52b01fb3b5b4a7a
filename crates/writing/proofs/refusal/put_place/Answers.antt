-- `put_place` meets its contract: `column=` goes where the line before it ended.
use mathlib.Core.Path.{ap}
use Rattle.format.specs.Bytes.{bytes}
use Rattle.format.specs.Refusals.{line_of, column_of}
use Rattle.writing.specs.Line.{line}
use Rattle.writing.proofs.Writing.{named, apart, both}
use Rattle.writing.proofs.refusal.put_place.Goals as goal

pub returns : goal.returns
returns c =
    let w = named (ap (line (bytes "line")) c.line_of.ensures) c.put_line-at.ensures in
    let v = named (ap (line (bytes "column")) c.column_of.ensures) c.put_line.ensures in
    both (line (bytes "column") (column_of c.args.r)) w (apart (line (bytes "line") (line_of c.args.r)) (line (bytes "column") (column_of c.args.r)) c.args.part.now c.requires) v
