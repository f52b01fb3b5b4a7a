-- `put_heading` meets its contract: the name in the code's key, and `=` where it ended.
use Rattle.std.proofs.Common.{arith}
use Rattle.format.specs.Bytes.{equals}
use Rattle.table.specs.Keys.{place}
use Rattle.writer.specs.Writing.{heading_text}
use Rattle.writing.proofs.Writing.{named, then_byte}
use Rattle.putting.proofs.NameLaws.{heading_long}
use Rattle.putting.proofs.node.put_heading.Goals as goal

pub put_bytes-at-requires : goal.put_bytes-at-requires
put_bytes-at-requires c = rw c.name.ensures (omega (arith, c.requires, heading_long (place c.args.k)))

pub bounds-part-at : goal.bounds-part-at
bounds-part-at c =
    let p = named c.name.ensures c.put_bytes-at.ensures in
    omega (arith, p.size, c.requires, heading_long (place c.args.k), c.put_bytes-at.auto.part, c.well_formed.0.0)

pub overflow_add-result : goal.overflow_add-result
overflow_add-result c =
    let p = named c.name.ensures c.put_bytes-at.ensures in
    omega (arith, p.size, c.requires, heading_long (place c.args.k), c.put_bytes-at.auto.part, c.well_formed.0.0)

pub returns : goal.returns
unfolding heading_text
returns c =
    let p = named c.name.ensures c.put_bytes-at.ensures in
    then_byte p equals (omega (arith, c.requires, heading_long (place c.args.k)))
