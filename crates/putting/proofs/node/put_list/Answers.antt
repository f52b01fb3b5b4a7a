-- `put_list` meets its contract: `none`, or the numbers.
use mathlib.Core.Path.{ap}
use native.Mathlib.Omega.{arith}
use lib.ListN.{length}
use Rattle.writing.proofs.Writing.{named}
use Rattle.putting.proofs.MaskText.{none_is}
use Rattle.putting.proofs.node.put_list.Goals as goal

pub put_bytes-requires : goal.put_bytes-requires
put_bytes-requires c = omega (arith, c.requires, ap length (none_is c.args.mask c.if-mask-eq0.true))

pub put_numbers-requires : goal.put_numbers-requires
put_numbers-requires c = (omega (arith, c.if-mask-eq0.false), c.requires)

pub returns-then-mask-eq0 : goal.returns-then-mask-eq0
returns-then-mask-eq0 c = named (none_is c.args.mask c.if-mask-eq0.true) c.put_bytes.ensures

pub returns-else-mask-eq0 : goal.returns-else-mask-eq0
returns-else-mask-eq0 c = c.put_numbers.ensures
