-- `put_number` meets its contract: the digits of the tenth are written before the last digit, and the number falls.
use mathlib.Core.Path.{sym}
use Prim.Native.Nat.{◌+◌, ◌%◌}
use native.Mathlib.Omega.{arith}
use Rattle.format.specs.Bytes.{digit_zero}
use Rattle.format.proofs.Decimal.{decimal_one, decimal_more}
use Rattle.writing.proofs.Counting.{digits_one, digits_more}
use Rattle.writing.proofs.Writing.{nothing, named, then_byte}
use Rattle.writing.proofs.number.+put_number.Goals as goal

pub bounds-part-0 : goal.bounds-part-0
bounds-part-0 t c = omega (arith, digits_one c.args.v c.if-v-lt10.true, c.requires)

pub returns-then-v-lt10 : goal.returns-then-v-lt10
returns-then-v-lt10 t c =
    let a = c.args in
    named (sym (decimal_one a.v c.if-v-lt10.true))
    (then_byte (nothing a.part.now) (digit_zero + a.v) (omega (arith, digits_one a.v c.if-v-lt10.true, c.requires)))

pub put_number-n-requires : goal.put_number-n-requires
put_number-n-requires t c =
    (omega (arith, c.decreases), omega (arith, digits_more c.args.v (omega arith), c.requires))

pub bounds-part-n : goal.bounds-part-n
bounds-part-n t c =
    omega (arith, digits_more c.args.v (omega arith), c.requires, c.put_number-n.ensures.size, c.put_number-n.auto.part)

pub returns : goal.returns
returns t c =
    named (sym (decimal_more c.args.v (omega arith)))
    (then_byte c.put_number-n.ensures (digit_zero + c.args.v % 10) (omega (arith, digits_more c.args.v (omega arith), c.requires)))
