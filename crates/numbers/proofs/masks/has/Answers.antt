-- `has` meets its contract: past the width no bit is set.
use mathlib.Core.Path.{sym}
use borrow.Author.Tests.{le-ltb}
use Rattle.numbers.specs.Masks.{width}
use Rattle.numbers.proofs.MaskLaws.{bit_wide}
use Rattle.numbers.proofs.masks.has.Goals as goal

pub returns-else-k-lt-BITS : goal.returns-else-k-lt-BITS
returns-else-k-lt-BITS c =
    let a = c.args in
    rw (le-ltb a.k width c.if-k-lt-BITS.false) (sym (bit_wide a.mask a.k c.ranges.mask.fits c.if-k-lt-BITS.false))
