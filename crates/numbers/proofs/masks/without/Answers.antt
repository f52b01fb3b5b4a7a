-- `without` meets its contract: a bit that is set lies below the width.
use mathlib.Core.Path.{sym, ◌∙◌}
use Rattle.numbers.proofs.MaskLaws.{bit_below, shifted_one}
use Rattle.numbers.proofs.masks.without.Goals as goal

pub overflow_shl-result : goal.overflow_shl-result
overflow_shl-result c =
    let a = c.args in
    bit_below a.mask a.k c.ranges.mask.fits (sym c.has.ensures ∙ c.if-has.true)

pub returns-then-has : goal.returns-then-has
returns-then-has c =
    let a = c.args in
    let e = sym c.has.ensures ∙ c.if-has.true in
    rw (e, shifted_one a.k (bit_below a.mask a.k c.ranges.mask.fits e))
