-- `digits` meets its contract: each call takes the last digit off, and the number falls.
use mathlib.Core.Path.{◌≡◌, sym, ap, ◌∙◌}
use Prim.Native.Nat.{ℕ, ◌+◌}
use native.Mathlib.Omega.{arith}
use lib.ListN.{length}
use Rattle.format.specs.Bytes.{decimal}
use Rattle.writing.proofs.Counting.{digits_one, digits_more, digits_most}
use Rattle.writing.proofs.number.+digits.Goals as goal

pub returns-then-v-lt10 : goal.returns-then-v-lt10
returns-then-v-lt10 t c = record { size = sym (digits_one c.args.v c.if-v-lt10.true); within = omega arith }

pub returns-else-v-lt10 : goal.returns-else-v-lt10
returns-else-v-lt10 t c =
    let v = c.args.v in
    let e : c.digits.result + 1 ≡ length (decimal v) = ap (λ (k : ℕ). k + 1) c.digits.ensures.size ∙ sym (digits_more v c.if-v-lt10.false) in
    record { size = e; within = omega (arith, digits_most 9 v (omega (arith, c.ranges.v))) }
