-- How many decimal digits a number has.
use mathlib.Core.Path.{◌≡◌, ap, ◌∙◌}
use mathlib.Core.List.{[], ◌∷◌}
use Prim.Native.Nat.{ℕ, zero, suc, ◌+◌, ◌/◌, ◌%◌, ◌^◌, ◌≤◌, ◌<◌}
use native.Mathlib.Nat.{pow-suc}
use native.Mathlib.Omega.{arith}
use lib.ListN.{length, length-append}
use Rattle.format.specs.Bytes.{digit_zero, decimal}
use Rattle.schedule.proofs.Tests.{by_lt}
use Rattle.format.proofs.Decimal.{decimal_one, decimal_more}

pub digits_one : (n : ℕ) → n < 10 → length (decimal n) ≡ 1
digits_one n h = ap length (decimal_one n h)

pub digits_more : (n : ℕ) → 10 ≤ n → length (decimal n) ≡ length (decimal (n / 10)) + 1
digits_more n h = ap length (decimal_more n h) ∙ length-append (decimal (n / 10)) ((digit_zero + n % 10) ∷ [])

pub digits_most : (k n : ℕ) → n < 10 ^ suc k → length (decimal n) ≤ suc k
digits_most zero n h = omega (arith, digits_one n h)
digits_most (suc k) n h =
    by_lt n 10 (λ small. omega (arith, digits_one n small))
    (λ large. omega (arith, digits_more n large, digits_most k (n / 10) (omega (arith, pow-suc 10 (suc k)))))
