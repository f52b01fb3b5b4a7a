-- Euclid's rule step by step; and a least common multiple is never below its first number.
use mathlib.Core.Path.{◌≡◌, refl, subst}
use Prim.Native.Nat.{ℕ, zero, suc, ◌*◌, ◌/◌, ◌%◌, ◌<◌, ◌≤◌}
use native.Mathlib.Nat.{mod-lt, zero-lt-suc, not-suc-le-zero, le_refl, mul-le-mul_left, div-mul_cancel, le_of_dvd}
use native.Mathlib.Omega.{arith}
use Rattle.schedule.specs.Table.{euclid, gcd, lcm}
use Rattle.theorems.proofs.Hyperperiod.{gcd_divides}

fuel : (n m a b : ℕ) → b ≤ n → b ≤ m → euclid n a b ≡ euclid m a b
unfolding euclid
fuel zero zero a b h g = refl
fuel zero (suc m) a zero h g = refl
fuel zero (suc m) a (suc b) h g = absurd (not-suc-le-zero h)
fuel (suc n) zero a zero h g = refl
fuel (suc n) zero a (suc b) h g = absurd (not-suc-le-zero g)
fuel (suc n) (suc m) a zero h g = refl
fuel (suc n) (suc m) a (suc b) h g =
    let l = mod-lt a (zero-lt-suc b) in fuel n m (suc b) (a % suc b) (omega arith) (omega arith)

pub gcd_zero : (a : ℕ) → gcd a 0 ≡ a
unfolding gcd euclid
gcd_zero a = refl

pub gcd_step : (a b : ℕ) → (b ≡ 0 → ⊥) → gcd a b ≡ gcd b (a % b)
unfolding gcd euclid
gcd_step a zero h = absurd (h refl)
gcd_step a (suc b) h = let l = mod-lt a (zero-lt-suc b) in fuel b (a % suc b) (suc b) (a % suc b) (omega arith) (le_refl (a % suc b))

pub lcm_grows : (a b : ℕ) → 0 < b → a ≤ lcm a b
unfolding lcm
lcm_grows a b h =
    let g = gcd a b in
    let (p, q) = gcd_divides a b in
    subst (λ (x : ℕ). x ≤ a / g * b) (div-mul_cancel g {m = a} p) (mul-le-mul_left (a / g) (le_of_dvd h q))
