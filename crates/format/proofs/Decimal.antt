-- The decimal digits of a number: one digit below ten; else those of its tenth, and one more. So the steps of `decimal_by` never run out.
use mathlib.Core.Path.{◌≡◌, ap}
use mathlib.Core.List.{List, [], ◌∷◌, ◌++◌}
use Prim.Native.Nat.{ℕ, zero, suc, ◌+◌, ◌/◌, ◌%◌, ◌≤◌, ◌<◌}
use native.Mathlib.Nat.{not-suc-le-zero}
use native.Mathlib.Omega.{arith}
use borrow.Author.Tests.{lt-ltb, le-ltb}
use Rattle.format.specs.Bytes.{digit_zero, decimal_by, decimal}
use Rattle.schedule.proofs.Tests.{by_lt}

-- more steps than the number change nothing
enough_steps : (s r n : ℕ) → n < s → n < r → decimal_by s n ≡ decimal_by r n
unfolding decimal_by
enough_steps zero r n a b = absurd (not-suc-le-zero a)
enough_steps (suc s) zero n a b = absurd (not-suc-le-zero b)
enough_steps (suc s) (suc r) n a b =
    by_lt n 10 (λ h. rw (lt-ltb n 10 h))
    (λ h. rw (le-ltb n 10 h) (ap (λ (l : List ℕ). l ++ ((digit_zero + n % 10) ∷ [])) (enough_steps s r (n / 10) (omega arith) (omega arith))))

pub decimal_one : (n : ℕ) → n < 10 → decimal n ≡ (digit_zero + n) ∷ []
unfolding decimal decimal_by
decimal_one n h = rw (lt-ltb n 10 h)

pub decimal_more : (n : ℕ) → 10 ≤ n → decimal n ≡ decimal (n / 10) ++ ((digit_zero + n % 10) ∷ [])
unfolding decimal decimal_by
decimal_more n h = rw (le-ltb n 10 h) (ap (λ (l : List ℕ). l ++ ((digit_zero + n % 10) ∷ [])) (enough_steps n (suc (n / 10)) (n / 10) (omega arith) (omega arith)))
