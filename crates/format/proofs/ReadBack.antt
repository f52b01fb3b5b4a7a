-- The decimal digits of a number are read back as that number, whatever follows them that is no digit. So no two numbers have the same
-- digits: `number_read_back`, and `decimals_differ`, which takes the number and what follows it out of a text.
use mathlib.Core.Path.{◌≡◌, refl, sym, ap, ◌∙◌}
use mathlib.Core.Bool.{true, false}
use mathlib.Core.List.{List, [], ◌∷◌, ◌++◌, append_assoc}
use Prim.Native.Nat.{ℕ, zero, suc, ◌+◌, ◌*◌, ◌-◌, ◌/◌, ◌%◌, ◌≤◌, ◌<◌}
use native.Mathlib.Nat.{not-suc-le-zero}
use native.Mathlib.Omega.{arith}
use borrow.Author.Tests.{le-leb, ne_eqb}
use Rattle.schedule.proofs.Tests.{by_lt}
use Rattle.format.specs.Bytes.{digit_zero, is_digit, value_of, decimal}
use Rattle.format.specs.Spelling.{read, digits, number}
use Rattle.format.proofs.Decimal.{decimal_one, decimal_more}

-- a digit's byte, and its value
digit_byte : (d : ℕ) → d < 10 → is_digit (digit_zero + d) ≡ true
digit_byte d h = rw (le-leb digit_zero (digit_zero + d) (omega arith), le-leb (digit_zero + d) (digit_zero + 9) (omega arith))

digit_value : (d : ℕ) → value_of (digit_zero + d) ≡ d
digit_value d = omega arith

-- a digit more
digits_more : (v d : ℕ) (s : List ℕ) → d < 10 → digits v ((digit_zero + d) ∷ s) ≡ digits (v * 10 + d) s
unfolding digits
digits_more v d s h = rw (digit_byte d h, digit_value d)

digits_end : (v c : ℕ) (s : List ℕ) → is_digit c ≡ false → digits v (c ∷ s) ≡ read v (c ∷ s)
unfolding digits
digits_end v c s e = rw e

-- the first digit, where it is no 0
first_digit : (d : ℕ) (s : List ℕ) → 1 ≤ d → d < 10 → number ((digit_zero + d) ∷ s) ≡ digits d s
unfolding number
first_digit d s a h = rw (digit_byte d h, ne_eqb (digit_zero + d) digit_zero (λ e. omega arith), digit_value d)

zero_digit : (s : List ℕ) → number (digit_zero ∷ s) ≡ read 0 s
unfolding number
zero_digit s = refl

-- `most` bounds n
scanned : (most n : ℕ) (s : List ℕ) → n < most → 1 ≤ n → number (decimal n ++ s) ≡ digits n s
scanned zero n s a b = absurd (not-suc-le-zero a)
scanned (suc most) n s a b =
    by_lt n 10
    (λ h. rw (decimal_one n h) (first_digit n s b h))
    (λ h.
    let e : n / 10 * 10 + n % 10 ≡ n = omega arith in
    rw (decimal_more n h, append_assoc (decimal (n / 10)) ((digit_zero + n % 10) ∷ []) s)
    (scanned most (n / 10) ((digit_zero + n % 10) ∷ s) (omega arith) (omega arith) ∙ digits_more (n / 10) (n % 10) s (omega arith)
    ∙ ap (λ (v : ℕ). digits v s) e))

pub number_read_back : (n c : ℕ) (s : List ℕ) → is_digit c ≡ false → number (decimal n ++ (c ∷ s)) ≡ read n (c ∷ s)
number_read_back zero c s e = rw (decimal_one 0 (omega arith)) (zero_digit (c ∷ s))
number_read_back (suc n) c s e = scanned (suc (suc n)) (suc n) (c ∷ s) (omega arith) (omega arith) ∙ digits_end (suc n) c s e

pub decimals_differ : (m n c : ℕ) (s t : List ℕ) → is_digit c ≡ false → decimal m ++ (c ∷ s) ≡ decimal n ++ (c ∷ t) → (m ≡ n) × (s ≡ t)
decimals_differ m n c s t e p = let q : read m (c ∷ s) ≡ read n (c ∷ t) = sym (number_read_back m c s e) ∙ ap number p ∙ number_read_back n c t e in (cc, cc)
