-- The scanners at a position of the bytes: at the end, and at a byte. Two laws, `next` and `past`, carry the others.
use mathlib.Core.Path.{◌≡◌, refl, sym, ◌∙◌, ap}
use mathlib.Core.Bool.{true, false, cond}
use mathlib.Core.List.{List, [], ◌∷◌, tail}
use Prim.Native.Nat.{ℕ, ◌+◌, ◌*◌, ◌<◌, ◌≤◌}
use native.Mathlib.Numerals.{add-one}
use native.Mathlib.Omega.{arith}
use lib.Dec.{leb, eqb}
use lib.ListN.{length, get_or, drop, drop_of_length-le}
use lib.Seq.{drop-cons}
use borrow.Author.Tests.{eq-eqb, ne_eqb, leb-true, leb-false}
use Rattle.format.specs.Bytes.{digit_zero, is_digit, value_of}
use Rattle.format.specs.Spelling.{read, wrong, ◌⟫◌, text, digits, number, next?}
use Rattle.theorems.proofs.Formed.{first_of_lem, second_of}
use Rattle.schedule.proofs.Tests.{by_test}
use Rattle.scanning.specs.Positions.{far, kept, capped}

-- one more byte: the code's p + 1
pub next : (s : List ℕ) (p : ℕ) → p < length s → drop p s ≡ get_or s p 0 ∷ drop (p + 1) s
next s p h = rw (add-one p) (drop-cons s p 0 h)

pub past : (s : List ℕ) (p : ℕ) → length s ≤ p → drop p s ≡ []
past s p h = drop_of_length-le s h

-- a text: its first byte, and the bytes behind that
text_first : (t : ℕ) (ts s : List ℕ) → text (t ∷ ts) s ≡ text (t ∷ []) s ⟫ (λ u rest. text ts rest)
unfolding text
text_first t ts [] = refl
text_first t ts (c ∷ s) = by_test (eqb c t) (λ e. rw e) (λ e. rw e)

-- the part of it from i on
pub text_step : (t b : List ℕ) (i : ℕ) → i < length t → text (drop i t) b ≡ text (get_or t i 0 ∷ []) b ⟫ (λ u rest. text (drop (i + 1) t) rest)
text_step t b i h = rw (next t i h) (text_first (get_or t i 0) (drop (i + 1) t) b)

pub text_done : (t b : List ℕ) (i : ℕ) → length t ≤ i → text (drop i t) b ≡ read tt b
unfolding text
text_done t b i h = rw (past t i h)

-- the next byte
pub next_past : (c : ℕ) (s : List ℕ) (p : ℕ) → length s ≤ p → next? c (drop p s) ≡ false
next_past c s p h = rw (past s p h)

pub next_in : (c : ℕ) (s : List ℕ) (p : ℕ) → next? c (drop p s) ≡ true → p < length s
next_in c s p e = by_test (leb (length s) p) (λ t. absurd (no (sym (next_past c s p (leb-true (length s) p t)) ∙ e))) (λ t. leb-false (length s) p t)
  where
    no : false ≡ true → ⊥
    no q = let z : ◌≡◌ {A = ℕ} 0 1 = cc in omega arith

pub tail_drop : (s : List ℕ) (q : ℕ) → q < length s → tail (drop q s) ≡ drop (q + 1) s
tail_drop s q h = rw (next s q h)

-- a text of one byte
pub byte_found : (b : ℕ) (s : List ℕ) (p : ℕ) → next? b (drop p s) ≡ true → text (b ∷ []) (drop p s) ≡ read tt (drop (p + 1) s)
unfolding text
byte_found b s p e = by_rest (drop p s) e ∙ ap (λ (r : List ℕ). read tt r) (tail_drop s p (next_in b s p e))
  where
    by_rest : (r : List ℕ) → next? b r ≡ true → text (b ∷ []) r ≡ read tt (tail r)
    by_rest [] e = absurd (let z : ◌≡◌ {A = ℕ} 0 1 = cc in omega arith)
    by_rest (c ∷ r) e = rw e

pub byte_missed : (b : ℕ) (r : List ℕ) → next? b r ≡ false → text (b ∷ []) r ≡ wrong r
unfolding text
byte_missed b [] e = refl
byte_missed b (c ∷ r) e = rw e

-- digits
pub digit_value : (c : ℕ) → is_digit c ≡ true → (digit_zero ≤ c) × (c ≤ digit_zero + 9)
digit_value c e = (
  leb-true digit_zero c (first_of_lem (leb digit_zero c) (leb c (digit_zero + 9)) e),
  leb-true c (digit_zero + 9) (second_of (leb digit_zero c) (leb c (digit_zero + 9)) e),
)

digits_more : (v : ℕ) (s : List ℕ) (p : ℕ) → p < length s → is_digit (get_or s p 0) ≡ true
    → digits v (drop p s) ≡ digits (v * 10 + value_of (get_or s p 0)) (drop (p + 1) s)
unfolding digits
digits_more v s p h e = rw (next s p h, e)

-- a number that is past every limit stays so, whatever digits follow
capped_digits : (v : ℕ) (b : List ℕ) → capped (digits (kept v) b) ≡ capped (digits v b)
unfolding digits
capped_digits v [] = ap (λ (x : ℕ). read x []) (omega arith)
capped_digits v (c ∷ rest) =
    by_test (is_digit c)
    (λ e. grow e (capped_digits (kept v * 10 + value_of c) rest) (capped_digits (v * 10 + value_of c) rest))
    (λ e. rw e (ap (λ (x : ℕ). read x (c ∷ rest)) (omega arith)))
  where
    grow : is_digit c ≡ true → capped (digits (kept (kept v * 10 + value_of c)) rest) ≡ capped (digits (kept v * 10 + value_of c) rest)
        → capped (digits (kept (v * 10 + value_of c)) rest) ≡ capped (digits (v * 10 + value_of c) rest)
        → capped (cond (is_digit c) (digits (kept v * 10 + value_of c) rest) (read (kept v) (c ∷ rest)))
        ≡ capped (cond (is_digit c) (digits (v * 10 + value_of c) rest) (read v (c ∷ rest)))
    grow e p q =
        let m : kept (kept v * 10 + value_of c) ≡ kept (v * 10 + value_of c) = omega arith in
        rw e (sym p ∙ ap (λ (x : ℕ). capped (digits x rest)) m ∙ q)

capped_read : (v : ℕ) (b : List ℕ) → v ≤ far → capped (read v b) ≡ read v b
capped_read v b h = ap (λ (x : ℕ). read x b) (omega arith)

-- the digits of a number that is kept at far: one more, and none
module _ (v : ℕ) (s : List ℕ) (p : ℕ) where
  pub more_digits : p < length s → is_digit (get_or s p 0) ≡ true
      → capped (digits v (drop p s)) ≡ capped (digits (kept (v * 10 + value_of (get_or s p 0))) (drop (p + 1) s))
  more_digits h e = ap capped (digits_more v s p h e) ∙ sym (capped_digits (v * 10 + value_of (get_or s p 0)) (drop (p + 1) s))

  pub no_digit : v ≤ far → p < length s → is_digit (get_or s p 0) ≡ false → capped (digits v (drop p s)) ≡ read v (drop p s)
  unfolding digits
  no_digit l h e = rw (next s p h, e, ← next s p h) (capped_read v (drop p s) l)

  pub digits_past : v ≤ far → length s ≤ p → capped (digits v (drop p s)) ≡ read v (drop p s)
  unfolding digits
  digits_past l h = rw (past s p h) (capped_read v [] l)

-- a number: at the end, at a byte that is no digit, at a 0, and at another digit
module _ (s : List ℕ) (p : ℕ) where
  pub number_past : length s ≤ p → number (drop p s) ≡ wrong (drop p s)
  unfolding number
  number_past h = rw (past s p h)

  module _ (h : p < length s) where
    pub number_other : is_digit (get_or s p 0) ≡ false → number (drop p s) ≡ wrong (drop p s)
    unfolding number
    number_other e = rw (next s p h, e)

    pub number_zero : is_digit (get_or s p 0) ≡ true → get_or s p 0 ≡ digit_zero → number (drop p s) ≡ read 0 (drop (p + 1) s)
    unfolding number
    number_zero e z = rw (next s p h, e, eq-eqb (get_or s p 0) digit_zero z)

    pub number_more : is_digit (get_or s p 0) ≡ true → (get_or s p 0 ≡ digit_zero → ⊥) → number (drop p s) ≡ digits (value_of (get_or s p 0)) (drop (p + 1) s)
    unfolding number
    number_more e z = rw (next s p h, e, ne_eqb (get_or s p 0) digit_zero z)
