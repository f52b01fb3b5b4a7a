-- A number that is read stands there in decimal. Shown at the end: `number_scanned`. (That a number in decimal is read back is `number_read_back`.)
use mathlib.Core.Path.{◌≡◌, refl, sym, ap, subst, ◌∙◌}
use mathlib.Core.Bool.{Bool, true}
use mathlib.Core.List.{List, [], ◌∷◌, ◌++◌, append_assoc}
use Prim.Native.Nat.{ℕ, ◌+◌, ◌*◌, ◌/◌, ◌%◌, ◌≤◌}
use native.Mathlib.Omega.{arith}
use lib.Dec.{leb, eqb}
use borrow.Author.Tests.{leb-true, eqb-true, eqb-false}
use Rattle.schedule.proofs.Tests.{by_test}
use Rattle.theorems.proofs.Formed.{first_of_lem, second_of}
use Rattle.format.specs.Bytes.{digit_zero, is_digit, value_of, decimal}
use Rattle.format.specs.Spelling.{Scan, read, wrong, digits, number}
use Rattle.format.proofs.Decimal.{decimal_one, decimal_more}

module _ {A : Type 0} where
  -- P holds of the value and the bytes after it, where there are any
  abbrev pub Scanned : (A → List ℕ → Type 0) → Scan A → Type 0
  Scanned P (read a rest) = P a rest
  Scanned P (wrong rest) = Unit {0}

-- a digit is that of its value
digit_of : (c : ℕ) → is_digit c ≡ true → (digit_zero ≤ c) × (c ≤ digit_zero + 9)
digit_of c e = (leb-true digit_zero c (first_of_lem (leb digit_zero c) (leb c (digit_zero + 9)) e), leb-true c (digit_zero + 9) (second_of (leb digit_zero c) (leb c (digit_zero + 9)) e))

digit_more : (v c : ℕ) (s : List ℕ) → 1 ≤ v → is_digit c ≡ true → decimal (v * 10 + value_of c) ++ s ≡ decimal v ++ (c ∷ s)
digit_more v c s l e =
    let d = digit_of c e in
    let a : (v * 10 + value_of c) / 10 ≡ v = omega (arith, d.0, d.1) in
    let b : digit_zero + (v * 10 + value_of c) % 10 ≡ c = omega (arith, d.0, d.1) in
    ap (λ (l : List ℕ). l ++ s) (decimal_more (v * 10 + value_of c) (omega arith))
    ∙ append_assoc (decimal ((v * 10 + value_of c) / 10)) ((digit_zero + (v * 10 + value_of c) % 10) ∷ []) s
    ∙ ap (λ (k : ℕ). decimal k ++ ((digit_zero + (v * 10 + value_of c) % 10) ∷ s)) a
    ∙ ap (λ (k : ℕ). decimal v ++ (k ∷ s)) b

digits_scanned : (v : ℕ) (s : List ℕ) → 1 ≤ v → Scanned (λ w rest. decimal v ++ s ≡ decimal w ++ rest) (digits v s)
unfolding digits
digits_scanned v [] l = refl
digits_scanned v (c ∷ s) l =
    by_test (is_digit c)
    (λ e. rw e (subst (λ (t : List ℕ). Scanned (λ w rest. t ≡ decimal w ++ rest) (digits (v * 10 + value_of c) s)) (digit_more v c s l e)
    (digits_scanned (v * 10 + value_of c) s (omega arith))))
    (λ e. rw e refl)

pub number_scanned : (s : List ℕ) → Scanned (λ v rest. s ≡ decimal v ++ rest) (number s)
unfolding number
number_scanned [] = tt
number_scanned (c ∷ s) =
    by_test (is_digit c)
    (λ e. rw e (by_test (eqb c digit_zero)
    (λ f. rw f (nought (eqb-true c digit_zero f)))
    (λ f. rw f (some e (eqb-false c digit_zero f)))))
    (λ e. rw e tt)
  where
    nought : c ≡ digit_zero → c ∷ s ≡ decimal 0 ++ s
    nought f = ap (λ (k : ℕ). k ∷ s) f ∙ ap (λ (l : List ℕ). l ++ s) (sym (decimal_one 0 (omega arith)))

    some : is_digit c ≡ true → (c ≡ digit_zero → ⊥) → Scanned (λ v rest. c ∷ s ≡ decimal v ++ rest) (digits (value_of c) s)
    some e f =
        let d = digit_of c e in
        let z : digit_zero + value_of c ≡ c = omega (arith, d.0) in
        let same : decimal (value_of c) ++ s ≡ c ∷ s = ap (λ (l : List ℕ). l ++ s) (decimal_one (value_of c) (omega (arith, d.1))) ∙ ap (λ (k : ℕ). k ∷ s) z in
        subst (λ (t : List ℕ). Scanned (λ v rest. t ≡ decimal v ++ rest) (digits (value_of c) s)) same
        (digits_scanned (value_of c) s (omega (arith, d.0, f)))
