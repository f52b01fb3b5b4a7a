-- The mask of a list that keeps the predecessor rules has a one at each of its numbers, and no other.
use mathlib.Core.Path.{◌≡◌, sym, ◌∙◌, ap}
use mathlib.Core.Bool.{Bool, true, ◌&&◌, ◌||◌, or-false, or_assoc, or_comm}
use mathlib.Core.List.{List, [], ◌∷◌}
use Prim.Native.Nat.{ℕ, zero, suc, ◌-◌, ◌<◌, ◌≤◌}
use native.Mathlib.Omega.{arith}
use lib.Dec.{ltb, eqb, eqb-suc-suc}
use borrow.Author.Tests.{ltb-true}
use Rattle.schedule.specs.Lists.{any?}
use Rattle.schedule.specs.WellFormed.{rising, orderly}
use Rattle.theorems.proofs.Formed.{first_of_lem, second_of}
use Rattle.numbers.specs.Masks.{width, bit, with}
use Rattle.numbers.proofs.MaskLaws.{no_bit, bit_with}
use Rattle.scanning.specs.Masks.{mask_from, mask_of}

-- the numbers of a list that a mask has room for
abbrev pub Fits : List ℕ → Type 0
Fits [] = Unit {0}
Fits (x ∷ xs) = (0 < x) × (x ≤ width) × Fits xs

rising_fits : (own last : ℕ) (l : List ℕ) → own ≤ suc width → rising own last l ≡ true → Fits l
unfolding rising
rising_fits own last [] h e = tt
rising_fits own last (x ∷ xs) h e =
    let here = first_of_lem (ltb last x && ltb x own) (rising own x xs) e in
    let above = ltb-true last x (first_of_lem (ltb last x) (ltb x own) here) in
    let below = ltb-true x own (second_of (ltb last x) (ltb x own) here) in
    (omega arith, omega arith, rising_fits own x xs h (second_of (ltb last x && ltb x own) (rising own x xs) e))

pub orderly_fits : (own : ℕ) (l : List ℕ) → own ≤ suc width → orderly own l ≡ true → Fits l
unfolding orderly
orderly_fits own [] h e = tt
orderly_fits own (x ∷ xs) h e = rising_fits own 0 (x ∷ xs) h e

-- a mask has a one at each number of its list
mask_from_bit : (l : List ℕ) (m j : ℕ) → Fits l → bit (mask_from m l) j ≡ bit m j || any? (eqb (suc j)) l
unfolding mask_from
mask_from_bit [] m j f = sym (or-false (bit m j))
mask_from_bit (zero ∷ xs) m j f = absurd (omega (arith, f.0))
mask_from_bit (suc x ∷ xs) m j f =
    let e : suc x - 1 ≡ x = omega arith in
    let rest = any? (eqb (suc j)) xs in
    mask_from_bit xs (with m (suc x - 1)) j f.2
    ∙ ap (λ (b : Bool). b || rest)
    (bit_with m (suc x - 1) j (omega (arith, f.1)) ∙ ap (λ (z : ℕ). eqb j z || bit m j) e ∙ ap (λ (b : Bool). b || bit m j) (sym (eqb-suc-suc j x))
    ∙ or_comm (eqb (suc j) (suc x)) (bit m j))
    ∙ or_assoc (bit m j) (eqb (suc j) (suc x)) rest

pub mask_bit : (l : List ℕ) (j : ℕ) → Fits l → bit (mask_of l) j ≡ any? (eqb (suc j)) l
mask_bit l j f = mask_from_bit l 0 j f ∙ ap (λ (b : Bool). b || any? (eqb (suc j)) l) (no_bit j)
