-- A list that keeps the predecessor rules is the list of its mask.
use mathlib.Core.Path.{◌≡◌, refl, ◌∙◌, ap}
use mathlib.Core.Bool.{Bool, true, false, ◌&&◌, cond}
use mathlib.Core.List.{List, [], ◌∷◌}
use Prim.Native.Nat.{ℕ, zero, suc, ◌+◌, ◌-◌, ◌<◌, ◌≤◌}
use native.Mathlib.Omega.{arith}
use lib.Arith.{lt_of_le-ne}
use lib.Dec.{ltb, eqb}
use borrow.Author.Tests.{eq-eqb, ne_eqb, ltb-true, eqb-true, eqb-false, lt-ltb}
use Rattle.schedule.specs.Limits as Limits
use Rattle.schedule.specs.Lists.{any?, keep, numbers}
use Rattle.schedule.specs.WellFormed.{rising, orderly}
use Rattle.theorems.proofs.Formed.{first_of_lem, second_of}
use Rattle.schedule.proofs.Tests.{by_test}
use Rattle.numbers.specs.Masks.{bit}
use Rattle.scanning.specs.Masks.{mask_of, list_of}
use Rattle.scanning.proofs.MaskBits.{orderly_fits, mask_bit}

-- the n numbers after lo that stand in l
abbrev picked : ℕ → ℕ → List ℕ → List ℕ
picked lo n l = keep (λ (p : ℕ). any? (eqb p) l) (numbers (suc lo) n)

module _ (own : ℕ) where
  -- the first number of a list that rises from `last`, and the others
  above : (last x : ℕ) (xs : List ℕ) → rising own last (x ∷ xs) ≡ true → last < x
  unfolding rising
  above last x xs e = ltb-true last x (first_of_lem (ltb last x) (ltb x own) (first_of_lem (ltb last x && ltb x own) (rising own x xs) e))

  below : (last x : ℕ) (xs : List ℕ) → rising own last (x ∷ xs) ≡ true → x < own
  unfolding rising
  below last x xs e = ltb-true x own (second_of (ltb last x) (ltb x own) (first_of_lem (ltb last x && ltb x own) (rising own x xs) e))

  others : (last x : ℕ) (xs : List ℕ) → rising own last (x ∷ xs) ≡ true → rising own x xs ≡ true
  unfolding rising
  others last x xs e = second_of (ltb last x && ltb x own) (rising own x xs) e

  -- it rises from any number below its first
  raised : (last more x : ℕ) (xs : List ℕ) → rising own last (x ∷ xs) ≡ true → more < x → rising own more (x ∷ xs) ≡ true
  unfolding rising
  raised last more x xs e h = rw (lt-ltb more x h, lt-ltb x own (below last x xs e)) (others last x xs e)

  -- nothing at or below `last` stands in it
  none_below : (l : List ℕ) (last y : ℕ) → rising own last l ≡ true → y ≤ last → any? (eqb y) l ≡ false
  none_below [] last y e h = refl
  none_below (x ∷ xs) last y e h =
      let f = above last x xs e in
      rw (ne_eqb y x (λ (g : y ≡ x). omega arith)) (none_below xs x y (others last x xs e) (omega arith))

  -- a number that is passed does not count
  passed : (n lo x : ℕ) (xs : List ℕ) → x ≤ lo → picked lo n (x ∷ xs) ≡ picked lo n xs
  passed zero lo x xs h = refl
  passed (suc n) lo x xs h =
      rw (ne_eqb (suc lo) x (λ (g : suc lo ≡ x). omega arith))
      (ap (λ (z : List ℕ). cond (any? (eqb (suc lo)) xs) (suc lo ∷ z) z) (passed n (suc lo) x xs (omega arith)))

  nothing : (n lo : ℕ) → picked lo n [] ≡ []
  nothing zero lo = refl
  nothing (suc n) lo = nothing n (suc lo)

  picked_all : (n lo : ℕ) (l : List ℕ) → rising own lo l ≡ true → own ≤ lo + n + 1 → picked lo n l ≡ l
  picked_all n lo [] e h = nothing n lo
  picked_all zero lo (x ∷ xs) e h = absurd (omega (arith, above lo x xs e, below lo x xs e))
  picked_all (suc n) lo (x ∷ xs) e h =
      by_test (eqb (suc lo) x)
      (λ t. here (eqb-true (suc lo) x t) (picked_all n (suc lo) xs))
      (λ t. later (eqb-false (suc lo) x t) (picked_all n (suc lo) (x ∷ xs)))
    where
      here : suc lo ≡ x → (rising own (suc lo) xs ≡ true → own ≤ suc lo + n + 1 → picked (suc lo) n xs ≡ xs) → picked lo (suc n) (x ∷ xs) ≡ x ∷ xs
      here t ih =
          let r : rising own (suc lo) xs ≡ true = rw t (others lo x xs e) in
          rw (eq-eqb (suc lo) x t) (ap (λ (z : List ℕ). suc lo ∷ z) (passed n (suc lo) x xs (omega arith) ∙ ih r (omega arith)) ∙ ap (λ (z : ℕ). z ∷ xs) t)

      later : (suc lo ≡ x → ⊥) → (rising own (suc lo) (x ∷ xs) ≡ true → own ≤ suc lo + n + 1 → picked (suc lo) n (x ∷ xs) ≡ x ∷ xs)
          → picked lo (suc n) (x ∷ xs) ≡ x ∷ xs
      later t ih =
          let r = raised lo (suc lo) x xs e (lt_of_le-ne (above lo x xs e) t) in
          ap (λ (b : Bool). cond b (suc lo ∷ picked (suc lo) n (x ∷ xs)) (picked (suc lo) n (x ∷ xs))) (none_below (x ∷ xs) (suc lo) (suc lo) r (omega arith))
          ∙ ih r (omega arith)

-- bit by bit
same_bits : (n lo m : ℕ) (l : List ℕ) → ((j : ℕ) → bit m j ≡ any? (eqb (suc j)) l) → keep (λ (p : ℕ). bit m (p - 1)) (numbers (suc lo) n) ≡ picked lo n l
same_bits zero lo m l h = refl
same_bits (suc n) lo m l h =
    let e : suc lo - 1 ≡ lo = omega arith in
    ap (λ (z : List ℕ). cond (bit m (suc lo - 1)) (suc lo ∷ z) z) (same_bits n (suc lo) m l h)
    ∙ ap (λ (b : Bool). cond b (suc lo ∷ picked (suc lo) n l) (picked (suc lo) n l)) (ap (bit m) e ∙ h lo)

pub list_of_mask : (own : ℕ) (l : List ℕ) → own ≤ (Limits.nodes).to → orderly own l ≡ true → list_of (mask_of l) ≡ l
unfolding orderly
list_of_mask own l h e =
    same_bits (Limits.predecessor).to 0 (mask_of l) l (λ j. mask_bit l j (orderly_fits own l (omega arith) e)) ∙ all l e
  where
    all : (l : List ℕ) → orderly own l ≡ true → picked 0 (Limits.predecessor).to l ≡ l
    all [] f = nothing own (Limits.predecessor).to 0
    all (x ∷ xs) f = picked_all own (Limits.predecessor).to 0 (x ∷ xs) f (omega arith)
