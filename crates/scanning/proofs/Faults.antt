-- The first number of a list that breaks the rules, found one number after the other.
use mathlib.Core.Path.{◌≡◌, refl, sym, ◌∙◌, ap, subst}
use mathlib.Core.Bool.{Bool, true, false, ◌&&◌, cond, and-false}
use mathlib.Core.List.{List, [], ◌∷◌, tail}
use Prim.Native.Nat.{ℕ, zero, suc, ◌+◌, ◌<◌, ◌≤◌}
use native.Mathlib.Nat.{not-suc-le-zero}
use native.Mathlib.Omega.{arith}
use lib.Dec.{leb, ltb}
use lib.ListN.{length}
use borrow.Author.Tests.{le-ltb, leb-true, leb-false}
use Rattle.format.specs.Bytes.{comma}
use Rattle.format.specs.Spelling.{read, wrong, number, next?}
use Rattle.format.specs.Reading.{offending_by}
use Rattle.schedule.proofs.Tests.{by_test}
use Rattle.scanning.specs.Positions.{far, kept, capped}
use Rattle.scanning.proofs.Images.{image_read, image_wrong}
use Rattle.scanning.proofs.Predecessors.{Takes, number_takes}

abbrev pub rises : ℕ → ℕ → ℕ → Bool
rises own last v = ltb last v && ltb v own

-- a number past every limit breaks the rules as the number kept at far does
rises_kept : (own last v : ℕ) → own ≤ far → rises own last (kept v) ≡ rises own last v
rises_kept own last v h = by_test (leb v far) near away
  where
    near : leb v far ≡ true → rises own last (kept v) ≡ rises own last v
    near e = let f = leb-true v far e in let g : kept v ≡ v = omega arith in rw g

    out : (x : ℕ) → own ≤ x → rises own last x ≡ false
    out x i = rw (le-ltb x own i) (and-false (ltb last x))

    away : leb v far ≡ false → rises own last (kept v) ≡ rises own last v
    away e = let f = leb-false v far e in out (kept v) (omega arith) ∙ sym (out v (omega arith))

-- one that keeps them is kept whole
kept_whole : (own last v : ℕ) → own ≤ far → rises own last (kept v) ≡ true → kept v ≡ v
kept_whole own last v h e = by_test (leb v far) near away
  where
    near : leb v far ≡ true → kept v ≡ v
    near f = let g = leb-true v far f in omega arith

    away : leb v far ≡ false → kept v ≡ v
    away f =
        let g = leb-false v far f in
        let lost : rises own last (kept v) ≡ false = rw (le-ltb (kept v) own (omega arith)) (and-false (ltb last (kept v))) in
        absurd (let z : true ≡ false = sym e ∙ lost in let y : ◌≡◌ {A = ℕ} 0 1 = cc in omega arith)

-- a number takes a byte
pub took : (b : List ℕ) (v : ℕ) (rest : List ℕ) → read v rest ≡ capped (number b) → length rest + 1 ≤ length b
took b v rest e = subst (Takes 1 b) (image_read kept (number b) v rest e).1 (number_takes b)

module _ (own last : ℕ) (b : List ℕ) (n : ℕ) where
  -- what is no number
  pub fault_no_number : (rest : List ℕ) → wrong rest ≡ capped (number b) → offending_by n own last b ≡ b
  unfolding offending_by
  fault_no_number rest e = by_bound n
    where
      by_bound : (n : ℕ) → offending_by n own last b ≡ b
      by_bound zero = refl
      by_bound (suc m) = rw (image_wrong kept (number b) rest e)

  module _ (h : own ≤ far) (v : ℕ) (rest : List ℕ) (e : read v rest ≡ capped (number b)) where
    from : (m : ℕ) → offending_by (suc m) own last b ≡ cond (rises own last v && next? comma rest) (offending_by m own v (tail rest)) b
    unfolding offending_by
    from m =
        let (w, p, q) = image_read kept (number b) v rest e in
        rw p (by_test (rises own last (kept w)) (λ t. taken w q t) (λ t. lost w q t))
      where
        taken : (w : ℕ) → v ≡ kept w → rises own last (kept w) ≡ true
            → cond (rises own last w && next? comma rest) (offending_by m own w (tail rest)) b ≡ cond (rises own last v && next? comma rest) (offending_by m own v (tail rest)) b
        taken w q t = ap (λ (x : ℕ). cond (rises own last x && next? comma rest) (offending_by m own x (tail rest)) b) (sym (kept_whole own last w h t) ∙ sym q)

        lost : (w : ℕ) → v ≡ kept w → rises own last (kept w) ≡ false
            → cond (rises own last w && next? comma rest) (offending_by m own w (tail rest)) b ≡ cond (rises own last v && next? comma rest) (offending_by m own v (tail rest)) b
        lost w q t = rw (q, t, sym (rises_kept own last w h) ∙ t)

    -- this one, where it breaks the rules or is the last
    pub fault_here : rises own last v && next? comma rest ≡ false → offending_by n own last b ≡ b
    unfolding offending_by
    fault_here t = by_bound n
      where
        by_bound : (n : ℕ) → offending_by n own last b ≡ b
        by_bound zero = refl
        by_bound (suc m) = from m ∙ rw t

    -- else one of those behind the comma
    pub fault_later : length b < n → next? comma rest ≡ true → rises own last v && next? comma rest ≡ true
        → (m : ℕ) × (length (tail rest) < m) × (offending_by n own last b ≡ offending_by m own v (tail rest))
    fault_later l k t = by_bound n l
      where
        shorter : (r : List ℕ) → next? comma r ≡ true → suc (length (tail r)) ≡ length r
        shorter [] f = absurd (let z : ◌≡◌ {A = ℕ} 0 1 = cc in omega arith)
        shorter (x ∷ r) f = refl

        by_bound : (n : ℕ) → length b < n → (m : ℕ) × (length (tail rest) < m) × (offending_by n own last b ≡ offending_by m own v (tail rest))
        by_bound zero l = absurd (not-suc-le-zero l)
        by_bound (suc m) l = (m, omega (arith, took b v rest e, shorter rest k), from m ∙ rw t)
