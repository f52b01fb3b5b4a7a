-- A line judged: what code knows of its value stands for the value.
use mathlib.Core.Path.{◌≡◌, refl, sym, ◌∙◌, ap}
use mathlib.Core.Bool.{Bool, true, false, and-false}
use mathlib.Core.List.{List, [], ◌∷◌}
use Prim.Native.Nat.{ℕ, suc, ◌+◌, ◌<◌, ◌≤◌}
use native.Mathlib.Omega.{arith}
use lib.Dec.{leb, eqb}
use lib.ListN.{length, drop}
use borrow.Author.Tests.{leb-true, leb-false, lt-leb}
use Rattle.format.specs.Bytes.{line_feed, equals}
use Rattle.format.specs.Keys as Keys
use Rattle.format.specs.Keys.{key_at}
use Rattle.schedule.specs.Limits.{Range}
use Rattle.format.specs.Spelling.{Scan, read, wrong, ◌⟫◌, text, heading}
use Rattle.format.specs.Reading.{column_at, value_column, value_in}
use Rattle.schedule.specs.WellFormed.{within}
use Rattle.theorems.proofs.Formed.{within_limits}
use Rattle.schedule.proofs.Tests.{by_test}
use Rattle.scanning.specs.Positions.{far, kept}
use Rattle.scanning.specs.Masks.{mask_of, fair_list, listing, in_order}
use Rattle.lines.specs.Lines.{judge_by, closed, same, always, predecessors}
use Rattle.scanning.proofs.Predecessors.{in_order_lem, listing_mask}

-- a value that was judged before LF was looked for
module _ {A : Type 0} (coded : A → ℕ) (fair : A → Bool) (fault : List ℕ) (w : A) where
  judged_before : (x : Scan (Unit {0}))
      → judge_by same (always (fair w)) fault (x ⟫ (λ u rest. read (coded w) rest)) ≡ judge_by coded fair fault (x ⟫ (λ u rest. read w rest))
  judged_before (read u rest) = refl
  judged_before (wrong rest) = refl

  -- as code holds it, if it is fair
  pub closed_value : (v : ℕ) (b : List ℕ) → (fair w ≡ true → v ≡ coded w) → judge_by same (always (fair w)) fault (closed v b) ≡ judge_by coded fair fault (closed w b)
  closed_value v b e = by_value (text (line_feed ∷ []) b) ∙ judged_before (text (line_feed ∷ []) b)
    where
      by_value : (x : Scan (Unit {0}))
          → judge_by same (always (fair w)) fault (x ⟫ (λ u rest. read v rest)) ≡ judge_by same (always (fair w)) fault (x ⟫ (λ u rest. read (coded w) rest))
      by_value (wrong rest) = refl
      by_value (read u rest) = by_test (fair w) (λ f. rw (e f)) (λ f. rw f)

-- a number kept at far is outside its limits as the number itself is
within_kept : (r : Range) (v : ℕ) → r.to < far → within r (kept v) ≡ within r v
within_kept r v h = by_test (leb v far) near away
  where
    near : leb v far ≡ true → within r (kept v) ≡ within r v
    near e = let f = leb-true v far e in let g : kept v ≡ v = omega arith in rw g

    out : (x : ℕ) → far ≤ x → within r x ≡ false
    out x l = rw (lt-leb x r.to (omega arith)) (and-false (leb r.from x))

    away : leb v far ≡ false → within r (kept v) ≡ within r v
    away e = let f = leb-false v far e in out (kept v) (omega arith) ∙ sym (out v (omega arith))

pub closed_number : (r : Range) (w : ℕ) (fault b : List ℕ) → r.to < far
    → judge_by same (always (within r (kept w))) fault (closed (kept w) b) ≡ judge_by same (within r) fault (closed w b)
closed_number r w fault b h =
    ap (λ (f : Bool). judge_by same (always f) fault (closed (kept w) b)) (within_kept r w h)
    ∙ closed_value same (within r) fault w (kept w) b (λ e. whole (within_limits r w e).1)
  where
    whole : w ≤ r.to → kept w ≡ w
    whole l = omega arith

pub closed_list : (own : ℕ) (w : List ℕ) (fault b : List ℕ)
    → judge_by same (always (in_order own (listing predecessors own w))) fault (closed (listing predecessors own w).mask b)
    ≡ judge_by mask_of (fair_list predecessors own) fault (closed w b)
unfolding Keys.keys
closed_list own w fault b =
    ap (λ (f : Bool). judge_by same (always f) fault (closed (listing predecessors own w).mask b)) (in_order_lem predecessors own w (omega arith))
    ∙ closed_value mask_of (fair_list predecessors own) fault w (listing predecessors own w).mask b (listing_mask predecessors own w)

-- of a value that is fair it doesn't matter what would be at fault
pub fair_alike : (f g : List ℕ) (x : Scan ℕ) → judge_by same (always true) f x ≡ judge_by same (always true) g x
fair_alike f g (read v rest) = refl
fair_alike f g (wrong rest) = refl

-- behind its heading stands a line's value
heading_read : (name b r : List ℕ) → read tt r ≡ heading name b → (drop (suc (length name)) b ≡ r) × (length r + suc (length name) ≡ length b)
unfolding text
heading_read [] [] r e = absurd (let z : ◌≡◌ {A = ℕ} 0 1 = cc in omega arith)
heading_read [] (c ∷ b) r e =
    by_test (eqb c equals)
    (λ f. let g : ◌≡◌ {A = Scan (Unit {0})} (read tt r) (read tt b) = rw f at e in let i : b ≡ r = cc in (i, rw i (omega arith)))
    (λ f. absurd (let g : ◌≡◌ {A = Scan (Unit {0})} (read tt r) (wrong (c ∷ b)) = rw f at e in let z : ◌≡◌ {A = ℕ} 0 1 = cc in omega arith))
heading_read (t ∷ name) [] r e = absurd (let z : ◌≡◌ {A = ℕ} 0 1 = cc in omega arith)
heading_read (t ∷ name) (c ∷ b) r e =
    by_test (eqb c t)
    (λ f. let (d, l) = heading_read name b r (rw f at e) in (d, omega arith))
    (λ f. absurd (let g : ◌≡◌ {A = Scan (Unit {0})} (read tt r) (wrong (c ∷ b)) = rw f at e in let z : ◌≡◌ {A = ℕ} 0 1 = cc in omega arith))

pub value_read : (k : ℕ) (b r : List ℕ) → read tt r ≡ heading (key_at k).name b → value_in k b ≡ r
value_read k b r e = (heading_read (key_at k).name b r e).0

pub value_column_lem : (k : ℕ) (b r : List ℕ) → read tt r ≡ heading (key_at k).name b → column_at b (value_in k b) ≡ value_column k
value_column_lem k b r e =
    let (d, l) = heading_read (key_at k).name b r e in
    rw d (omega arith)
