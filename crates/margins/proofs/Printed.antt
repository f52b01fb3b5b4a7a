-- The text of margins tells its numbers: no other figures, and no other limits, have the same text.
use mathlib.Core.Path.{◌≡◌, refl, sym, ap, ◌∙◌}
use mathlib.Core.Bool.{cond}
use mathlib.Core.List.{List, [], ◌∷◌, ◌++◌, append_assoc}
use Prim.Native.Nat.{ℕ, suc, ◌-◌, ◌≤◌, ◌<◌}
use Prim.Native.String.{String}
use native.Mathlib.Omega.{arith}
use lib.ListN.{length}
use borrow.Author.Tests.{le-leb, lt-leb}
use Rattle.schedule.proofs.Tests.{by_lt}
use Rattle.format.specs.Bytes.{bytes, line_feed, equals, decimal}
use Rattle.format.specs.Spelling.{Scan, read, wrong, number}
use Rattle.format.proofs.ReadBack.{number_read_back, decimals_differ}
use Rattle.rules.specs.Answers.{answer_line}
use Rattle.margins.specs.Margins.{minus, margin_of_one, margin_line, margin_lines, margin_text}

-- a line with any value
abbrev line_of : String → List ℕ → List ℕ
line_of name value = bytes name ++ (equals ∷ value ++ (line_feed ∷ []))

after_same : (p s t : List ℕ) → p ++ s ≡ p ++ t → s ≡ t
after_same [] s t e = e
after_same (x ∷ p) s t e = after_same p s t (let f : p ++ s ≡ p ++ t = cc in f)

opened : (name : String) (v s : List ℕ) → line_of name v ++ s ≡ bytes name ++ (equals ∷ (v ++ (line_feed ∷ s)))
opened name v s = simp append_assoc

behind_heading : (name : String) (v w s t : List ℕ) → line_of name v ++ s ≡ line_of name w ++ t → v ++ (line_feed ∷ s) ≡ w ++ (line_feed ∷ t)
behind_heading name v w s t e =
    let f : equals ∷ (v ++ (line_feed ∷ s)) ≡ equals ∷ (w ++ (line_feed ∷ t)) =
    after_same (bytes name) _ _ (sym (opened name v s) ∙ e ∙ opened name w t) in
    cc

number_tells : (name : String) (v w : ℕ) (s t : List ℕ) → answer_line name v ++ s ≡ answer_line name w ++ t → (v ≡ w) × (s ≡ t)
unfolding answer_line
number_tells name v w s t e = decimals_differ v w line_feed s t refl (behind_heading name (decimal v) (decimal w) s t e)

-- a number does not begin with a minus sign
no_sign : (n : ℕ) (s t : List ℕ) → decimal n ++ (line_feed ∷ s) ≡ minus ∷ t → ⊥
unfolding number
no_sign n s t e =
    let q : ◌≡◌ {A = Scan ℕ} (read n (line_feed ∷ s)) (wrong (minus ∷ t)) = sym (number_read_back n line_feed s refl) ∙ ap number e in
    let z : ◌≡◌ {A = ℕ} 0 1 = cc in
    omega arith

-- of one figure, no two limits have the same margin
value_tells : (l m f : ℕ) (s t : List ℕ) → margin_of_one l f ++ (line_feed ∷ s) ≡ margin_of_one m f ++ (line_feed ∷ t) → (l ≡ m) × (s ≡ t)
value_tells l m f s t e = by_lt l f (λ a. by_lt m f (both_over a) (over_kept a)) (λ a. by_lt m f (kept_over a) (both_kept a))
  where
    kept : (k : ℕ) → f ≤ k → margin_of_one k f ≡ decimal (k - f)
    kept k h = rw (le-leb f k h)

    over : (k : ℕ) → k < f → margin_of_one k f ≡ minus ∷ decimal (f - k)
    over k h = rw (lt-leb f k h)

    both_over : l < f → m < f → (l ≡ m) × (s ≡ t)
    both_over a b =
        let g : minus ∷ (decimal (f - l) ++ (line_feed ∷ s)) ≡ minus ∷ (decimal (f - m) ++ (line_feed ∷ t)) = rw (over l a, over m b) at e in
        let (p, q) = decimals_differ (f - l) (f - m) line_feed s t refl (let h : decimal (f - l) ++ (line_feed ∷ s) ≡ decimal (f - m) ++ (line_feed ∷ t) = cc in h) in
        (omega arith, q)

    over_kept : l < f → f ≤ m → (l ≡ m) × (s ≡ t)
    over_kept a b =
        let g : minus ∷ (decimal (f - l) ++ (line_feed ∷ s)) ≡ decimal (m - f) ++ (line_feed ∷ t) = rw (over l a, kept m b) at e in
        absurd (no_sign (m - f) t (decimal (f - l) ++ (line_feed ∷ s)) (sym g))

    kept_over : f ≤ l → m < f → (l ≡ m) × (s ≡ t)
    kept_over a b =
        let g : decimal (l - f) ++ (line_feed ∷ s) ≡ minus ∷ (decimal (f - m) ++ (line_feed ∷ t)) = rw (kept l a, over m b) at e in
        absurd (no_sign (l - f) s (decimal (f - m) ++ (line_feed ∷ t)) g)

    both_kept : f ≤ l → f ≤ m → (l ≡ m) × (s ≡ t)
    both_kept a b =
        let g : decimal (l - f) ++ (line_feed ∷ s) ≡ decimal (m - f) ++ (line_feed ∷ t) = rw (kept l a, kept m b) at e in
        let (p, q) = decimals_differ (l - f) (m - f) line_feed s t refl g in
        (omega arith, q)

margin_tells : (l m f : ℕ) (s t : List ℕ) → margin_line l f ++ s ≡ margin_line m f ++ t → (l ≡ m) × (s ≡ t)
unfolding margin_line
margin_tells l m f s t e = value_tells l m f s t (behind_heading "margin" (margin_of_one l f) (margin_of_one m f) s t e)

-- a line is not empty
line_some : (v : ℕ) (s : List ℕ) → answer_line "response" v ++ s ≡ [] → ⊥
unfolding answer_line
line_some v s e = let z : ◌≡◌ {A = ℕ} 0 1 = cc in omega arith

lines_tell : (fs gs ls ms : List ℕ) → length ls ≡ length fs → length ms ≡ length gs → margin_lines fs ls ≡ margin_lines gs ms → (fs ≡ gs) × (ls ≡ ms)
unfolding margin_lines
lines_tell [] [] [] [] a b e = (refl, refl)
lines_tell [] [] (l ∷ ls) ms a b e = absurd (let z : ◌≡◌ {A = ℕ} 0 1 = omega arith in omega arith)
lines_tell [] [] [] (m ∷ ms) a b e = absurd (let z : ◌≡◌ {A = ℕ} 0 1 = omega arith in omega arith)
lines_tell [] (g ∷ gs) ls ms a b e = absurd (line_some g _ (sym e))
lines_tell (f ∷ fs) [] ls ms a b e = absurd (line_some f _ e)
lines_tell (f ∷ fs) (g ∷ gs) [] ms a b e = absurd (omega arith)
lines_tell (f ∷ fs) (g ∷ gs) (l ∷ ls) [] a b e = absurd (omega arith)
lines_tell (f ∷ fs) (g ∷ gs) (l ∷ ls) (m ∷ ms) a b e =
    let (v, rest) = number_tells "response" f g _ _ e in
    let same : margin_line l f ++ margin_lines fs ls ≡ margin_line m f ++ margin_lines gs ms = rest ∙ ap (λ (x : ℕ). margin_line m x ++ margin_lines gs ms) (sym v) in
    let (k, more) = margin_tells l m f _ _ same in
    let (p, q) = lines_tell fs gs ls ms (omega arith) (omega arith) more in
    ((cc), (cc))

pub margin_text_tells : (k r t u : ℕ) (fs gs ls ms : List ℕ) → length ls ≡ length fs → length ms ≡ length gs → margin_text k t fs ls ≡ margin_text r u gs ms
    → (k ≡ r) × (t ≡ u) × (fs ≡ gs) × (ls ≡ ms)
unfolding margin_text
margin_text_tells k r t u fs gs ls ms x y e =
    let (z, a) = number_tells "answer" 0 0 _ _ e in
    let (p, b) = number_tells "round" k r _ _ a in
    let (q, c) = number_tells "ticks" t u _ _ b in
    let (f, l) = lines_tell fs gs ls ms x y c in
    (p, q, f, l)
