-- The text of a report tells its numbers: no two reports of other numbers have the same text.
use mathlib.Core.Path.{◌≡◌, refl, sym, ◌∙◌}
use mathlib.Core.List.{List, [], ◌∷◌, ◌++◌, append_assoc}
use Prim.Native.Nat.{ℕ}
use Prim.Native.String.{String}
use native.Mathlib.Omega.{arith}
use Rattle.format.specs.Bytes.{bytes, line_feed, equals, decimal}
use Rattle.format.proofs.ReadBack.{decimals_differ}
use Rattle.rules.specs.Answers.{answer_line, response_lines, report_text}

-- what follows the same bytes
after_same : (p s t : List ℕ) → p ++ s ≡ p ++ t → s ≡ t
after_same [] s t e = e
after_same (x ∷ p) s t e = after_same p s t (let f : p ++ s ≡ p ++ t = cc in f)

-- a line and what follows it
opened : (name : String) (v : ℕ) (s : List ℕ) → answer_line name v ++ s ≡ bytes name ++ (equals ∷ (decimal v ++ (line_feed ∷ s)))
unfolding answer_line
opened name v s = simp append_assoc

line_tells : (name : String) (v w : ℕ) (s t : List ℕ) → answer_line name v ++ s ≡ answer_line name w ++ t → (v ≡ w) × (s ≡ t)
line_tells name v w s t e =
    let f : equals ∷ (decimal v ++ (line_feed ∷ s)) ≡ equals ∷ (decimal w ++ (line_feed ∷ t)) =
    after_same (bytes name) _ _ (sym (opened name v s) ∙ e ∙ opened name w t) in
    decimals_differ v w line_feed s t refl (let g : decimal v ++ (line_feed ∷ s) ≡ decimal w ++ (line_feed ∷ t) = cc in g)

-- a line is not empty
line_some : (v : ℕ) (s : List ℕ) → answer_line "response" v ++ s ≡ [] → ⊥
unfolding answer_line
line_some v s e = let z : ◌≡◌ {A = ℕ} 0 1 = cc in omega arith

responses_tell : (fs gs : List ℕ) → response_lines fs ≡ response_lines gs → fs ≡ gs
unfolding response_lines
responses_tell [] [] e = refl
responses_tell [] (g ∷ gs) e = absurd (line_some g (response_lines gs) (sym e))
responses_tell (f ∷ fs) [] e = absurd (line_some f (response_lines fs) e)
responses_tell (f ∷ fs) (g ∷ gs) e =
    let (v, rest) = line_tells "response" f g (response_lines fs) (response_lines gs) e in
    let same : fs ≡ gs = responses_tell fs gs rest in
    cc

pub report_text_tells : (k l t u : ℕ) (fs gs : List ℕ) → report_text k t fs ≡ report_text l u gs → (k ≡ l) × (t ≡ u) × (fs ≡ gs)
unfolding report_text
report_text_tells k l t u fs gs e =
    let (z, a) = line_tells "answer" 0 0 _ _ e in
    let (p, b) = line_tells "round" k l _ _ a in
    let (q, c) = line_tells "ticks" t u _ _ b in
    (p, q, responses_tell fs gs c)
