-- The list is empty exactly when the text is unchanged. Shown at the end: `no_fixes_unchanged` and `unchanged_no_fixes`.
use mathlib.Core.Path.{◌≡◌, refl, sym, ap, subst, ◌∙◌}
use mathlib.Core.Bool.{Bool, true, false, not, cond}
use mathlib.Core.List.{List, [], ◌∷◌, ◌++◌}
use Prim.Native.Nat.{ℕ, suc}
use native.Mathlib.Omega.{arith}
use lib.Dec.{eqb}
use borrow.Author.Tests.{eqb-true, not-false}
use Rattle.schedule.specs.Lists.{alike}
use Rattle.schedule.proofs.Tests.{by_test}
use Rattle.theorems.proofs.Formed.{first_of_lem, second_of}
use Rattle.format.specs.Bytes.{line_feed}
use Rattle.salvaging.specs.Lines.{Line, begun, lines_of, empty?}
use Rattle.salvaging.specs.Steps.{without_returns, trimmed, unpadded, mended, left_of, salvaged}
use Rattle.salvaging.specs.Fixes.{changed, fix, fix_if, fixes_kept, fixes_of_line, fixes_from, fixes_of}
use Rattle.salvaging.proofs.Again.{no_fixes_again}

-- an empty text has no parts
nothing_first : (s t : List ℕ) → s ++ t ≡ [] → s ≡ []
nothing_first [] t e = refl
nothing_first (c ∷ s) t e = absurd (let z : ◌≡◌ {A = ℕ} 0 1 = cc in omega arith)

nothing_second : (s t : List ℕ) → s ++ t ≡ [] → t ≡ []
nothing_second [] t e = e
nothing_second (c ∷ s) t e = absurd (let z : ◌≡◌ {A = ℕ} 0 1 = cc in omega arith)

some_fix : (n k : ℕ) → fix n k ≡ [] → ⊥
unfolding fix
some_fix n k e = let z : ◌≡◌ {A = ℕ} 0 1 = cc in omega arith

no_fix : (b : Bool) (n k : ℕ) → fix_if b n k ≡ [] → b ≡ false
no_fix true n k e = absurd (some_fix n k e)
no_fix false n k e = refl

alike_same : (s t : List ℕ) → alike eqb s t ≡ true → s ≡ t
alike_same [] [] e = refl
alike_same [] (d ∷ t) e = absurd (let z : ◌≡◌ {A = ℕ} 0 1 = cc in omega arith)
alike_same (c ∷ s) [] e = absurd (let z : ◌≡◌ {A = ℕ} 0 1 = cc in omega arith)
alike_same (c ∷ s) (d ∷ t) e =
    let f : c ≡ d = eqb-true c d (first_of_lem (eqb c d) (alike eqb s t) e) in
    let g : s ≡ t = alike_same s t (second_of (eqb c d) (alike eqb s t) e) in
    cc

unchanged_same : (s t : List ℕ) → changed s t ≡ false → t ≡ s
unchanged_same s t e = sym (alike_same s t (not-false (alike eqb s t) e))

-- the bytes of the lines, with their LFs
abbrev text_of : List Line → List ℕ
text_of [] = []
text_of (l ∷ ls) = l.body ++ cond l.ended (line_feed ∷ text_of ls) (text_of ls)

begun_text : (c : ℕ) (ls : List Line) → text_of (begun c ls) ≡ c ∷ text_of ls
begun_text c [] = refl
begun_text c (l ∷ ls) = refl

lines_text : (s : List ℕ) → text_of (lines_of s) ≡ s
unfolding lines_of
lines_text [] = refl
lines_text (c ∷ s) =
    let i = lines_text s in
    by_test (eqb c line_feed) (λ f. rw (f, i) (ap (λ (x : ℕ). x ∷ s) (sym (eqb-true c line_feed f))))
    (λ f. rw f (begun_text c (lines_of s) ∙ ap (λ (t : List ℕ). c ∷ t) i))

-- a line that is not listed is as it was
record Same (l : Line) : Type 0 where
  bytes : mended l.body ≡ l.body
  some : empty? (mended l.body) ≡ false
  closed : l.ended ≡ true

kept_same : (n : ℕ) (l : Line) (t : List ℕ) → cond (empty? t) (fix n 3) (fixes_kept n (changed t (unpadded t)) l.ended) ≡ []
    → (empty? t ≡ false) × (unpadded t ≡ t) × (l.ended ≡ true)
unfolding fixes_kept
kept_same n l t e =
    by_test (empty? t) (λ f. absurd (some_fix n 3 (rw f at e)))
    (λ f. let g : fix_if (changed t (unpadded t)) n 4 ++ fix_if (not l.ended) n 5 ≡ [] = rw f at e in (
      f,
      unchanged_same t (unpadded t) (no_fix (changed t (unpadded t)) n 4 (nothing_first (fix_if (changed t (unpadded t)) n 4) (fix_if (not l.ended) n 5) g)),
      not-false l.ended (no_fix (not l.ended) n 5 (nothing_second (fix_if (changed t (unpadded t)) n 4) (fix_if (not l.ended) n 5) g)),
    ))

unlisted : (n : ℕ) (l : Line) → fixes_of_line n l ≡ [] → Same l
unfolding fixes_of_line mended
unlisted n l e =
    let a = without_returns l.body in
    let t = trimmed a in
    let rest = cond (empty? t) (fix n 3) (fixes_kept n (changed t (unpadded t)) l.ended) in
    let x = fix_if (changed l.body a) n 1 in
    let y = fix_if (changed a t) n 2 in
    let e2 : y ++ rest ≡ [] = nothing_second x (y ++ rest) e in
    let k = kept_same n l t (nothing_second y rest e2) in
    let same-a : a ≡ l.body = unchanged_same l.body a (no_fix (changed l.body a) n 1 (nothing_first x (y ++ rest) e)) in
    let same-t : t ≡ a = unchanged_same a t (no_fix (changed a t) n 2 (nothing_first y rest e2)) in
    record {
      bytes = k.1 ∙ same-t ∙ same-a;
      some = ap empty? k.1 ∙ k.0;
      closed = k.2;
    }

left_same : (n : ℕ) (ls : List Line) → fixes_from n ls ≡ [] → left_of ls ≡ text_of ls
unfolding fixes_from left_of
left_same n [] e = refl
left_same n (l ∷ ls) e =
    let h = unlisted n l (nothing_first (fixes_of_line n l) (fixes_from (suc n) ls) e) in
    let i = left_same (suc n) ls (nothing_second (fixes_of_line n l) (fixes_from (suc n) ls) e) in
    rw (h.some, h.closed, i) (ap (λ (b : List ℕ). b ++ (line_feed ∷ text_of ls)) h.bytes)

pub no_fixes_unchanged : (s : List ℕ) → fixes_of s ≡ [] → salvaged s ≡ s
unfolding fixes_of salvaged
no_fixes_unchanged s e = left_same 1 (lines_of s) e ∙ lines_text s

pub unchanged_no_fixes : (s : List ℕ) → salvaged s ≡ s → fixes_of s ≡ []
unchanged_no_fixes s e = subst (λ (t : List ℕ). fixes_of t ≡ []) e (no_fixes_again s)
