-- A second pass of salvage changes nothing. Shown at the end: `salvaged_again` and `no_fixes_again`.
use mathlib.Core.Path.{◌≡◌, refl, sym, ap, subst, ◌∙◌}
use mathlib.Core.Bool.{Bool, true, false, not, ◌&&◌}
use mathlib.Core.List.{List, [], ◌∷◌, ◌++◌}
use Prim.Native.Nat.{ℕ, suc}
use native.Mathlib.Omega.{arith}
use lib.Dec.{eqb}
use borrow.Author.Tests.{eq-eqb, eqb-true, not-true}
use Rattle.schedule.specs.Lists.{all?, keep, alike}
use Rattle.schedule.proofs.Tests.{by_test}
use Rattle.theorems.proofs.Formed.{both, first_of_lem, second_of}
use Rattle.format.specs.Bytes.{line_feed, equals, digit_zero, is_digit}
use Rattle.salvaging.specs.Lines.{Line, begun, lines_of, empty?}
use Rattle.salvaging.specs.Steps.{blank, plain?, without_returns, trimmed, digit_next?, unpadded_from, unpadded, mended, left_of, salvaged}
use Rattle.salvaging.specs.Fixes.{fixes_kept, fixes_of_line, fixes_from, fixes_of}

-- a byte that ends no line
abbrev pub within_line? : ℕ → Bool
within_line? c = not (eqb c line_feed)

-- a test that every byte passes before a step, every byte passes after it
module _ (p : ℕ → Bool) where
  keep_all : (q : ℕ → Bool) (s : List ℕ) → all? p s ≡ true → all? p (keep q s) ≡ true
  keep_all q [] e = refl
  keep_all q (c ∷ s) e =
      let i = keep_all q s (second_of (p c) (all? p s) e) in
      by_test (q c) (λ f. rw f (both (first_of_lem (p c) (all? p s) e) i)) (λ f. rw f i)

  trimmed_all : (s : List ℕ) → all? p s ≡ true → all? p (trimmed s) ≡ true
  unfolding trimmed
  trimmed_all [] e = refl
  trimmed_all (c ∷ s) e =
      let i = trimmed_all s (second_of (p c) (all? p s) e) in
      by_test (eqb c blank && empty? (trimmed s)) (λ f. rw f refl) (λ f. rw f (both (first_of_lem (p c) (all? p s) e) i))

  unpadded_from_all : (r : Bool) (s : List ℕ) → all? p s ≡ true → all? p (unpadded_from r s) ≡ true
  unfolding unpadded_from
  unpadded_from_all r [] e = refl
  unpadded_from_all r (c ∷ s) e =
      let h = second_of (p c) (all? p s) e in
      by_test (not r && (eqb c digit_zero && digit_next? s))
      (λ f. rw f (unpadded_from_all false s h))
      (λ f. rw f (both (first_of_lem (p c) (all? p s) e) (unpadded_from_all (is_digit c) s h)))

  unpadded_all : (s : List ℕ) → all? p s ≡ true → all? p (unpadded s) ≡ true
  unfolding unpadded
  unpadded_all [] e = refl
  unpadded_all (c ∷ s) e =
      let h = second_of (p c) (all? p s) e in
      both (first_of_lem (p c) (all? p s) e)
      (by_test (eqb c equals) (λ f. rw f (unpadded_from_all false s h)) (λ f. rw f (unpadded_all s h)))

  mended_all : (s : List ℕ) → all? p s ≡ true → all? p (mended s) ≡ true
  unfolding mended without_returns
  mended_all s e = unpadded_all (trimmed (keep plain? s)) (trimmed_all (keep plain? s) (keep_all plain? s e))

  pub kept_all : (s : List ℕ) → all? p (keep p s) ≡ true
  kept_all [] = refl
  kept_all (c ∷ s) = by_test (p c) (λ f. rw f (both f (kept_all s))) (λ f. rw f (kept_all s))

  pub all_kept : (s : List ℕ) → all? p s ≡ true → keep p s ≡ s
  all_kept [] e = refl
  all_kept (c ∷ s) e = rw (first_of_lem (p c) (all? p s) e) (ap (λ (l : List ℕ). c ∷ l) (all_kept s (second_of (p c) (all? p s) e)))

-- each step leaves what it made
returns_again : (s : List ℕ) → without_returns (mended s) ≡ mended s
unfolding without_returns mended
returns_again s = all_kept plain? (mended s) (unpadded_all plain? (trimmed (keep plain? s)) (trimmed_all plain? (keep plain? s) (kept_all plain? s)))

trimmed_again : (s : List ℕ) → trimmed (trimmed s) ≡ trimmed s
unfolding trimmed
trimmed_again [] = refl
trimmed_again (c ∷ s) =
    by_test (eqb c blank && empty? (trimmed s)) (λ f. rw f refl)
    (λ f. rw f (rw (trimmed_again s, f) refl))

unpadded_from_empty : (r : Bool) (s : List ℕ) → empty? (unpadded_from r s) ≡ empty? s
unfolding unpadded_from
unpadded_from_empty r [] = refl
unpadded_from_empty r (c ∷ s) =
    by_test (not r && (eqb c digit_zero && digit_next? s))
    (λ f. rw f (unpadded_from_empty false s ∙ some s (second_of (eqb c digit_zero) (digit_next? s) (second_of (not r) (eqb c digit_zero && digit_next? s) f))))
    (λ f. rw f refl)
  where
    some : (s : List ℕ) → digit_next? s ≡ true → empty? s ≡ false
    some [] e = sym e
    some (d ∷ s) e = refl

unpadded_empty : (s : List ℕ) → empty? (unpadded s) ≡ empty? s
unfolding unpadded
unpadded_empty [] = refl
unpadded_empty (c ∷ s) = refl

-- what a trimmed text that is not empty says of its first byte and the others
not_nil : {c : ℕ} {s : List ℕ} → ◌≡◌ {A = List ℕ} [] (c ∷ s) → ⊥
not_nil e = let z : ◌≡◌ {A = ℕ} 0 1 = cc in omega arith

pub trimmed_first : (c : ℕ) (s : List ℕ) → trimmed (c ∷ s) ≡ c ∷ s → (trimmed s ≡ s) × ((eqb c blank && empty? s) ≡ false)
unfolding trimmed
trimmed_first c s e =
    by_test (eqb c blank && empty? (trimmed s))
    (λ f. absurd (not_nil (rw f at e)))
    (λ f. let g : trimmed s ≡ s = inner (rw f at e) in (g, subst (λ (t : List ℕ). (eqb c blank && empty? t) ≡ false) g f))
  where
    inner : c ∷ trimmed s ≡ c ∷ s → trimmed s ≡ s
    inner g = cc

-- a byte before a text that is trimmed
pub trimmed_cons : (c : ℕ) (s : List ℕ) → trimmed s ≡ s → (eqb c blank && empty? s) ≡ false → trimmed (c ∷ s) ≡ c ∷ s
unfolding trimmed
trimmed_cons c s e f = rw (e, f) refl

unpadded_from_trimmed : (r : Bool) (s : List ℕ) → trimmed s ≡ s → trimmed (unpadded_from r s) ≡ unpadded_from r s
unfolding unpadded_from
unpadded_from_trimmed r [] e = e
unpadded_from_trimmed r (c ∷ s) e =
    let h = trimmed_first c s e in
    by_test (not r && (eqb c digit_zero && digit_next? s))
    (λ f. rw f (unpadded_from_trimmed false s h.0))
    (λ f. rw f (trimmed_cons c (unpadded_from (is_digit c) s) (unpadded_from_trimmed (is_digit c) s h.0)
    (rw (unpadded_from_empty (is_digit c) s) h.1)))

unpadded_trimmed : (s : List ℕ) → trimmed s ≡ s → trimmed (unpadded s) ≡ unpadded s
unfolding unpadded
unpadded_trimmed [] e = e
unpadded_trimmed (c ∷ s) e =
    let h = trimmed_first c s e in
    by_test (eqb c equals)
    (λ f. rw f (trimmed_cons c (unpadded_from false s) (unpadded_from_trimmed false s h.0) (rw (unpadded_from_empty false s) h.1)))
    (λ f. rw f (trimmed_cons c (unpadded s) (unpadded_trimmed s h.0) (rw (unpadded_empty s) h.1)))

in_run_next : (s : List ℕ) → digit_next? (unpadded_from true s) ≡ digit_next? s
unfolding unpadded_from
in_run_next [] = refl
in_run_next (c ∷ s) = refl

-- a zero that stays, stays again
zero_stays : (c : ℕ) (s : List ℕ) → (eqb c digit_zero && digit_next? s) ≡ false → (eqb c digit_zero && digit_next? (unpadded_from (is_digit c) s)) ≡ false
zero_stays c s e =
    by_test (eqb c digit_zero)
    (λ f. let d : is_digit c ≡ true = ap is_digit (eqb-true c digit_zero f) in
    let g : digit_next? s ≡ false = rw f at e in
    rw (f, d, in_run_next s) g)
    (λ f. rw f refl)

unpadded_from_again : (r : Bool) (s : List ℕ) → unpadded_from r (unpadded_from r s) ≡ unpadded_from r s
unfolding unpadded_from
unpadded_from_again r [] = refl
unpadded_from_again true (c ∷ s) = ap (λ (l : List ℕ). c ∷ l) (unpadded_from_again (is_digit c) s)
unpadded_from_again false (c ∷ s) =
    by_test (eqb c digit_zero && digit_next? s)
    (λ f. rw f (unpadded_from_again false s))
    (λ f. rw f (rw (zero_stays c s f) (ap (λ (l : List ℕ). c ∷ l) (unpadded_from_again (is_digit c) s))))

unpadded_again : (s : List ℕ) → unpadded (unpadded s) ≡ unpadded s
unfolding unpadded
unpadded_again [] = refl
unpadded_again (c ∷ s) =
    by_test (eqb c equals)
    (λ f. rw f (ap (λ (l : List ℕ). c ∷ l) (unpadded_from_again false s)))
    (λ f. rw f (ap (λ (l : List ℕ). c ∷ l) (unpadded_again s)))

-- a line that salvage leaves alone
pub record Clean (b : List ℕ) : Type 0 where
  pub returns : without_returns b ≡ b
  pub blanks : trimmed b ≡ b
  pub zeros : unpadded b ≡ b
  pub some : empty? b ≡ false
  pub one : all? within_line? b ≡ true

pub mended_clean : (b : List ℕ) → all? within_line? b ≡ true → empty? (mended b) ≡ false → Clean (mended b)
unfolding mended
mended_clean b e f =
    let t = trimmed (without_returns b) in
    record {
      returns = returns_again b;
      blanks = unpadded_trimmed t (trimmed_again (without_returns b));
      zeros = unpadded_again t;
      some = f;
      one = mended_all within_line? b e;
    }

pub clean_mended : (b : List ℕ) → Clean b → mended b ≡ b
unfolding mended
clean_mended b h = rw (h.returns, h.blanks, h.zeros) refl

alike_self : (s : List ℕ) → alike eqb s s ≡ true
alike_self [] = refl
alike_self (c ∷ s) = both (eq-eqb c c refl) (alike_self s)

pub clean_fixes : (n : ℕ) (b : List ℕ) → Clean b → fixes_of_line n (record { body = b; ended = true }) ≡ []
unfolding fixes_of_line fixes_kept
clean_fixes n b h = rw (h.returns, h.blanks, h.zeros, h.some, alike_self b) refl

-- a line before a text
pub lines_first : (b s : List ℕ) → all? within_line? b ≡ true → lines_of (b ++ (line_feed ∷ s)) ≡ record { body = b; ended = true } ∷ lines_of s
unfolding lines_of
lines_first [] s e = refl
lines_first (c ∷ b) s e =
    let f : eqb c line_feed ≡ false = not-true (eqb c line_feed) (first_of_lem (within_line? c) (all? within_line? b) e) in
    rw (f, lines_first b s (second_of (within_line? c) (all? within_line? b) e)) refl

abbrev pub one_line? : Line → Bool
one_line? l = all? within_line? l.body

lines_one : (s : List ℕ) → all? one_line? (lines_of s) ≡ true
unfolding lines_of
lines_one [] = refl
lines_one (c ∷ s) = by_test (eqb c line_feed) (λ f. rw f (lines_one s)) (λ f. rw f (begun_one f (lines_of s) (lines_one s)))
  where
    begun_one : eqb c line_feed ≡ false → (ls : List Line) → all? one_line? ls ≡ true → all? one_line? (begun c ls) ≡ true
    begun_one f [] e = rw f refl
    begun_one f (l ∷ ls) e = rw f e

-- a text of clean lines, each with its LF, is left as it is, with no line in the list
pub data Tidy : List ℕ → Type 0 where
  nothing : Tidy []
  line : (b s : List ℕ) → Clean b → Tidy s → Tidy (b ++ (line_feed ∷ s))

pub tidy_left : (s : List ℕ) → Tidy s → salvaged s ≡ s
unfolding salvaged left_of lines_of
tidy_left _ nothing = refl
tidy_left _ (line b s h t) = rw (lines_first b s h.one, clean_mended b h, h.some, tidy_left s t) refl

tidy_fixes : (n : ℕ) (s : List ℕ) → Tidy s → fixes_from n (lines_of s) ≡ []
unfolding fixes_from lines_of
tidy_fixes n _ nothing = refl
tidy_fixes n _ (line b s h t) = rw (lines_first b s h.one, clean_fixes n b h) (tidy_fixes (suc n) s t)

pub tidy_no_fixes : (s : List ℕ) → Tidy s → fixes_of s ≡ []
unfolding fixes_of
tidy_no_fixes s t = tidy_fixes 1 s t

left_tidy : (ls : List Line) → all? one_line? ls ≡ true → Tidy (left_of ls)
unfolding left_of
left_tidy [] e = nothing
left_tidy (l ∷ ls) e =
    let i = left_tidy ls (second_of (one_line? l) (all? one_line? ls) e) in
    by_test (empty? (mended l.body)) (λ f. rw f i)
    (λ f. rw f (line (mended l.body) (left_of ls) (mended_clean l.body (first_of_lem (one_line? l) (all? one_line? ls) e) f) i))

pub salvaged_tidy : (s : List ℕ) → Tidy (salvaged s)
unfolding salvaged
salvaged_tidy s = left_tidy (lines_of s) (lines_one s)

pub salvaged_again : (s : List ℕ) → salvaged (salvaged s) ≡ salvaged s
salvaged_again s = tidy_left (salvaged s) (salvaged_tidy s)

pub no_fixes_again : (s : List ℕ) → fixes_of (salvaged s) ≡ []
no_fixes_again s = tidy_no_fixes (salvaged s) (salvaged_tidy s)
