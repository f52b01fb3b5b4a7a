-- What the code adds to the list, byte by byte, is the list of the rules. Shown at the end: `list_is`.
use mathlib.Core.Path.{◌≡◌, refl, sym, ap, ◌∙◌}
use mathlib.Core.Bool.{Bool, true, false, not, ◌||◌, cond}
use mathlib.Core.List.{List, [], ◌∷◌, ◌++◌, append-nil}
use Prim.Native.Nat.{ℕ, suc}
use native.Mathlib.Omega.{arith}
use lib.Dec.{eqb}
use borrow.Author.Tests.{ne_eqb}
use Rattle.format.specs.Bytes.{line_feed}
use Rattle.schedule.proofs.Tests.{by_test}
use Rattle.salvaging.specs.Lines as Lines
use Rattle.salvaging.specs.Lines.{lines_of}
use Rattle.salvaging.specs.Steps.{carriage_return, blank}
use Rattle.salvaging.specs.Fixes.{fixes_from, fixes_of}
use Rattle.mending.specs.declared.line.Line.{Line}
use Rattle.mending.specs.Line.{fresh, line_after, kinds_of, no_kinds, kinds_at, begun, kinds_last, number_after, fixes_text, list_from}
use Rattle.mending.proofs.KindsRead.{kinds_with, kinds_step, kinds_end, line_fixes}

-- a line that has had a byte is begun
yes_or : (a b : Bool) → a || (true || b) ≡ true
yes_or true b = refl
yes_or false b = refl

or_yes : (a b : Bool) → a || (b || true) ≡ true
or_yes true b = refl
or_yes false true = refl
or_yes false false = refl

pub begun_after : (l : Line) (c : ℕ) → eqb c line_feed ≡ false → begun (line_after l c) ≡ true
unfolding line_after
begun_after l c n =
    by_test (eqb c carriage_return) (λ f. rw (n, f) refl)
    (λ f. by_test (eqb c blank)
    (λ g. rw (n, f, g, ne_eqb (suc l.blanks) 0 (λ e. omega arith)) (or_yes l.returns l.kept))
    (λ g. rw (n, f, g) (yes_or l.returns (not (eqb 0 0)))))

last_kinds : (l : Line) → begun l ≡ true → kinds_last l ≡ kinds_of l false
unfolding kinds_last
last_kinds l b = rw b refl

no_fixes : (n : ℕ) → fixes_text n no_kinds ≡ []
unfolding fixes_text
no_fixes n = refl

-- the list from any place of a line on
abbrev list_left : ℕ → Line → List Lines.Line → List ℕ
list_left n l [] = fixes_text n (kinds_last l)
list_left n l (x ∷ xs) = fixes_text n (kinds_with l x.body x.ended) ++ fixes_from (suc n) xs

whole_list : (n : ℕ) (ls : List Lines.Line) → list_left n fresh ls ≡ fixes_from n ls
unfolding fixes_from kinds_last fixes_text
whole_list n [] = refl
whole_list n (x ∷ xs) = ap (λ (s : List ℕ). s ++ fixes_from (suc n) xs) (line_fixes n x.body x.ended)

abbrev with_first : ℕ → List Lines.Line → List Lines.Line
with_first c ls = cond (eqb c line_feed) (record { body = []; ended = true } ∷ ls) (Lines.begun c ls)

ending : (n : ℕ) (l : Line) (c : ℕ) (s : List ℕ) (ls : List Lines.Line) → list_from (suc n) fresh s ≡ list_left (suc n) fresh ls → eqb c line_feed ≡ true
    → fixes_text n (kinds_at l c) ++ list_from (number_after n c) (line_after l c) s ≡ list_left n l (with_first c ls)
unfolding kinds_at number_after line_after
ending n l c s ls i f =
    rw f
    (ap (λ (t : List ℕ). fixes_text n (kinds_of l true) ++ t) (i ∙ whole_list (suc n) ls)
    ∙ ap (λ k. fixes_text n k ++ fixes_from (suc n) ls) (sym (kinds_end l true)))

begun_list : (n : ℕ) (l : Line) (c : ℕ) (ls : List Lines.Line) → eqb c line_feed ≡ false → list_left n (line_after l c) ls ≡ list_left n l (Lines.begun c ls)
unfolding fixes_from
begun_list n l c [] f =
    ap (fixes_text n) (last_kinds (line_after l c) (begun_after l c f) ∙ sym (kinds_step l c [] false f ∙ kinds_end (line_after l c) false))
    ∙ sym (append-nil (fixes_text n (kinds_with l (c ∷ []) false)))
begun_list n l c (x ∷ xs) f = ap (λ k. fixes_text n k ++ fixes_from (suc n) xs) (sym (kinds_step l c x.body x.ended f))

at_byte : (n : ℕ) (l : Line) (c : ℕ) (s : List ℕ) → eqb c line_feed ≡ false
    → fixes_text n (kinds_at l c) ++ list_from (number_after n c) (line_after l c) s ≡ list_from n (line_after l c) s
unfolding kinds_at number_after
at_byte n l c s f = rw (f, no_fixes n) refl

going : (n : ℕ) (l : Line) (c : ℕ) (s : List ℕ) (ls : List Lines.Line) → list_from n (line_after l c) s ≡ list_left n (line_after l c) ls → eqb c line_feed ≡ false
    → fixes_text n (kinds_at l c) ++ list_from (number_after n c) (line_after l c) s ≡ list_left n l (with_first c ls)
going n l c s ls i f = at_byte n l c s f ∙ i ∙ begun_list n l c ls f ∙ sym (rw f refl)

pub list_left_lem : (n : ℕ) (l : Line) (s : List ℕ) → list_from n l s ≡ list_left n l (lines_of s)
unfolding list_from lines_of
list_left_lem n l [] = refl
list_left_lem n l (c ∷ s) =
    by_test (eqb c line_feed) (ending n l c s (lines_of s) (list_left_lem (suc n) fresh s)) (going n l c s (lines_of s) (list_left_lem n (line_after l c) s))

pub list_is : (s : List ℕ) → list_from 1 fresh s ≡ fixes_of s
unfolding fixes_of
list_is s = list_left_lem 1 fresh s ∙ whole_list 1 (lines_of s)
