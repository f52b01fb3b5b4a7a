-- What the code adds to the text, byte by byte, is the text that the rules leave. Shown at the end: `text_is`.
use mathlib.Core.Path.{◌≡◌, refl, sym, ap, ◌∙◌}
use mathlib.Core.Bool.{true, false, not, ◌&&◌, cond}
use mathlib.Core.List.{List, [], ◌∷◌, ◌++◌, append_assoc, append-nil}
use Prim.Native.Nat.{ℕ, zero, suc}
use lib.Dec.{eqb}
use lib.ListN.{replicate}
use lib.Seq.{append_snoc}
use borrow.Author.Tests.{eqb-true}
use Rattle.format.specs.Bytes.{line_feed, digit_zero}
use Rattle.schedule.proofs.Tests.{by_test}
use Rattle.salvaging.specs.Lines as Lines
use Rattle.salvaging.specs.Lines.{lines_of, empty?}
use Rattle.salvaging.specs.Steps.{carriage_return, blank, without_returns, trimmed, unpadded, mended, left_of, salvaged}
use Rattle.mending.specs.declared.line.Line.{Line}
use Rattle.mending.specs.Place.{is_zero, settled, next, goes, holds}
use Rattle.mending.specs.Line.{fresh, with_byte, blanked, line_after, ended, added_kept, added, byte_if, added_text, text_from}
use Rattle.mending.proofs.Unpadding.{unpad, unpad_nil, unpad_blanks}

-- what is left of a line after kinds 1 and 2
abbrev pub cut : List ℕ → List ℕ
cut b = trimmed (without_returns b)

-- the blanks that are waiting and what comes after them, where a byte that is kept does; t is the rest of the line
abbrev pub waiting : ℕ → List ℕ → List ℕ
waiting n t = cond (empty? t) [] (replicate n blank ++ t)

-- the text of the rest of a line, t after kinds 1 and 2, with its LF: none where the line has no byte that is kept
abbrev pub line_text : Line → List ℕ → List ℕ
line_text l t = cond (empty? t && not l.kept) [] (unpad l.place (waiting l.blanks t) ++ (line_feed ∷ []))

cut_return : (c : ℕ) (b : List ℕ) → eqb c carriage_return ≡ true → cut (c ∷ b) ≡ cut b
unfolding without_returns
cut_return c b f = rw f refl

cut_plain : (c : ℕ) (b : List ℕ) → eqb c carriage_return ≡ false → cut (c ∷ b) ≡ trimmed (c ∷ without_returns b)
unfolding without_returns
cut_plain c b f = rw f refl

pub cut_blank : (s : List ℕ) → trimmed (blank ∷ s) ≡ cond (empty? (trimmed s)) [] (blank ∷ trimmed s)
unfolding trimmed
cut_blank s = refl

pub cut_byte : (c : ℕ) (s : List ℕ) → eqb c blank ≡ false → trimmed (c ∷ s) ≡ c ∷ trimmed s
unfolding trimmed
cut_byte c s f = rw f refl

pub blank_moves : (n : ℕ) (t : List ℕ) → replicate n blank ++ (blank ∷ t) ≡ blank ∷ (replicate n blank ++ t)
blank_moves zero t = refl
blank_moves (suc n) t = ap (λ (l : List ℕ). blank ∷ l) (blank_moves n t)

-- a blank waits
blank_waits : (l : Line) (t : List ℕ) → line_text l (cond (empty? t) [] (blank ∷ t)) ≡ line_text (blanked l) t
blank_waits l [] = refl
blank_waits l (d ∷ t) = ap (λ (s : List ℕ). unpad l.place s ++ (line_feed ∷ [])) (blank_moves l.blanks (d ∷ t))

kept_text : (l : Line) (c : ℕ) (t : List ℕ) → line_text (with_byte l c) t ≡ unpad (next (settled l.place l.blanks) c) t ++ (line_feed ∷ [])
kept_text l c [] = refl
kept_text l c (d ∷ t) = refl

regroup : (a b d e f : List ℕ) → (a ++ (b ++ (d ++ e))) ++ f ≡ (a ++ (b ++ d)) ++ (e ++ f)
regroup a b d e f = simp append_assoc

-- a byte that is kept brings the zero and the blanks before it
byte_text : (l : Line) (c : ℕ) (t : List ℕ) → line_text l (c ∷ t) ≡ added_text (added_kept l c) c ++ line_text (with_byte l c) t
byte_text l c t =
    let p = settled l.place l.blanks in
    ap (λ (s : List ℕ). s ++ (line_feed ∷ [])) (unpad_blanks l.place l.blanks c t)
    ∙ regroup (byte_if (is_zero l.place && not (goes p c)) digit_zero) (replicate l.blanks blank) (byte_if (not (holds p c)) c) (unpad (next p c) t) (line_feed ∷ [])
    ∙ ap (λ (s : List ℕ). added_text (added_kept l c) c ++ s) (sym (kept_text l c t))

-- a byte of a line
pub line_step : (l : Line) (c : ℕ) (b : List ℕ) → eqb c line_feed ≡ false → line_text l (cut (c ∷ b)) ≡ added_text (added l c) c ++ line_text (line_after l c) (cut b)
unfolding added line_after
line_step l c b n =
    by_test (eqb c carriage_return) (λ f. rw (n, f) (ap (line_text l) (cut_return c b f)))
    (λ f. by_test (eqb c blank)
    (λ g. rw (n, f, g) (ap (line_text l) (cut_plain c b f ∙ ap (λ (x : ℕ). trimmed (x ∷ without_returns b)) (eqb-true c blank g) ∙ cut_blank (without_returns b)) ∙ blank_waits l (cut b)))
    (λ g. rw (n, f, g) (ap (line_text l) (cut_plain c b f ∙ cut_byte c (without_returns b) g) ∙ byte_text l c (cut b))))

-- a line's end
line_end : (l : Line) → line_text l [] ≡ added_text (ended l) line_feed
line_end l = by_test l.kept (λ f. rw f (ap (λ (s : List ℕ). s ++ (line_feed ∷ [])) (unpad_nil l.place))) (λ f. rw f refl)

cut_nil : cut [] ≡ []
unfolding without_returns trimmed
cut_nil = refl

-- the first line's bytes, and the other lines
abbrev pub first_of : List Lines.Line → List ℕ
first_of [] = []
first_of (x ∷ xs) = x.body

abbrev pub others_of : List Lines.Line → List Lines.Line
others_of [] = []
others_of (x ∷ xs) = xs

first_begun : (c : ℕ) (ls : List Lines.Line) → first_of (Lines.begun c ls) ≡ c ∷ first_of ls
first_begun c [] = refl
first_begun c (x ∷ xs) = refl

others_begun : (c : ℕ) (ls : List Lines.Line) → others_of (Lines.begun c ls) ≡ others_of ls
others_begun c [] = refl
others_begun c (x ∷ xs) = refl

-- a whole line, and what is left of the lines after it
whole_line : (t rest : List ℕ) → line_text fresh t ++ rest ≡ cond (empty? (unpadded t)) rest (unpadded t ++ (line_feed ∷ rest))
unfolding unpadded
whole_line [] rest = refl
whole_line (d ∷ t) rest = append_snoc (unpadded (d ∷ t)) line_feed rest

all_lines_lem : (ls : List Lines.Line) → line_text fresh (cut (first_of ls)) ++ left_of (others_of ls) ≡ left_of ls
unfolding left_of mended
all_lines_lem [] = rw cut_nil refl
all_lines_lem (x ∷ xs) = whole_line (cut x.body) (left_of xs)

-- from any place of a line on
abbrev pub text_left : Line → List Lines.Line → List ℕ
text_left l ls = line_text l (cut (first_of ls)) ++ left_of (others_of ls)

-- what the lines are with one byte more, c
abbrev with_first : ℕ → List Lines.Line → List Lines.Line
with_first c ls = cond (eqb c line_feed) (record { body = []; ended = true } ∷ ls) (Lines.begun c ls)

ending : (l : Line) (c : ℕ) (s : List ℕ) (ls : List Lines.Line) → text_from fresh s ≡ text_left fresh ls → eqb c line_feed ≡ true
    → added_text (added l c) c ++ text_from (line_after l c) s ≡ text_left l (with_first c ls)
unfolding added line_after
ending l c s ls i f =
    rw f
    (ap (λ (x : ℕ). added_text (ended l) x ++ text_from fresh s) (eqb-true c line_feed f)
    ∙ ap (λ (t : List ℕ). added_text (ended l) line_feed ++ t) (i ∙ all_lines_lem ls)
    ∙ ap (λ (t : List ℕ). t ++ left_of ls) (sym (ap (line_text l) cut_nil ∙ line_end l)))

going : (l : Line) (c : ℕ) (s : List ℕ) (ls : List Lines.Line) → text_from (line_after l c) s ≡ text_left (line_after l c) ls → eqb c line_feed ≡ false
    → added_text (added l c) c ++ text_from (line_after l c) s ≡ text_left l (with_first c ls)
going l c s ls i f =
    ap (λ (t : List ℕ). added_text (added l c) c ++ t) i
    ∙ sym (append_assoc (added_text (added l c) c) (line_text (line_after l c) (cut (first_of ls))) (left_of (others_of ls)))
    ∙ ap (λ (t : List ℕ). t ++ left_of (others_of ls)) (sym (line_step l c (first_of ls) f))
    ∙ ap (λ (t : List ℕ). line_text l (cut t) ++ left_of (others_of ls)) (sym (first_begun c ls))
    ∙ ap (λ (t : List Lines.Line). line_text l (cut (first_of (Lines.begun c ls))) ++ left_of t) (sym (others_begun c ls))
    ∙ sym (rw f refl)

pub text_left_lem : (l : Line) (s : List ℕ) → text_from l s ≡ text_left l (lines_of s)
unfolding text_from lines_of left_of
text_left_lem l [] = sym (append-nil (line_text l (cut [])) ∙ ap (line_text l) cut_nil ∙ line_end l)
text_left_lem l (c ∷ s) = by_test (eqb c line_feed) (ending l c s (lines_of s) (text_left_lem fresh s)) (going l c s (lines_of s) (text_left_lem (line_after l c) s))

pub text_is : (s : List ℕ) → text_from fresh s ≡ salvaged s
unfolding salvaged
text_is s = text_left_lem fresh s ∙ all_lines_lem (lines_of s)
