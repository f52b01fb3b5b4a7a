-- The kinds of change that the code keeps of a line, byte by byte, are the rules' own. Shown at the end: `kinds_step`, `kinds_end`,
-- `line_fixes`.
use mathlib.Core.Path.{◌≡◌, refl, sym, ap, ◌∙◌}
use mathlib.Core.Bool.{Bool, true, false, not, ◌&&◌, ◌||◌, cond}
use mathlib.Core.List.{List, [], ◌∷◌, ◌++◌, append-nil}
use Prim.Native.Nat.{ℕ, suc}
use lib.Dec.{eqb}
use borrow.Author.Tests.{eqb-true}
use Rattle.format.specs.Bytes.{line_feed}
use Rattle.schedule.proofs.Tests.{by_test}
use Rattle.salvaging.specs.Lines.{empty?}
use Rattle.salvaging.specs.Steps.{carriage_return, blank, without_returns, trimmed, unpadded}
use Rattle.salvaging.specs.Fixes.{changed, fix, fix_if, fixes_kept, fixes_of_line}
use Rattle.mending.specs.declared.place.Place.TheVariants.{Key}
use Rattle.mending.specs.declared.line.Line.{Line}
use Rattle.mending.specs.declared.fixes.Kinds.{Kinds}
use Rattle.mending.specs.Place.{settled, next, goes}
use Rattle.mending.specs.Line.{fresh, with_byte, returned, blanked, line_after, kinds_of, fixes_text}
use Rattle.mending.proofs.TextRead.{waiting, cut_blank, cut_byte, blank_moves}
use Rattle.mending.proofs.Changes.{return_changed, plain_changed, ends, ends_blank_lem, ends_byte, trailing, spared, spared_blanks, spared_nil}

or-true : (a : Bool) → a || true ≡ true
or-true true = refl
or-true false = refl

or-false : (a : Bool) → a || false ≡ a
or-false true = refl
or-false false = refl

or_or : (a b d : Bool) → a || (b || d) ≡ (a || b) || d
or_or true b d = refl
or_or false b d = refl

not_not : (a b : Bool) → not (not a) && b ≡ a && b
not_not true b = refl
not_not false b = refl

abbrev kinds : Bool → Bool → Bool → Bool → Bool → Kinds
kinds a b d e f = record { returns = a; blanks = b; empty = d; zeros = e; unended = f }

all_five : {a a' b b' d d' e e' f f' : Bool} → a ≡ a' → b ≡ b' → d ≡ d' → e ≡ e' → f ≡ f' → kinds a b d e f ≡ kinds a' b' d' e' f'
all_five p q r s t = rw (p, q, r, s, t) refl

-- the line is left with no byte, t being left of the rest
abbrev none : Line → List ℕ → Bool
none l t = empty? t && not l.kept

-- the kinds of a line of which l is known and the rest is a without its carriage returns; r: the rest had some
abbrev pub kinds_from : Line → Bool → List ℕ → Bool → Kinds
kinds_from l r a e =
    kinds (l.returns || r) (ends l.blanks a) (none l (trimmed a))
    (not (none l (trimmed a)) && (l.zeros || spared l.place (waiting l.blanks (trimmed a))))
    (not (none l (trimmed a)) && not e)

-- a carriage return
returned_kinds : (l : Line) (r : Bool) (a : List ℕ) (e : Bool) → kinds_from l true a e ≡ kinds_from (returned l) r a e
returned_kinds l r a e = all_five (or-true l.returns) refl refl refl refl

-- a blank
blank_empty : (t : List ℕ) → empty? (cond (empty? t) [] (blank ∷ t)) ≡ empty? t
blank_empty [] = refl
blank_empty (d ∷ t) = refl

blank_waiting : (n : ℕ) (t : List ℕ) → waiting n (cond (empty? t) [] (blank ∷ t)) ≡ waiting (suc n) t
blank_waiting n [] = refl
blank_waiting n (d ∷ t) = blank_moves n (d ∷ t)

blank_kinds : (l : Line) (r : Bool) (a : List ℕ) (e : Bool) → kinds_from l r (blank ∷ a) e ≡ kinds_from (blanked l) r a e
blank_kinds l r a e =
    let t = trimmed a in
    let same : none l (trimmed (blank ∷ a)) ≡ none l t = ap (λ (x : Bool). x && not l.kept) (ap empty? (cut_blank a) ∙ blank_empty t) in
    let wait : waiting l.blanks (trimmed (blank ∷ a)) ≡ waiting (suc l.blanks) t = ap (waiting l.blanks) (cut_blank a) ∙ blank_waiting l.blanks t in
    all_five refl (ends_blank_lem l.blanks a) same
    (ap (λ (x : Bool). not x && (l.zeros || spared l.place (waiting l.blanks (trimmed (blank ∷ a))))) same
    ∙ ap (λ (s : List ℕ). not (none l t) && (l.zeros || spared l.place s)) wait)
    (ap (λ (x : Bool). not x && not e) same)

-- a byte that is kept
kept_some : (t : List ℕ) → empty? t && false ≡ false
kept_some [] = refl
kept_some (d ∷ t) = refl

kept_waiting : (t : List ℕ) → waiting 0 t ≡ t
kept_waiting [] = refl
kept_waiting (d ∷ t) = refl

byte_kinds : (l : Line) (c : ℕ) (r : Bool) (a : List ℕ) (e : Bool) → eqb c blank ≡ false → kinds_from l r (c ∷ a) e ≡ kinds_from (with_byte l c) r a e
byte_kinds l c r a e f =
    let t = trimmed a in
    let q = settled l.place l.blanks in
    let here : none l (trimmed (c ∷ a)) ≡ false = ap (none l) (cut_byte c a f) in
    let there : none (with_byte l c) t ≡ false = kept_some t in
    all_five refl (ends_byte l.blanks c a f) (here ∙ sym there)
    (ap (λ (x : Bool). not x && (l.zeros || spared l.place (waiting l.blanks (trimmed (c ∷ a))))) here
    ∙ ap (λ (s : List ℕ). l.zeros || spared l.place (waiting l.blanks s)) (cut_byte c a f)
    ∙ ap (λ (x : Bool). l.zeros || x) (spared_blanks l.place l.blanks c t)
    ∙ or_or l.zeros (goes q c) (spared (next q c) t)
    ∙ ap (λ (s : List ℕ). (l.zeros || goes q c) || spared (next q c) s) (sym (kept_waiting t))
    ∙ ap (λ (x : Bool). not x && ((l.zeros || goes q c) || spared (next q c) (waiting 0 t))) (sym there))
    (ap (λ (x : Bool). not x && not e) (here ∙ sym there))

-- of the rest b of a line
abbrev pub kinds_with : Line → List ℕ → Bool → Kinds
kinds_with l b e = kinds_from l (changed b (without_returns b)) (without_returns b) e

without_return : (c : ℕ) (b : List ℕ) → eqb c carriage_return ≡ true → without_returns (c ∷ b) ≡ without_returns b
unfolding without_returns
without_return c b f = rw f refl

with_plain : (c : ℕ) (b : List ℕ) → eqb c carriage_return ≡ false → without_returns (c ∷ b) ≡ c ∷ without_returns b
unfolding without_returns
with_plain c b f = rw f refl

return_step : (l : Line) (c : ℕ) (b : List ℕ) (e : Bool) → eqb c carriage_return ≡ true → kinds_with l (c ∷ b) e ≡ kinds_with (returned l) b e
return_step l c b e f =
    ap (λ (r : Bool). kinds_from l r (without_returns (c ∷ b)) e) (return_changed c b f)
    ∙ ap (λ (a : List ℕ). kinds_from l true a e) (without_return c b f)
    ∙ returned_kinds l (changed b (without_returns b)) (without_returns b) e

plain_step : (l : Line) (c : ℕ) (b : List ℕ) (e : Bool) → eqb c carriage_return ≡ false
    → kinds_with l (c ∷ b) e ≡ kinds_from l (changed b (without_returns b)) (c ∷ without_returns b) e
plain_step l c b e f =
    ap (λ (r : Bool). kinds_from l r (without_returns (c ∷ b)) e) (plain_changed c b f)
    ∙ ap (λ (a : List ℕ). kinds_from l (changed b (without_returns b)) a e) (with_plain c b f)

pub kinds_step : (l : Line) (c : ℕ) (b : List ℕ) (e : Bool) → eqb c line_feed ≡ false → kinds_with l (c ∷ b) e ≡ kinds_with (line_after l c) b e
unfolding line_after
kinds_step l c b e n =
    let r = changed b (without_returns b) in
    let a = without_returns b in
    by_test (eqb c carriage_return) (λ f. return_step l c b e f ∙ sym (rw (n, f) refl))
    (λ f. by_test (eqb c blank)
    (λ g. plain_step l c b e f ∙ ap (λ (x : ℕ). kinds_from l r (x ∷ a) e) (eqb-true c blank g) ∙ blank_kinds l r a e ∙ sym (rw (n, f, g) refl))
    (λ g. plain_step l c b e f ∙ byte_kinds l c r a e g ∙ sym (rw (n, f, g) refl)))

-- no byte more
nothing_left : without_returns [] ≡ []
unfolding without_returns
nothing_left = refl

nothing_cut : trimmed [] ≡ []
unfolding trimmed
nothing_cut = refl

pub kinds_end : (l : Line) (e : Bool) → kinds_with l [] e ≡ kinds_of l e
kinds_end l e =
    ap (λ (a : List ℕ). kinds_from l (changed [] a) a e) nothing_left
    ∙ all_five (or-false l.returns) (ap (λ (t : List ℕ). cond (empty? t) (not (eqb l.blanks 0) || false) (changed [] t)) nothing_cut ∙ or-false (not (eqb l.blanks 0)))
    (ap (none l) nothing_cut)
    (ap (λ (t : List ℕ). not (none l t) && (l.zeros || spared l.place (waiting l.blanks t))) nothing_cut
    ∙ not_not l.kept (l.zeros || spared l.place [])
    ∙ ap (λ (x : Bool). l.kept && x) (ap (λ (x : Bool). l.zeros || x) (spared_nil l.place) ∙ or-false l.zeros))
    (ap (λ (t : List ℕ). not (none l t) && not e) nothing_cut ∙ not_not l.kept (not e))

-- a whole line
tail_fixes : (n : ℕ) (t : List ℕ) (e : Bool) → fix_if (none fresh t) n 3 ++ (fix_if (not (none fresh t) && (false || spared Key (waiting 0 t))) n 4 ++ fix_if (not (none fresh t) && not e) n 5)
    ≡ cond (empty? t) (fix n 3) (fixes_kept n (changed t (unpadded t)) e)
unfolding fixes_kept
tail_fixes n [] e = append-nil (fix n 3)
tail_fixes n (d ∷ t) e = refl

pub line_fixes : (n : ℕ) (b : List ℕ) (e : Bool) → fixes_text n (kinds_with fresh b e) ≡ fixes_of_line n (record { body = b; ended = e })
unfolding fixes_text fixes_of_line
line_fixes n b e =
    let a = without_returns b in
    let t = trimmed a in
    ap (λ (x : Bool). fix_if (changed b a) n 1 ++ (fix_if x n 2
    ++ (fix_if (none fresh t) n 3 ++ (fix_if (not (none fresh t) && (false || spared Key (waiting 0 t))) n 4 ++ fix_if (not (none fresh t) && not e) n 5)))) (sym (trailing a t))
    ∙ ap (λ (s : List ℕ). fix_if (changed b a) n 1 ++ (fix_if (changed a t) n 2 ++ s)) (tail_fixes n t e)
