-- What the code keeps of a line while it reads it, what each byte adds, and the kinds of change: for the proof, and proved to be the rules'
-- own (proofs/TextRead.antt, proofs/ListRead.antt).
use Rattle.std.specs.Prelude.{Bool, true, false, not, ◌&&◌, ◌||◌, cond, List, [], ◌∷◌, ◌++◌, ℕ, suc, eqb, replicate}
use Rattle.format.specs.Bytes.{line_feed, digit_zero}
use Rattle.salvaging.specs.Steps.{carriage_return, blank}
use Rattle.salvaging.specs.Fixes.{fix_if}
use Rattle.mending.specs.declared.place.Place.TheVariants.{Key}
use Rattle.mending.specs.declared.line.Line.{Line}
use Rattle.mending.specs.declared.text.Added.{Added}
use Rattle.mending.specs.declared.fixes.Kinds.{Kinds}
use Rattle.mending.specs.Place.{is_zero, settled, next, goes, holds}

abbrev pub fresh : Line
fresh = record { place = Key; blanks = 0; returns = false; kept = false; zeros = false }

abbrev pub either : Bool → Bool → Bool
either a b = a || b

abbrev pub both : Bool → Bool → Bool
both a b = a && b

abbrev pub with_byte : Line → ℕ → Line
with_byte l c =
    record {
      place = next (settled l.place l.blanks) c;
      blanks = 0;
      returns = l.returns;
      kept = true;
      zeros = either l.zeros (goes (settled l.place l.blanks) c);
    }

abbrev pub returned : Line → Line
returned l = record { place = l.place; blanks = l.blanks; returns = true; kept = l.kept; zeros = l.zeros }

abbrev pub blanked : Line → Line
blanked l = record { place = l.place; blanks = suc l.blanks; returns = l.returns; kept = l.kept; zeros = l.zeros }

unfoldable pub line_after : Line → ℕ → Line
line_after l c = cond (eqb c line_feed) fresh (cond (eqb c carriage_return) (returned l) (cond (eqb c blank) (blanked l) (with_byte l c)))

abbrev pub nothing : Added
nothing = record { zero = false; blanks = 0; byte = false }

abbrev pub ended : Line → Added
ended l = record { zero = both l.kept (is_zero l.place); blanks = 0; byte = l.kept }

abbrev pub added_kept : Line → ℕ → Added
added_kept l c =
    record {
      zero = both (is_zero l.place) (not (goes (settled l.place l.blanks) c));
      blanks = l.blanks;
      byte = not (holds (settled l.place l.blanks) c);
    }

unfoldable pub added : Line → ℕ → Added
added l c = cond (eqb c line_feed) (ended l) (cond (eqb c carriage_return) nothing (cond (eqb c blank) nothing (added_kept l c)))

-- the bytes added
abbrev pub byte_if : Bool → ℕ → List ℕ
byte_if true c = c ∷ []
byte_if false c = []

abbrev pub added_text : Added → ℕ → List ℕ
added_text x c = byte_if x.zero digit_zero ++ (replicate x.blanks blank ++ byte_if x.byte c)

abbrev pub length_if : Bool → ℕ → ℕ
length_if true n = n
length_if false n = 0

-- what is left of a text from there on
unfoldable pub text_from : Line → List ℕ → List ℕ
text_from l [] = added_text (ended l) line_feed
text_from l (c ∷ s) = added_text (added l c) c ++ text_from (line_after l c) s

abbrev pub kinds_of : Line → Bool → Kinds
kinds_of l e =
    record { returns = l.returns; blanks = not (eqb l.blanks 0); empty = not l.kept; zeros = both l.kept l.zeros; unended = both l.kept (not e) }

abbrev pub no_kinds : Kinds
no_kinds = record { returns = false; blanks = false; empty = false; zeros = false; unended = false }

unfoldable pub kinds_at : Line → ℕ → Kinds
kinds_at l c = cond (eqb c line_feed) (kinds_of l true) no_kinds

abbrev pub begun : Line → Bool
begun l = either l.returns (either l.kept (not (eqb l.blanks 0)))

unfoldable pub kinds_last : Line → Kinds
kinds_last l = cond (begun l) (kinds_of l false) no_kinds

unfoldable pub number_after : ℕ → ℕ → ℕ
number_after n c = cond (eqb c line_feed) (suc n) n

-- the list's lines for the kinds of line n
unfoldable pub fixes_text : ℕ → Kinds → List ℕ
fixes_text n k = fix_if k.returns n 1 ++ (fix_if k.blanks n 2 ++ (fix_if k.empty n 3 ++ (fix_if k.zeros n 4 ++ fix_if k.unended n 5)))

-- the list from there on
unfoldable pub list_from : ℕ → Line → List ℕ → List ℕ
list_from n l [] = fixes_text n (kinds_last l)
list_from n l (c ∷ s) = fixes_text n (kinds_at l c) ++ list_from (number_after n c) (line_after l c) s
