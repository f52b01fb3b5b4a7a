-- The lines of a text: its bytes up to each LF; bytes after the last LF are a last line without one.
use Rattle.std.specs.Prelude.{Bool, true, false, cond, List, [], ◌∷◌, ℕ, eqb}
use Rattle.format.specs.Bytes.{line_feed}

-- a line: its bytes, and whether an LF ends it; only the last of a text may lack it
pub record Line : Type 0 where
  pub body : List ℕ
  pub ended : Bool

-- byte c before the first of some lines; where there is none, a line of its own
abbrev pub begun : ℕ → List Line → List Line
begun c [] = record { body = c ∷ []; ended = false } ∷ []
begun c (l ∷ ls) = record { body = c ∷ l.body; ended = l.ended } ∷ ls

unfoldable pub lines_of : List ℕ → List Line
lines_of [] = []
lines_of (c ∷ s) =
    let ls : List Line = lines_of s in
    cond (eqb c line_feed) (record { body = []; ended = true } ∷ ls) (begun c ls)

-- no byte
abbrev pub empty? : List ℕ → Bool
empty? [] = true
empty? (c ∷ s) = false
