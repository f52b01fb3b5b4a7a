-- The steps of salvage, in their order, on the bytes of a line.
use Rattle.std.specs.Prelude.{Bool, false, not, ◌&&◌, cond, List, [], ◌∷◌, ◌++◌, ℕ, eqb}
use Rattle.schedule.specs.Lists.{keep}
use Rattle.format.specs.Bytes.{line_feed, equals, digit_zero, is_digit}
use Rattle.salvaging.specs.Lines.{Line, lines_of, empty?}

abbrev pub carriage_return : ℕ
carriage_return = 13

-- a blank is a space, and nothing else is
abbrev pub blank : ℕ
blank = 32

-- kind 1: every carriage return goes, wherever it stands
abbrev pub plain? : ℕ → Bool
plain? c = not (eqb c carriage_return)

unfoldable pub without_returns : List ℕ → List ℕ
without_returns s = keep plain? s

-- kind 2: then the blanks at the end of a line go
unfoldable pub trimmed : List ℕ → List ℕ
trimmed [] = []
trimmed (c ∷ s) = let t : List ℕ = trimmed s in cond (eqb c blank && empty? t) [] (c ∷ t)

-- the next byte is a digit
abbrev pub digit_next? : List ℕ → Bool
digit_next? [] = false
digit_next? (c ∷ s) = is_digit c

-- kind 4: zeros that stand before another digit at the start of a run of digits go; `in_run`: a digit of the run is kept already
unfoldable pub unpadded_from : Bool → List ℕ → List ℕ
unpadded_from in_run [] = []
unpadded_from in_run (c ∷ s) =
    let gone : Bool = not in_run && (eqb c digit_zero && digit_next? s) in
    let rest : List ℕ = unpadded_from (not gone && is_digit c) s in
    cond gone rest (c ∷ rest)

-- after the line's first `=`
unfoldable pub unpadded : List ℕ → List ℕ
unpadded [] = []
unpadded (c ∷ s) = c ∷ cond (eqb c equals) (unpadded_from false s) (unpadded s)

-- a line's bytes after kinds 1, 2 and 4
unfoldable pub mended : List ℕ → List ℕ
mended s = unpadded (trimmed (without_returns s))

-- the text left: kind 3, lines left with no byte go, with their LF; kind 5, each line kept ends in LF
unfoldable pub left_of : List Line → List ℕ
left_of [] = []
left_of (l ∷ ls) =
    let rest : List ℕ = left_of ls in
    let b : List ℕ = mended l.body in
    cond (empty? b) rest (b ++ (line_feed ∷ rest))

unfoldable pub salvaged : List ℕ → List ℕ
salvaged s = left_of (lines_of s)
