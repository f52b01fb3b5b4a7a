-- The list of what was changed: a line `fix=` for each line of the original and each kind, by line and then kind.
use Rattle.std.specs.Prelude.{Bool, true, false, not, cond, List, [], ◌∷◌, ◌++◌, ℕ, suc, eqb}
use Rattle.schedule.specs.Lists.{alike}
use Rattle.format.specs.Bytes.{bytes, line_feed, comma, decimal}
use Rattle.salvaging.specs.Lines.{Line, lines_of, empty?}
use Rattle.salvaging.specs.Steps.{without_returns, trimmed, unpadded}

-- a step changed the bytes
abbrev pub changed : List ℕ → List ℕ → Bool
changed s t = not (alike eqb s t)

-- `fix=`, line, comma, kind
unfoldable pub fix : ℕ → ℕ → List ℕ
fix n k = bytes "fix=" ++ (decimal n ++ (comma ∷ decimal k ++ (line_feed ∷ [])))

-- that line where the kind applies, and else none
abbrev pub fix_if : Bool → ℕ → ℕ → List ℕ
fix_if true n k = fix n k
fix_if false n k = []

-- of a line that is kept: kind 4, and kind 5 where it has no LF
unfoldable pub fixes_kept : ℕ → Bool → Bool → List ℕ
fixes_kept n zeros ended = fix_if zeros n 4 ++ fix_if (not ended) n 5

-- of line number n, kinds 1 and 2 as they apply; then 3 where it is left with no byte, and else 4 and 5
unfoldable pub fixes_of_line : ℕ → Line → List ℕ
fixes_of_line n l =
    let a : List ℕ = without_returns l.body in
    let b : List ℕ = trimmed a in
    let kept : List ℕ = fixes_kept n (changed b (unpadded b)) l.ended in
    fix_if (changed l.body a) n 1
    ++ (fix_if (changed a b) n 2
    ++ cond (empty? b) (fix n 3) kept)

-- of the lines from number n on
unfoldable pub fixes_from : ℕ → List Line → List ℕ
fixes_from n [] = []
fixes_from n (l ∷ ls) = fixes_of_line n l ++ fixes_from (suc n) ls

-- lines are numbered from 1
unfoldable pub fixes_of : List ℕ → List ℕ
fixes_of s = fixes_from 1 (lines_of s)
