-- A line over any name: `answer_line` of the rules is the one whose name is quoted.
use Rattle.std.specs.Prelude.{List, [], ◌∷◌, ◌++◌, ℕ}
use Rattle.format.specs.declared.Refusal.{Refusal}
use Rattle.format.specs.Bytes.{bytes, equals, comma, line_feed, decimal}
use Rattle.format.specs.Refusals.{line_of, column_of}

-- a number and the byte that ends it
abbrev pub ended : ℕ → ℕ → List ℕ
ended v e = decimal v ++ (e ∷ [])

-- two numbers parted by a comma, and the byte that ends them
abbrev pub pair : ℕ → ℕ → ℕ → List ℕ
pair v x e = ended v comma ++ ended x e

abbrev pub line : List ℕ → ℕ → List ℕ
line name v = name ++ (equals ∷ ended v line_feed)

-- a refusal's line and column
abbrev pub placed : Refusal → List ℕ
placed r = line (bytes "line") (line_of r) ++ line (bytes "column") (column_of r)
