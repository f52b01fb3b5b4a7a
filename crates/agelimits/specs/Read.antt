-- Limits read one line after the other.
use Rattle.std.specs.Prelude.{List, ◌++◌, ℕ}

-- limits behind those that were read before them
abbrev pub behind : List ℕ → List ℕ → List ℕ
behind before vs = before ++ vs
