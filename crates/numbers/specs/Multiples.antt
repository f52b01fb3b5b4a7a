-- A multiple that is at most a bound, or none.
use Rattle.std.specs.Prelude.{cond, Option, Some, None, ℕ, leb}

abbrev pub multiple_within : ℕ → ℕ → Option ℕ
multiple_within most m = cond (leb m most) (Some m) None
