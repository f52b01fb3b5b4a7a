-- The line writer's text is the rules' `answer_line`, for a caller that quotes the name.
use mathlib.Core.Path.{◌≡◌, refl}
use Prim.Native.Nat.{ℕ}
use Prim.Native.String.{String}
use Rattle.format.specs.Bytes.{bytes}
use Rattle.rules.specs.Answers.{answer_line}
use Rattle.writing.specs.Line.{line}

pub line_is : (name : String) (v : ℕ) → line (bytes name) v ≡ answer_line name v
unfolding answer_line
line_is name v = refl
