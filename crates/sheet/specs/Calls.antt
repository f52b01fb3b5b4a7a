-- What a call returned and left in the buffer, as one.
use Rattle.std.specs.Prelude.{List, ℕ}
use Rattle.rules.specs.Answers.{Answer, Call}

abbrev pub called : Answer → List ℕ → Call
called answer buffer = record { answer = answer; buffer = buffer }
