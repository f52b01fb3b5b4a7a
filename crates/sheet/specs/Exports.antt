-- What C is told of a call, and what it finds in its buffer.
use Rattle.std.specs.Prelude.{◌≡◌, List, ℕ, Ok, Err}
use Rattle.rules.specs.AnswerNumbers.{answer_number, answer_line_number, answer_column, answer_length}
use Rattle.rules.specs.Answers.{Answer, RowAnswer, Call, ticks_told}
use Rattle.sheet.specs.declared.exports.PhalandrixAnswer.{PhalandrixAnswer}
use Rattle.sheet.specs.declared.exports.PhalandrixRowAnswer.{PhalandrixRowAnswer}

-- the number, line, column and length for every case of an answer
abbrev pub told_of : Answer → PhalandrixAnswer
told_of a = record { number = answer_number a; line = answer_line_number a; column = answer_column a; length = answer_length a }

pub record Told (r : PhalandrixAnswer) (buffer : List ℕ) (call : Call) : Type 0 where
  pub answer : r ≡ told_of call.answer
  pub bytes : buffer ≡ call.buffer

-- of a row call the ticks walked too (R-10)
abbrev pub told_row : Answer → ℕ → PhalandrixRowAnswer
told_row a ticks =
    record { number = answer_number a; line = answer_line_number a; column = answer_column a; walked = ticks; length = answer_length a }

-- and with a refusal none are
abbrev pub told_row_of : RowAnswer → PhalandrixRowAnswer
told_row_of (Ok x) = told_row (Ok x.length) x.walked
told_row_of (Err r) = told_row (Err r) 0

pub record ToldRow (r : PhalandrixRowAnswer) (buffer : List ℕ) (call : Call) (ticks : ℕ) : Type 0 where
  pub answer : r ≡ told_row call.answer (ticks_told call.answer ticks)
  pub bytes : buffer ≡ call.buffer
