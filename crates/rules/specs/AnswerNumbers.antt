-- The numbers of an answer, for every case of it.
use Rattle.std.specs.Prelude.{ℕ, Ok, Err}
use Rattle.rules.specs.Answers.{Answer}
use Rattle.format.specs.Refusals.{number_of, line_of, column_of}

-- 0 with the text's length, or the refusal's own with length 0
abbrev pub answer_number : Answer → ℕ
answer_number (Ok n) = 0
answer_number (Err r) = number_of r

abbrev pub answer_line_number : Answer → ℕ
answer_line_number (Ok n) = 0
answer_line_number (Err r) = line_of r

abbrev pub answer_column : Answer → ℕ
answer_column (Ok n) = 0
answer_column (Err r) = column_of r

abbrev pub answer_length : Answer → ℕ
answer_length (Ok n) = n
answer_length (Err r) = 0
