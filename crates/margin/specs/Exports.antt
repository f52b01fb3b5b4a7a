-- What C is told of the call, and what it finds in its buffer.
use Rattle.std.specs.Prelude.{◌≡◌, Bool, cond, List, ℕ}
use Rattle.rules.specs.AnswerNumbers.{answer_number, answer_line_number, answer_column, answer_length}
use Rattle.rules.specs.Answers.{Answer, call_of}
use Rattle.margins.specs.Margins.{Margin}
use Rattle.margin.specs.Calls.{MarginAnswer, answer_in, in_limits}
use Rattle.margin.specs.declared.exports.PhalandrixMargin.{PhalandrixMargin}

-- the number, line, column and length for every case of an answer, and 1 for the limit text
abbrev pub told_with : Answer → Bool → PhalandrixMargin
told_with a limits =
    record {
      number = answer_number a;
      line = answer_line_number a;
      column = answer_column a;
      in_limits = cond limits 1 0;
      length = answer_length a;
    }

abbrev pub told_of : MarginAnswer → PhalandrixMargin
told_of a = told_with (answer_in a) (in_limits a)

pub record Told (r : PhalandrixMargin) (before after : List ℕ) (m : Margin) : Type 0 where
  pub answer : r ≡ told_with (call_of before m.reply).answer m.in_limits
  pub bytes : after ≡ (call_of before m.reply).buffer
