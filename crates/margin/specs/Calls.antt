-- What the call returns, and what it leaves in the buffer.
use Rattle.std.specs.Prelude.{◌≡◌, Bool, true, false, List, ℕ, Result, Ok, Err}
use Rattle.rules.specs.Answers.{Answer, call_of}
use Rattle.margins.specs.Margins.{Margin}
use Rattle.sheet.specs.Calls.{called}
use Rattle.margin.specs.declared.answering.MarginRefusal.{MarginRefusal}
use Rattle.margin.specs.declared.answering.MarginRefusal.TheVariants.{OfTable, OfLimits}

abbrev pub MarginAnswer : Type 0
MarginAnswer = Result ℕ MarginRefusal

-- the answer, and whether it is a refusal of the limit text
abbrev pub answer_in : MarginAnswer → Answer
answer_in (Ok n) = Ok n
answer_in (Err (OfTable r)) = Err r
answer_in (Err (OfLimits r)) = Err r

abbrev pub in_limits : MarginAnswer → Bool
in_limits (Ok n) = false
in_limits (Err (OfTable r)) = false
in_limits (Err (OfLimits r)) = true

-- the answer and the bytes are those of a call that is answered so; and it tells in which text a refusal stands
pub record Answers (r : MarginAnswer) (before after : List ℕ) (m : Margin) : Type 0 where
  pub call : called (answer_in r) after ≡ call_of before m.reply
  pub text : in_limits r ≡ m.in_limits
