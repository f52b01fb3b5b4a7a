-- What is printed of margins.
use Rattle.std.specs.Prelude.{◌≡◌, List, ℕ}
use Rattle.rules.specs.Answers.{printed}
use Rattle.margins.specs.Margins.{Margin}
use Rattle.writing.specs.Written.{Written}
use Rattle.marginprints.specs.declared.MarginPrinted.{MarginPrinted}

-- the reply's text stands at the start of the buffer, and it is told whether a refusal is one of the limit text
pub record PrintedAs (m : Margin) (before after : List ℕ) (r : MarginPrinted) : Type 0 where
  pub bytes : Written (printed m.reply) before after r.length
  pub text : r.in_limits ≡ m.in_limits
