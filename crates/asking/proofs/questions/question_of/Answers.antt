-- `question_of` meets its contract: what the system told is enough.
use mathlib.Core.Path.{◌∙◌}
use Rattle.asking.proofs.Asking.{asked_is}
use Rattle.asking.proofs.questions.question_of.Goals as goal

pub returns-clause-by_index : goal.returns-clause-by_index
returns-clause-by_index c = λ arguments told.
    c.asked_by.ensures ∙ asked_is arguments _ told
