-- What antt needs opened to compute an answer: every definition between the bytes and the text, with the walk in one pass.
use Rattle.schedule.proofs.Walking.{walking}
use Rattle.format.proofs.Computing.{reading}
use Rattle.rules.specs.Admission.{admit, admission_of}
use Rattle.rules.specs.Answers.{answer_line, response_lines, report_text, row_text, printed, has_row, row_on, fitted, left, call_of}

-- opened by name where a test is computed
unfoldable pub answering : Unit {0}
unfolding walking reading admit admission_of answer_line response_lines report_text row_text printed has_row row_on fitted left call_of
answering = tt
