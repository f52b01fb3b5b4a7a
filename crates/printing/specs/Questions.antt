-- The reply to a question about a table: its report, its row at an instant, or the table read and written again. It is the same whichever
-- engine is asked.
use Rattle.std.specs.Prelude.{List, ℕ}
use Rattle.rules.specs.Answers.{Reply, report_of, row_of}
use Rattle.writing.specs.Lengths.{longest_report, longest_row}
use Rattle.writer.specs.Lengths.{longest_written}
use Rattle.editing.specs.Editing.{rewrite_of}
use Rattle.asking.specs.declared.questions.Question.{Question}
use Rattle.asking.specs.declared.questions.Question.TheVariants.{Report, Row, Rewrite, PlainReport, PlainRow}

abbrev pub reply_of : Question → List ℕ → Reply
reply_of Report s = report_of s
reply_of (Row t) s = row_of s t
reply_of Rewrite s = rewrite_of s
reply_of PlainReport s = report_of s
reply_of (PlainRow t) s = row_of s t

-- how long the answer to it can get
abbrev pub longest_answer : Question → ℕ
longest_answer Report = longest_report
longest_answer (Row t) = longest_row
longest_answer Rewrite = longest_written
longest_answer PlainReport = longest_report
longest_answer (PlainRow t) = longest_row
