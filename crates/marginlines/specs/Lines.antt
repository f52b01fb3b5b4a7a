-- The two lines of one graph, and how long the text of margins can get.
use Rattle.std.specs.Prelude.{List, ◌++◌, ℕ, ◌+◌, ◌*◌}
use Rattle.schedule.specs.Limits as Limits
use Rattle.format.specs.Bytes.{bytes}
use Rattle.rules.specs.Answers.{answer_line}
use Rattle.margins.specs.Margins.{margin_line}
use Rattle.writing.specs.Lengths.{longest_line, longest_report}

abbrev pub graph_lines : ℕ → ℕ → List ℕ
graph_lines limit response = answer_line "response" response ++ margin_line limit response

-- a minus sign may stand before the digits
abbrev pub longest_margin : ℕ
longest_margin = longest_line (bytes "margin") + 1

abbrev pub longest_lines : ℕ
longest_lines = longest_line (bytes "response") + longest_margin

-- what the code counts to: its head is bounded as a whole report
abbrev pub most_counted : ℕ
most_counted = longest_report + (Limits.graphs).to * longest_lines

-- the text itself
abbrev pub longest_margins : ℕ
longest_margins = longest_line (bytes "answer") + longest_line (bytes "round") + longest_line (bytes "ticks") + (Limits.graphs).to * longest_lines
