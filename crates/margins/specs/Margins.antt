-- Margins against a promised age (document 02, R-12): a second text with one `limit=` line for each graph, and the report with a line
-- `margin=` after each `response=`.
use Rattle.std.specs.Prelude.{Bool, true, false, cond, ℕ, zero, suc, ◌-◌, leb, length, get_or}
use mathlib.Core.List.{List, [], ◌∷◌, ◌++◌, tail}
use Rattle.format.specs.declared.Refusal.{Refusal}
use Rattle.format.specs.declared.Refusal.TheVariants.{TooLong, Backlog, Unsettled}
use Rattle.format.specs.Bytes.{bytes, line_feed, equals, decimal}
use Rattle.format.specs.Keys as Keys
use Rattle.format.specs.Reading.{Place, Outcome, refused, done, ◌and_then◌, number_line, ended}
use Rattle.schedule.specs.Limits as Limits
use Rattle.schedule.specs.Servers.{Box, box_of}
use Rattle.schedule.specs.Walk.{Stop, settled, unsettled, backlog, Walked, whole_walk}
use Rattle.rules.specs.Admission as Admission
use Rattle.rules.specs.Admission.{Admission, admitted, admission_of}
use Rattle.rules.specs.Answers.{Reply, says, refuses, answer_line}

-- the `limit=` lines that are left, one after another, each judged as a table's lines are: refusals 2 and 3, line and column in this text
unfoldable pub limits_from : ℕ → Place → Outcome (List ℕ)
limits_from zero p = done [] p
limits_from (suc left) p =
    number_line Keys.limit p and_then λ v p.
    limits_from left p and_then λ vs p.
    done (v ∷ vs) p

-- the limit text of a table of n graphs: refusal 1 above its bytes; one line for each graph, and no bytes after the last
unfoldable pub limits_of : ℕ → List ℕ → Outcome (List ℕ)
limits_of n s =
    let t : Outcome (List ℕ) =
    limits_from n (record { line = 1; bytes = s }) and_then λ vs p.
    ended vs p p.bytes in
    cond (leb (length s) (Limits.limit_bytes).to) t (refused TooLong)

-- the limit less the response, with a minus sign when the figure is over
abbrev pub minus : ℕ
minus = 45

abbrev pub margin_of_one : ℕ → ℕ → List ℕ
margin_of_one limit response = cond (leb response limit) (decimal (limit - response)) (minus ∷ decimal (response - limit))

unfoldable pub margin_line : ℕ → ℕ → List ℕ
margin_line limit response = bytes "margin" ++ (equals ∷ margin_of_one limit response ++ (line_feed ∷ []))

-- for each graph in turn its response and its margin
unfoldable pub margin_lines : List ℕ → List ℕ → List ℕ
margin_lines [] limits = []
margin_lines (f ∷ fs) limits = answer_line "response" f ++ (margin_line (get_or limits 0 0) f ++ margin_lines fs (tail limits))

unfoldable pub margin_text : ℕ → ℕ → List ℕ → List ℕ → List ℕ
margin_text round ticks figures limits =
    answer_line "answer" 0 ++ (answer_line "round" round ++ (answer_line "ticks" ticks ++ margin_lines figures limits))

-- what is answered; and whether a refusal is one of the limit text, so that a caller knows in which text its line stands
pub record Margin : Type 0 where
  pub reply : Reply
  pub in_limits : Bool

abbrev pub of_table : Refusal → Margin
of_table r = record { reply = refuses r; in_limits = false }

abbrev pub on_limits : ℕ → ℕ → List ℕ → Outcome (List ℕ) → Margin
on_limits round ticks figures (refused r) = record { reply = refuses r; in_limits = true }
on_limits round ticks figures (done limits p) = record { reply = says (margin_text round ticks figures limits); in_limits = false }

-- the table's own refusals come first, 7, 8 and 12 included; then those of the limit text
abbrev pub margin_on : Stop → ℕ → List ℕ → Outcome (List ℕ) → Margin
margin_on (settled k) ticks figures limits = on_limits k ticks figures limits
margin_on unsettled ticks figures limits = of_table Unsettled
margin_on backlog ticks figures limits = of_table Backlog

abbrev pub margin_admitted : (Box → Walked) → List ℕ → Admission → Margin
margin_admitted walk l (Admission.refused r) = of_table r
margin_admitted walk l (admitted T) =
    let w : Walked = walk (box_of T) in
    margin_on w.how w.ticks w.figures (limits_of (length T.graphs) l)

-- the margins of a table s against the limits l. What a call returns and leaves in its buffer is `call_of` of the reply: refusal 10 comes last
unfoldable pub margin_of : List ℕ → List ℕ → Margin
margin_of s l = margin_admitted whole_walk l (admission_of s)
