-- The text of an answer, and what a call returns and leaves in the buffer it is lent.
use Rattle.std.specs.Prelude.{Bool, true, false, ◌&&◌, ◌||◌, cond, List, [], ◌∷◌, ◌++◌, ℕ, min, leb, ltb, length, drop, Result, Ok, Err}
use Prim.Native.String.{String}
use Rattle.format.specs.declared.Refusal.{Refusal}
use Rattle.format.specs.declared.Refusal.TheVariants.{Backlog, Unsettled, PastTheStop, ShortBuffer}
use Rattle.format.specs.Bytes.{bytes, line_feed, equals, comma, decimal}
use Rattle.format.specs.Refusals.{number_of, line_of, column_of}
use Rattle.schedule.specs.Limits as Limits
use Rattle.schedule.specs.Servers.{Box, box_of, whole}
use Rattle.schedule.specs.Walk.{Stop, settled, unsettled, backlog, Walked, Running, whole_walk, row_at}
use Rattle.rules.specs.Admission.{Admission, admitted, refused, admission_of}
use Rattle.rules.specs.declared.RowText.{RowText}

-- what a call answers: the length of the text that it left in the lent buffer, or a refusal
abbrev pub Answer : Type 0
Answer = Result ℕ Refusal

-- a row call's has the ticks walked beside the length of its text, and none beside a refusal
abbrev pub RowAnswer : Type 0
RowAnswer = Result RowText Refusal

abbrev pub answer_in : RowAnswer → Answer
answer_in (Ok x) = Ok x.length
answer_in (Err r) = Err r

-- what is answered, before the buffer is looked at: a text, or a refusal
pub data Reply : Type 0 where
  says : List ℕ → Reply
  refuses : Refusal → Reply

-- a line of an answer: key, `=`, a number, LF
unfoldable pub answer_line : String → ℕ → List ℕ
answer_line name v = bytes name ++ (equals ∷ decimal v ++ (line_feed ∷ []))

unfoldable pub response_lines : List ℕ → List ℕ
response_lines [] = []
response_lines (f ∷ fs) = answer_line "response" f ++ response_lines fs

unfoldable pub report_text : ℕ → ℕ → List ℕ → List ℕ
report_text round ticks figures = answer_line "answer" 0 ++ (answer_line "round" round ++ (answer_line "ticks" ticks ++ response_lines figures))

-- `run=graph,node,server job,invocation`, a line for each running server job
unfoldable pub row_text : List Running → List ℕ
row_text [] = []
row_text (x ∷ xs) =
    bytes "run=" ++ (decimal x.graph ++ (comma ∷ decimal x.node ++ (comma ∷ decimal x.server_job ++ (comma ∷ decimal x.invocation ++ (line_feed ∷ row_text xs)))))

-- what the program prints of a reply
unfoldable pub printed : Reply → List ℕ
printed (says s) = s
printed (refuses r) = answer_line "answer" (number_of r) ++ (answer_line "line" (line_of r) ++ answer_line "column" (column_of r))

-- the report of a walk: refusals 7 and 8
abbrev pub report_on : Stop → ℕ → List ℕ → Reply
report_on (settled k) ticks figures = says (report_text k ticks figures)
report_on unsettled ticks figures = refuses Unsettled
report_on backlog ticks figures = refuses Backlog

abbrev pub is_settled : Stop → Bool
is_settled (settled k) = true
is_settled unsettled = false
is_settled backlog = false

-- whether there is a row at t of a walk that stopped so after `ticks` (R-10): up to the limit of an instant, of a settled walk at each, of
-- another before its stop
unfoldable pub has_row : Stop → ℕ → ℕ → Bool
has_row how ticks t = leb t (Limits.instant).to && (is_settled how || ltb t ticks)

-- the schedule's row at t, or refusal 9
abbrev pub row_if : Bool → Box → ℕ → Reply
row_if true X t = says (row_text (row_at X (whole X.servers) t))
row_if false X t = refuses PastTheStop

unfoldable pub row_on : Box → Stop → ℕ → ℕ → Reply
row_on X how ticks t = row_if (has_row how ticks t) X t

-- both calls, by the walk of a box; the table's own refusals come first
abbrev pub report_admitted : (Box → Walked) → Admission → Reply
report_admitted walk (refused r) = refuses r
report_admitted walk (admitted T) = let w : Walked = walk (box_of T) in report_on w.how w.ticks w.figures

abbrev pub row_admitted : (Box → Walked) → ℕ → Admission → Reply
row_admitted walk t (refused r) = refuses r
row_admitted walk t (admitted T) = let w : Walked = walk (box_of T) in row_on (box_of T) w.how w.ticks t

-- the ticks that the rules walk from tick 0 for the row at t (R-10): the smaller of t and the stop
abbrev pub ticks_admitted : (Box → Walked) → ℕ → Admission → ℕ
ticks_admitted walk t (refused r) = 0
ticks_admitted walk t (admitted T) = min t (walk (box_of T)).ticks

-- the report of a table, and its row at t
unfoldable pub report_of : List ℕ → Reply
report_of s = report_admitted whole_walk (admission_of s)

unfoldable pub row_of : List ℕ → ℕ → Reply
row_of s t = row_admitted whole_walk t (admission_of s)

unfoldable pub row_ticks_of : List ℕ → ℕ → ℕ
row_ticks_of s t = ticks_admitted whole_walk t (admission_of s)

-- they are told beside a text; with a refusal 0 is
abbrev pub ticks_told : Answer → ℕ → ℕ
ticks_told (Ok n) ticks = ticks
ticks_told (Err r) ticks = 0

-- refusal 10, for a lent buffer of length n
unfoldable pub fitted : ℕ → Reply → Reply
fitted n (refuses r) = refuses r
fitted n (says s) = cond (leb (length s) n) (says s) (refuses ShortBuffer)

-- what a call returns, and what it leaves in the buffer: the text from its start on; bytes after the text, and all on a refusal, as they were
pub record Call : Type 0 where
  pub answer : Answer
  pub buffer : List ℕ

unfoldable pub left : List ℕ → Reply → Call
left buffer (says s) = record { answer = Ok (length s); buffer = s ++ drop (length s) buffer }
left buffer (refuses r) = record { answer = Err r; buffer = buffer }

unfoldable pub call_of : List ℕ → Reply → Call
call_of buffer reply = left buffer (fitted (length buffer) reply)
