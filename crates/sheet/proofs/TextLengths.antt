-- How long the text of an answer is at most, where its numbers have at most `most_digits` digits.
use mathlib.Core.List.{List, [], ◌∷◌, ◌++◌}
use Prim.Native.Nat.{ℕ, suc, ◌-◌, ◌*◌, ◌^◌, ◌≤◌, ◌<◌}
use Prim.Native.String.{String}
use native.Mathlib.Omega.{arith}
use lib.ListN.{length, get_or, length-append}
use Rattle.schedule.specs.Limits as Limits
use Rattle.format.specs.Bytes.{bytes, equals, comma, line_feed, decimal}
use Rattle.schedule.specs.Walk.{Running}
use Rattle.rules.specs.Answers.{answer_line, response_lines, report_text, row_text}
use Rattle.writing.specs.Lengths.{most_digits, longest_line, longest_run, longest_report}
use Rattle.writing.proofs.Counting.{digits_most}
use Rattle.looking.proofs.RowNumbers.{Each, Entry, each_under}

abbrev pub Small : ℕ → Type 0
Small v = v < 10 ^ most_digits

pub line_short : (name : String) (v : ℕ) → Small v → length (answer_line name v) ≤ longest_line (bytes name)
unfolding answer_line
line_short name v h =
    omega (
      arith,
      length-append (bytes name) (equals ∷ decimal v ++ (line_feed ∷ [])),
      length-append (decimal v) (line_feed ∷ []),
      digits_most (most_digits - 1) v h,
    )

responses_short : (fs : List ℕ) → ((g : ℕ) → g < length fs → Small (get_or fs g 0)) → length (response_lines fs) ≤ length fs * longest_line (bytes "response")
unfolding response_lines
responses_short [] h = omega arith
responses_short (f ∷ fs) h =
    omega (
      arith,
      length-append (answer_line "response" f) (response_lines fs),
      line_short "response" f (h 0 (omega arith)),
      responses_short fs (λ g l. h (suc g) (omega arith)),
    )

pub report_short : (k t : ℕ) (fs : List ℕ) → Small k → Small t → length fs ≤ (Limits.graphs).to → ((g : ℕ) → g < length fs → Small (get_or fs g 0))
    → length (report_text k t fs) ≤ longest_report
unfolding report_text
report_short k t fs a b few h =
    let ticks : List ℕ = answer_line "ticks" t ++ response_lines fs in
    let round : List ℕ = answer_line "round" k ++ ticks in
    omega (
      arith,
      length-append (answer_line "answer" 0) round,
      length-append (answer_line "round" k) ticks,
      length-append (answer_line "ticks" t) (response_lines fs),
      line_short "answer" 0 (omega arith),
      line_short "round" k a,
      line_short "ticks" t b,
      responses_short fs h,
    )

pub record SmallRun (x : Running) : Type 0 where
  pub graph : Small x.graph
  pub node : Small x.node
  pub server_job : Small x.server_job
  pub invocation : Small x.invocation

-- up to the limit of an instant every number has few digits
pub small_row : (t : ℕ) → t ≤ (Limits.instant).to → (l : List Running) → Each (Entry (Limits.graphs).to (Limits.all_nodes).to t) l → Each SmallRun l
small_row t near l e =
    each_under (Entry (Limits.graphs).to (Limits.all_nodes).to t) SmallRun
    (λ x n. record {
      graph = omega (arith, n.graph);
      node = omega (arith, n.node);
      server_job = omega (arith, n.server_job);
      invocation = omega (arith, n.invocation);
    })
    l e

pub row_short : (xs : List Running) → Each SmallRun xs → length (row_text xs) ≤ length xs * longest_run
unfolding row_text
row_short [] h = omega arith
row_short (x ∷ xs) (s, h) =
    let d : List ℕ = decimal x.invocation ++ (line_feed ∷ row_text xs) in
    let c : List ℕ = decimal x.server_job ++ (comma ∷ d) in
    let b : List ℕ = decimal x.node ++ (comma ∷ c) in
    let a : List ℕ = decimal x.graph ++ (comma ∷ b) in
    omega (
      arith,
      length-append (bytes "run=") a,
      length-append (decimal x.graph) (comma ∷ b),
      length-append (decimal x.node) (comma ∷ c),
      length-append (decimal x.server_job) (comma ∷ d),
      length-append (decimal x.invocation) (line_feed ∷ row_text xs),
      digits_most (most_digits - 1) x.graph s.graph,
      digits_most (most_digits - 1) x.node s.node,
      digits_most (most_digits - 1) x.server_job s.server_job,
      digits_most (most_digits - 1) x.invocation s.invocation,
      row_short xs h,
    )
