-- The report that the plain walk in memory gives is the rules' report of the bytes.
use mathlib.Core.Path.{◌≡◌, ap, ◌∙◌}
use mathlib.Core.List.{List}
use Prim.Native.Nat.{ℕ, ◌≤◌}
use native.Mathlib.Omega.{arith}
use lib.ListN.{take}
use lib.Dec.{T}
use Rattle.schedule.specs.Limits as Limits
use Rattle.schedule.specs.WellFormed.{well_formed}
use Rattle.schedule.specs.Table.{Table, hyperperiod}
use Rattle.schedule.specs.Servers.{box_of, whole}
use Rattle.schedule.specs.Walk.{boundary, walked}
use Rattle.schedule.proofs.Tests.{either_way}
use Rattle.theorems.proofs.FirstStop.{stops_in_time}
use Rattle.rules.specs.Admission.{admitted, admission_of}
use Rattle.rules.specs.Answers.{report_on, report_of}
use Rattle.rules.proofs.ReadWellFormed.{admitted_well_formed}
use Rattle.reading.specs.Memory.{memory_of}
use Rattle.sheet.specs.Walks.{admitted_of}
use Rattle.admission.specs.declared.admitting.Admitted.{Admitted}
use Rattle.planning.proofs.Boundaries.{last_boundary}
use Rattle.sheet.specs.Figures.{figures_of}
use Rattle.sheet.proofs.Admissions.{Passes}
use Rattle.sheet.proofs.TableWalks.{figures_are}
use Rattle.sheet.proofs.Reports.{never, stop_of_lem}
use Rattle.sheet.specs.Walks.{stop_of}
use Rattle.ledger.specs.declared.Ledger.{Ledger}
use Rattle.window.specs.declared.Walk.{Walk}
use Rattle.ledgerlaws.proofs.Walked.{stop, AtStop}
use Rattle.plainlaws.specs.Walks.{walk_of_table}
use Rattle.plainlaws.proofs.TableWalks.{table_walked}

module _ (bytes : List ℕ) (U : Table) (e : admission_of bytes ≡ admitted U) where
  abbrev pub ok : T (well_formed U)
  ok = (admitted_well_formed bytes U e).0

  abbrev pub short : hyperperiod U ≤ (Limits.hyperperiod).to
  short = (admitted_well_formed bytes U e).1

  abbrev w : Walk Ledger
  w = walk_of_table (admitted_of U) never

  -- the report's walk stops, and the instant it asks for is past every stop
  at_stop : AtStop (box_of U) w
  unfolding boundary
  at_stop =
      either_way (table_walked U ok short never) (λ s. s.1)
      (λ b. absurd (let x : ⊥ = omega (arith, b.0, stops_in_time (box_of U) (whole (box_of U).servers), last_boundary U ok short) in x))

  pub report_same : report_on (stop_of w.how) w.ticks (take (memory_of U).graphs (figures_of (memory_of U) w.state.worst)) ≡ report_of bytes
  unfolding report_of walked
  report_same =
      let s = at_stop in
      rw (s.how, s.ticks, stop_of_lem (stop (box_of U)).how, figures_are U ok short (stop (box_of U)).ticks w.state.worst s.worst, e)

-- of a table that passed, by the walk of what was read
pub passed_report : (bytes : List ℕ) (r : Admitted) (p : Passes bytes r) (w : Walk Ledger) → w ≡ walk_of_table r never
    → report_on (stop_of w.how) w.ticks (take r.table.graphs (figures_of r.table w.state.worst)) ≡ report_of bytes
passed_report bytes r p w e =
    let q : w ≡ walk_of_table (admitted_of p.table) never = e ∙ ap (λ (x : Admitted). walk_of_table x never) p.is in
    rw (q, p.is) (report_same bytes p.table p.is_admitted)
