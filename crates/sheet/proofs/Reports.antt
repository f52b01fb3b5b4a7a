-- The report that the walk in memory gives is the rules' report of the bytes.
use mathlib.Core.Path.{◌≡◌, refl, ap, ◌∙◌}
use mathlib.Core.List.{List}
use Prim.Native.Nat.{ℕ, ◌≤◌}
use native.Mathlib.Omega.{arith}
use lib.ListN.{take}
use lib.Dec.{T}
use Rattle.schedule.specs.Limits as Limits
use Rattle.schedule.specs.WellFormed.{well_formed}
use Rattle.schedule.specs.Table.{Table, hyperperiod}
use Rattle.schedule.specs.Servers.{box_of, whole}
use Rattle.schedule.specs.Walk.{Stop, settled, unsettled, backlog, boundary, walked}
use Rattle.planning.proofs.Boundaries.{last_boundary}
use Rattle.rules.specs.Admission.{admitted, refused, admission_of}
use Rattle.rules.specs.Answers.{refuses, report_on, report_of}
use Rattle.format.specs.declared.Refusal.{Refusal}
use Rattle.std.specs.Prelude.{Err}
use Rattle.schedule.proofs.Tests.{either_way}
use Rattle.theorems.proofs.FirstStop.{stops_in_time}
use Rattle.rules.proofs.ReadWellFormed.{admitted_well_formed}
use Rattle.window.specs.Entries.{last_key}
use Rattle.window.proofs.Ends.{how_of}
use Rattle.window.proofs.Walked.{stop, AtStop}
use Rattle.sheet.specs.Figures.{figures_of}
use Rattle.sheet.specs.Walks.{Walkable, walk_of_table, stop_of, round_in}
use Rattle.sheet.specs.Walks.{admitted_of}
use Rattle.admission.specs.declared.admitting.Admitted.{Admitted}
use Rattle.table.specs.declared.Seen.{Seen}
use Rattle.window.specs.declared.Walk.{Walk}
use Rattle.sheet.proofs.Admissions.{Passes}
use Rattle.sheet.proofs.TableWalks.{X, M, a, walkable, few_graphs, table_walked, figures_are}

-- an instant past every stop
abbrev pub never : ℕ
never = last_key

-- what the walk in memory tells of the stop is the rules' own
pub stop_of_lem : (s : Stop) → stop_of (how_of s) ≡ s
stop_of_lem (settled k) = refl
stop_of_lem unsettled = refl
stop_of_lem backlog = refl

-- a walk that did not settle is refused by the rules as it is in memory
pub unsettled_report : (s : Stop) (ticks : ℕ) (figures : List ℕ) (f : Refusal) → round_in s ≡ Err f → report_on s ticks figures ≡ refuses f
unsettled_report (settled k) ticks figures f e = let z : ◌≡◌ {A = ℕ} 0 1 = cc in absurd (let x : ⊥ = omega arith in x)
unsettled_report unsettled ticks figures f e = let same : Refusal.Unsettled ≡ f = cc in ap refuses same
unsettled_report backlog ticks figures f e = let same : Refusal.Backlog ≡ f = cc in ap refuses same

module _ (bytes : List ℕ) (U : Table) (e : admission_of bytes ≡ admitted U) where
  abbrev pub ok : T (well_formed U)
  ok = (admitted_well_formed bytes U e).0

  abbrev pub short : hyperperiod U ≤ (Limits.hyperperiod).to
  short = (admitted_well_formed bytes U e).1

  -- the report's walk stops, and the instant it asks for is past every stop
  pub at_stop : AtStop (X U ok short) (walk_of_table (a U ok short) never)
  unfolding boundary
  at_stop =
      either_way (table_walked U ok short never) (λ s. s.1)
      (λ b. absurd (let x : ⊥ = omega (arith, b.0, stops_in_time (box_of U) (whole (box_of U).servers), last_boundary U ok short) in x))

  pub report_same : report_on (stop_of (walk_of_table (a U ok short) never).how) (walk_of_table (a U ok short) never).ticks
      (take (M U ok short).graphs (figures_of (M U ok short) (walk_of_table (a U ok short) never).state.worst))
      ≡ report_of bytes
  unfolding report_of walked
  report_same =
      let s = at_stop in
      rw (s.how, s.ticks, s.shows, stop_of_lem (stop (box_of U)).how, figures_are U ok short (stop (box_of U)).ticks s.state.worst (λ i h. (s.in_step.row i h).worst), e)

module _ (bytes : List ℕ) (r : Admitted) (p : Passes bytes r) where
  pub passed_walkable : Walkable r
  passed_walkable = rw p.is (walkable p.table (ok bytes p.table p.is_admitted) (short bytes p.table p.is_admitted))

  pub passed_few : r.table.graphs ≤ (Limits.graphs).to
  passed_few = rw p.is (few_graphs p.table (ok bytes p.table p.is_admitted) (short bytes p.table p.is_admitted))

  -- of a table that passed, by the walk of what was read
  pub passed_report : (w : Walk Seen) → w ≡ walk_of_table r never
      → report_on (stop_of w.how) w.ticks (take r.table.graphs (figures_of r.table w.state.worst)) ≡ report_of bytes
  passed_report w e =
      let q : w ≡ walk_of_table (admitted_of p.table) never = e ∙ ap (λ (x : Admitted). walk_of_table x never) p.is in
      rw (q, p.is) (report_same bytes p.table p.is_admitted)

pub refused_report : (bytes : List ℕ) (f : Refusal) → admission_of bytes ≡ refused f → report_of bytes ≡ refuses f
unfolding report_of
refused_report bytes f e = rw e
