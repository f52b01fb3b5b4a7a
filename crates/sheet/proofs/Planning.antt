-- What was planned of the bytes: of a table that passed, its walk can be made, and its report and row are the rules' own.
use mathlib.Core.Path.{◌≡◌, refl, sym, ap, ◌∙◌}
use mathlib.Core.List.{List}
use Prim.Native.Nat.{ℕ, ◌≤◌, ◌<◌}
use lib.ListN.{take}
use native.Mathlib.Omega.{arith}
use Rattle.schedule.specs.Limits as Limits
use Rattle.schedule.specs.FarRows.{matching}
use Rattle.std.specs.Prelude.{Result, Ok, Err}
use Rattle.rules.specs.Admission.{refused, admission_of}
use Rattle.rules.specs.Answers.{RowAnswer, report_on, report_of}
use Rattle.format.specs.declared.Refusal.{Refusal}
use Rattle.format.specs.declared.Refusal.TheVariants.{PastTheStop}
use Rattle.admission.specs.Admission.{coded_admission}
use Rattle.sheet.specs.Walks.{admitted_of}
use Rattle.admission.specs.declared.admitting.Admitted.{Admitted}
use Rattle.window.specs.declared.How.TheVariants as How
use Rattle.table.specs.declared.Seen.{Seen}
use Rattle.window.specs.declared.Walk.{Walk}
use Rattle.window.specs.Walking.{walk_of}
use Rattle.writing.specs.declared.row.Row.{Row}
use Rattle.rows.specs.Showing.{row_of}
use Rattle.repeating.specs.Moving.{far_row}
use Rattle.looking.specs.declared.End.TheVariants as End
use Rattle.looking.specs.Looking.{end_by, says_row}
use Rattle.sheet.specs.declared.plans.Laid.{Laid}
use Rattle.sheet.specs.Figures.{figures_in}
use Rattle.sheet.specs.Walks.{planned_of, planned_by, walk_of_table, stop_of}
use Rattle.sheet.specs.Rows.{Ready, look_at, look_of, Answered, RowAt}
use Rattle.sheet.proofs.Admissions.{Passes, passes, is_refused}
use Rattle.sheet.proofs.Reports.{ok, short, never, passed_walkable, passed_few, passed_report}
use Rattle.sheet.proofs.TableLooks.{table_looked}
use Rattle.sheet.proofs.RowCalls.{Promised, promised}
use Rattle.sheet.proofs.RowTold.{near_told, far_told, stopped_told, above_told}

pub record Planned (bytes : List ℕ) (p : Laid) : Type 0 where
  pub table : Admitted
  pub passed : Passes bytes table
  pub is : p ≡ planned_of table

planned_from : (bytes : List ℕ) (p : Laid) (x : Result Admitted Refusal) → coded_admission (admission_of bytes) ≡ x → Ok p ≡ planned_by x → Planned bytes p
planned_from bytes p (Ok a) q e = let same : p ≡ planned_of a = cc in record { table = a; passed = passes bytes a (sym q); is = same }
planned_from bytes p (Err f) q e = let z : ◌≡◌ {A = ℕ} 0 1 = cc in absurd (let x : ⊥ = omega arith in x)

refused_from : (bytes : List ℕ) (f : Refusal) (x : Result Admitted Refusal) → coded_admission (admission_of bytes) ≡ x → Err f ≡ planned_by x
    → admission_of bytes ≡ refused f
refused_from bytes f (Ok a) q e = let z : ◌≡◌ {A = ℕ} 0 1 = cc in absurd (let x : ⊥ = omega arith in x)
refused_from bytes f (Err g) q e = let same : f ≡ g = cc in is_refused bytes f (rw same (sym q))

pub planned_refused : (bytes : List ℕ) (f : Refusal) → Err f ≡ planned_by (coded_admission (admission_of bytes)) → admission_of bytes ≡ refused f
planned_refused bytes f e = refused_from bytes f (coded_admission (admission_of bytes)) refl e

module _ (bytes : List ℕ) (p : Laid) (e : Ok p ≡ planned_by (coded_admission (admission_of bytes))) where
  pub planned : Planned bytes p
  planned = planned_from bytes p (coded_admission (admission_of bytes)) refl e

  pub planned_walkable : Ready p
  planned_walkable = let w = passed_walkable bytes planned.table planned.passed in rw planned.is (w.processors_most, w.in_time, w.hyper_some)

  pub planned_few : p.graphs ≤ (Limits.graphs).to
  planned_few = rw planned.is (passed_few bytes planned.table planned.passed)

  -- the walk of what was planned is that of the table
  pub planned_walk : (w : Walk Seen) (asked : ℕ) → w ≡ walk_of p.plan p.offsets p.origin p.hyperperiod p.rounds asked → w ≡ walk_of_table planned.table asked
  unfolding walk_of_table
  planned_walk w asked q = q ∙ ap (λ (l : Laid). walk_of l.plan l.offsets l.origin l.hyperperiod l.rounds asked) planned.is

  pub planned_report : (w : Walk Seen) → w ≡ walk_of p.plan p.offsets p.origin p.hyperperiod p.rounds never
      → report_on (stop_of w.how) w.ticks (take p.graphs (figures_in p.graph w.state.worst)) ≡ report_of bytes
  planned_report w q = let h = planned_walk w never q in rw planned.is (passed_report bytes planned.table planned.passed w h)

  planned_row : (t : ℕ) (before after : List ℕ) (x : RowAnswer) → RowAt (look_of p) p.graph p.hyperperiod t before after x
      → Promised bytes t before after x
  planned_row t before after x h =
      let U = planned.passed.table in
      let is = planned.passed.is_admitted in
      let L = planned_of (admitted_of U) in
      let q : p ≡ L = planned.is ∙ ap planned_of planned.passed.is in
      let g : RowAt (look_of L) L.graph L.hyperperiod t before after x = rw q at h in
      promised bytes U is t (look_of L) (table_looked U (ok bytes U is) (short bytes U is)) before after x g

  pub planned_above : (t : ℕ) (buffer : List ℕ) → (Limits.instant).to < t → Promised bytes t buffer buffer (Err PastTheStop)
  planned_above t buffer l = planned_row t buffer buffer (Err PastTheStop) (above_told (look_of p) p.graph p.hyperperiod t buffer l)

  -- the row by how the walk to t ended
  module _ (t : ℕ) (near : t ≤ (Limits.instant).to) (w : Walk Seen)
      (q : w ≡ walk_of p.plan p.offsets p.origin p.hyperperiod p.rounds t) where
    looked : look_at p w ≡ look_of p t
    unfolding look_of
    looked = ap (look_at p) q

    pub planned_near : (before after : List ℕ) (x : RowAnswer) → w.how ≡ How.Reached → (row : Row) → row ≡ row_of p.plan p.offsets w.state
        → Answered (says_row row) t before after x → Promised bytes t before after x
    planned_near before after x h row r s =
        planned_row t before after x
        (near_told (look_of p) p.graph p.hyperperiod t near (look_at p w) looked before after x (ap end_by h) (rw r at s))

    pub planned_far : (before after : List ℕ) (x : RowAnswer) (k : ℕ) → w.how ≡ How.Settled k → (u : Walk Seen)
        → u ≡ walk_of p.plan p.offsets p.origin p.hyperperiod p.rounds (matching p.hyperperiod w.ticks t)
        → (there far : Row) → there ≡ row_of p.plan p.offsets u.state → far ≡ far_row p.graph p.hyperperiod w.ticks t there
        → Answered (says_row far) w.ticks before after x → Promised bytes t before after x
    unfolding look_of
    planned_far before after x k h u v there far r f s =
        let again : there ≡ (look_of p (matching p.hyperperiod w.ticks t)).row = r ∙ ap (λ (y : Walk Seen). row_of p.plan p.offsets y.state) v in
        planned_row t before after x
        (far_told (look_of p) p.graph p.hyperperiod t near (look_at p w) looked before after x (ap end_by h) far
        (f ∙ ap (far_row p.graph p.hyperperiod w.ticks t) again) s)

    pub planned_stopped : (buffer : List ℕ) → end_by w.how ≡ End.Stopped → Promised bytes t buffer buffer (Err PastTheStop)
    planned_stopped buffer h =
        planned_row t buffer buffer (Err PastTheStop) (stopped_told (look_of p) p.graph p.hyperperiod t near (look_at p w) looked buffer h)
