-- The row that the plain walks in memory give is what a row call promises of the bytes.
use mathlib.Core.Path.{◌≡◌, ap, ◌∙◌}
use mathlib.Core.List.{List}
use Prim.Native.Nat.{ℕ, ◌≤◌, ◌<◌}
use Rattle.schedule.specs.Limits as Limits
use Rattle.schedule.specs.FarRows.{matching}
use Rattle.std.specs.Prelude.{Err}
use Rattle.rules.specs.Answers.{RowAnswer}
use Rattle.format.specs.declared.Refusal.TheVariants.{PastTheStop}
use Rattle.sheet.specs.Walks.{admitted_of}
use Rattle.admission.specs.declared.admitting.Admitted.{Admitted}
use Rattle.writing.specs.declared.row.Row.{Row}
use Rattle.repeating.specs.Moving.{far_row}
use Rattle.looking.specs.declared.End.TheVariants.{Reached, Settled, Stopped}
use Rattle.looking.specs.declared.Look.{Look}
use Rattle.looking.specs.Looking.{says_row}
use Rattle.sheet.specs.Rows.{Answered, RowAt}
use Rattle.sheet.proofs.Admissions.{Passes}
use Rattle.sheet.proofs.RowCalls.{Promised, promised}
use Rattle.sheet.proofs.RowTold.{near_told, far_told, stopped_told, above_told}
use Rattle.plainlaws.specs.Rows.{look_of}
use Rattle.plainlaws.proofs.Reports.{ok, short}
use Rattle.plainlaws.proofs.TableLooks.{table_looked}

module _ (bytes : List ℕ) (a : Admitted) (p : Passes bytes a) where
  passed_row : (t : ℕ) (before after : List ℕ) (x : RowAnswer) → RowAt (look_of a) a.table.graph a.hyperperiod t before after x
      → Promised bytes t before after x
  passed_row t before after x h =
      let U = p.table in
      let is = p.is_admitted in
      let A = admitted_of U in
      let g : RowAt (look_of A) A.table.graph A.hyperperiod t before after x = rw p.is at h in
      promised bytes U is t (look_of A) (table_looked U (ok bytes U is) (short bytes U is)) before after x g

  pub passed_above : (t : ℕ) (buffer : List ℕ) → (Limits.instant).to < t → Promised bytes t buffer buffer (Err PastTheStop)
  passed_above t buffer l = passed_row t buffer buffer (Err PastTheStop) (above_told (look_of a) a.table.graph a.hyperperiod t buffer l)

  -- by how the walk to t ended
  module _ (t : ℕ) (near : t ≤ (Limits.instant).to) (l : Look) (e : l ≡ look_of a t) where
    pub passed_near : (before after : List ℕ) (x : RowAnswer) → l.end ≡ Reached → Answered (says_row l.row) t before after x
        → Promised bytes t before after x
    passed_near before after x h s = passed_row t before after x (near_told (look_of a) a.table.graph a.hyperperiod t near l e before after x h s)

    pub passed_far : (before after : List ℕ) (x : RowAnswer) → l.end ≡ Settled → (there : Look)
        → there ≡ look_of a (matching a.hyperperiod l.ticks t) → (far : Row)
        → far ≡ far_row a.table.graph a.hyperperiod l.ticks t there.row → Answered (says_row far) l.ticks before after x
        → Promised bytes t before after x
    passed_far before after x h there r far f s =
        passed_row t before after x
        (far_told (look_of a) a.table.graph a.hyperperiod t near l e before after x h far
        (f ∙ ap (λ (y : Look). far_row a.table.graph a.hyperperiod l.ticks t y.row) r) s)

    pub passed_stopped : (buffer : List ℕ) → l.end ≡ Stopped → Promised bytes t buffer buffer (Err PastTheStop)
    passed_stopped buffer h =
        passed_row t buffer buffer (Err PastTheStop) (stopped_told (look_of a) a.table.graph a.hyperperiod t near l e buffer h)
