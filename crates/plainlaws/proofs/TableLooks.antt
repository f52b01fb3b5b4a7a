-- What the plain walk of an admitted table in memory shows is as the rules have it.
use mathlib.Core.Path.{◌≡◌, refl}
use mathlib.Core.List.{List}
use Prim.Native.Nat.{ℕ, ◌≤◌, min}
use native.Mathlib.Omega.{arith}
use lib.Dec.{T}
use lib.ListN.{length}
use Rattle.schedule.specs.Limits as Limits
use Rattle.schedule.specs.Table.{Table, hyperperiod}
use Rattle.schedule.specs.Servers.{Box, box_of, whole}
use Rattle.schedule.specs.Walk.{Stop, settled, unsettled, backlog, boundary}
use Rattle.schedule.specs.WellFormed.{well_formed}
use Rattle.schedule.proofs.Tests.{either_way}
use Rattle.theorems.proofs.FirstStop.{stops_in_time}
use Rattle.reading.specs.Memory.{memory_of}
use Rattle.sheet.specs.Walks.{admitted_of}
use Rattle.admission.specs.declared.admitting.Admitted.{Admitted}
use Rattle.window.specs.declared.Plan.{Plan}
use Rattle.planning.specs.Plans.{plan_of}
use Rattle.planning.specs.Offsets.{offsets_of}
use Rattle.planning.proofs.Boundaries.{last_boundary}
use Rattle.looking.specs.declared.Look.{Look}
use Rattle.looking.proofs.Looked.{end_of, stop, Looked}
use Rattle.ledger.specs.Showing.{row_of}
use Rattle.ledger.specs.declared.Ledger.{Ledger}
use Rattle.ledger.proofs.RowLaws.{run_length, row_few}
use Rattle.window.proofs.Ends.{how_of}
use Rattle.ledgerlaws.proofs.Shown.{row_shown}
use Rattle.plainlaws.specs.Walks.{walk_of_table}
use Rattle.looking.specs.Looking.{end_by}
use Rattle.plainlaws.specs.Rows.{look_at, look_of}
use Rattle.plainlaws.proofs.TableWalks.{table_laid, table_walked}

end_of_lem : (s : Stop) → end_by (how_of s) ≡ end_of s
end_of_lem (settled k) = refl
end_of_lem unsettled = refl
end_of_lem backlog = refl

-- a row has room for what it counts
row_room : (plan : Plan) (offsets : List ℕ) (l : Ledger) → (row_of plan offsets l).count ≤ length (row_of plan offsets l).run
unfolding row_of
row_room plan offsets l = omega (arith, row_few plan offsets l, run_length plan offsets l (min plan.processors (Limits.processors).to))

-- its text is written from no more entries than there can be processors
pub look_few : (a : Admitted) (t : ℕ) (l : Look) → l ≡ look_of a t → l.row.count ≤ (Limits.processors).to
unfolding look_of
look_few a t l e = rw e (row_few (plan_of a.table) (offsets_of a.table) (walk_of_table a t).state)

module _ (U : Table) (ok : T (well_formed U)) (short : hyperperiod U ≤ (Limits.hyperperiod).to) (t : ℕ) where
  abbrev X : Box
  X = box_of U

  walk_looked : Looked X t (look_at (memory_of U) (walk_of_table (admitted_of U) t))
  unfolding boundary
  walk_looked =
      let w = walk_of_table (admitted_of U) t in
      let room = row_room (plan_of (memory_of U)) (offsets_of (memory_of U)) w.state in
      either_way (table_walked U ok short t)
      (λ s. record {
        reached = λ l. absurd (let x : ⊥ = omega (arith, s.0) in x);
        shows = λ l. absurd (let x : ⊥ = omega (arith, s.0) in x);
        end = λ l. rw s.1.how (end_of_lem (stop X).how);
        ticks = λ l. s.1.ticks;
        room = room;
      })
      (λ b. record {
        reached = λ l. rw b.1.how;
        shows = λ l.
            row_shown X (plan_of (memory_of U)) (offsets_of (memory_of U)) (table_laid U ok short) t w.state b.1.released
            (omega (arith, stops_in_time X (whole X.servers), last_boundary U ok short));
        end = λ l. absurd (let x : ⊥ = omega (arith, b.0) in x);
        ticks = λ l. absurd (let x : ⊥ = omega (arith, b.0) in x);
        room = room;
      })

  pub table_looked : Looked X t (look_of (admitted_of U) t)
  unfolding look_of
  table_looked = walk_looked
