-- What the walk of an admitted table in memory shows is as the rules have it.
use mathlib.Core.Path.{◌≡◌, refl}
use mathlib.Core.List.{List}
use Prim.Native.Nat.{ℕ, ◌≤◌}
use native.Mathlib.Omega.{arith}
use lib.Dec.{T}
use lib.ListN.{length, length-replicate}
use Rattle.schedule.specs.Limits as Limits
use Rattle.schedule.specs.Table.{Table, hyperperiod}
use Rattle.schedule.specs.WellFormed.{well_formed}
use Rattle.schedule.specs.Servers.{Box, box_of, whole}
use Rattle.schedule.specs.Walk.{Stop, settled, unsettled, backlog, boundary}
use Rattle.schedule.proofs.Tests.{either_way}
use Rattle.theorems.proofs.FirstStop.{stops_in_time}
use Rattle.table.specs.declared.Seen.{Seen}
use Rattle.window.specs.declared.Plan.{Plan}
use Rattle.window.proofs.Loops.{replaced_length}
use Rattle.window.proofs.Ends.{how_of}
use Rattle.planning.specs.Plans.{plan_of}
use Rattle.planning.specs.Offsets.{offsets_of}
use Rattle.planning.proofs.Fits.{plan_fits, offsets_fit}
use Rattle.planning.proofs.Boundaries.{last_boundary}
use Rattle.writing.specs.declared.row.Run.{Run}
use Rattle.rows.specs.Showing.{blank, picks_of, entry_of, row_to, row_of}
use Rattle.rows.proofs.Entries.{row_few}
use Rattle.rows.proofs.Shown.{row_shown}
use Rattle.repeating.specs.Moving.{no_run}
use Rattle.looking.proofs.Looked.{end_of, stop, Looked}
use Rattle.sheet.specs.Walks.{planned_of, walk_of_table}
use Rattle.looking.specs.Looking.{end_by}
use Rattle.sheet.specs.Rows.{look_at, look_of}
use Rattle.sheet.proofs.TableWalks.{M, a, table_walked}

end_of_lem : (s : Stop) → end_by (how_of s) ≡ end_of s
end_of_lem (settled k) = refl
end_of_lem unsettled = refl
end_of_lem backlog = refl

-- a row has room for what it counts
row_room : (plan : Plan) (offsets : List ℕ) (st : Seen) → plan.processors ≤ (Limits.processors).to
    → (row_of plan offsets st).count ≤ length (row_of plan offsets st).run
unfolding row_to
row_room plan offsets st h =
    omega (
      arith,
      row_few plan offsets st h,
      replaced_length (entry_of plan offsets st) (blank (picks_of plan offsets st).count).run (picks_of plan offsets st).count,
      length-replicate {A = Run} (Limits.processors).to no_run,
    )

module _ (U : Table) (ok : T (well_formed U)) (short : hyperperiod U ≤ (Limits.hyperperiod).to) (t : ℕ) where
  abbrev X : Box
  X = box_of U

  look_walked : look_of (planned_of (a U ok short)) t ≡ look_at (planned_of (a U ok short)) (walk_of_table (a U ok short) t)
  unfolding look_of walk_of_table
  look_walked = refl

  walk_looked : Looked X t (look_at (planned_of (a U ok short)) (walk_of_table (a U ok short) t))
  unfolding boundary
  walk_looked =
      let room = row_room (plan_of (M U ok short)) (offsets_of (M U ok short)) (walk_of_table (a U ok short) t).state (plan_fits U ok).processors_most in
      either_way (table_walked U ok short t)
      (λ s. record {
        reached = λ l. absurd (let x : ⊥ = omega (arith, s.0) in x);
        shows = λ l. absurd (let x : ⊥ = omega (arith, s.0) in x);
        end = λ l. rw s.1.how (end_of_lem (stop X).how);
        ticks = λ l. s.1.ticks;
        room = room;
      })
      (λ b. record {
        reached = λ l. rw b.1.how;
        shows = λ l.
            rw b.1.shows
            (row_shown X (plan_of (M U ok short)) (offsets_of (M U ok short)) b.1.state (plan_fits U ok) (offsets_fit U ok) t b.1.released
            (omega (arith, stops_in_time X (whole X.servers), last_boundary U ok short)));
        end = λ l. absurd (let x : ⊥ = omega (arith, b.0) in x);
        ticks = λ l. absurd (let x : ⊥ = omega (arith, b.0) in x);
        room = room;
      })

  pub table_looked : Looked X t (look_of (planned_of (a U ok short)) t)
  table_looked = rw look_walked walk_looked
