-- The plain walk of an admitted table in memory is the rules' walk of the table: to its stop, or to an instant asked before it.
use mathlib.Core.Path.{◌≡◌, sym, ap, subst, ◌∙◌}
use mathlib.Core.Logic.{◌⊎◌}
use Prim.Native.Nat.{ℕ, ◌≤◌, ◌<◌}
use lib.Dec.{T}
use Rattle.schedule.specs.Limits as Limits
use Rattle.schedule.specs.Table.{Table, hyperperiod}
use Rattle.schedule.specs.Servers.{box_of}
use Rattle.schedule.specs.WellFormed.{well_formed}
use Rattle.table.specs.Fresh as Fresh
use Rattle.reading.specs.Memory.{memory_of}
use Rattle.reading.proofs.MemoryLaws.{rounds_stay}
use Rattle.sheet.specs.Walks.{admitted_of}
use Rattle.planning.specs.Plans.{plan_of}
use Rattle.planning.specs.Offsets.{offsets_of}
use Rattle.planning.proofs.Fits.{plan_fits, offsets_fit, largest_fits}
use Rattle.planning.proofs.Boundaries.{hyper_some, last_boundary}
use Rattle.ledgerlaws.proofs.Relation.{Laid}
use Rattle.ledger.specs.declared.Ledger.{Ledger}
use Rattle.window.specs.declared.Walk.{Walk}
use Rattle.ledger.specs.Walking.{walk_of}
use Rattle.ledgerlaws.proofs.Walked.{stop, AtStop, BeforeStop, walked_is}
use Rattle.plainlaws.specs.Walks.{walk_of_table}
use Rattle.plainlaws.proofs.Points.{table_pointed}

module _ (U : Table) (ok : T (well_formed U)) (short : hyperperiod U ≤ (Limits.hyperperiod).to) where
  pub table_laid : Laid (box_of U) (plan_of (memory_of U)) (offsets_of (memory_of U))
  table_laid = record { fits = plan_fits U ok; offset = offsets_fit U ok; point = table_pointed U }

  pub table_walked : (asked : ℕ)
      → (((stop (box_of U)).ticks ≤ asked) × AtStop (box_of U) (walk_of_table (admitted_of U) asked))
      ⊎ ((asked < (stop (box_of U)).ticks) × BeforeStop (box_of U) asked (walk_of_table (admitted_of U) asked))
  unfolding walk_of_table
  table_walked asked =
      let M = memory_of U in
      let X = box_of U in
      let rounds_are : M.rounds ≡ X.rounds = rounds_stay U.graphs (Fresh.empty_table U.processors U.rounds) in
      let same : walk_of_table (admitted_of U) asked ≡ walk_of (plan_of M) (offsets_of M) X.origin X.hyper X.rounds asked =
      ap (λ (o : ℕ). walk_of (plan_of M) (offsets_of M) o X.hyper M.rounds asked) (largest_fits U ok)
      ∙ ap (λ (r : ℕ). walk_of (plan_of M) (offsets_of M) X.origin X.hyper r asked) rounds_are in
      subst
      (λ (w : Walk Ledger). (((stop X).ticks ≤ asked) × AtStop X w) ⊎ ((asked < (stop X).ticks) × BeforeStop X asked w)) (sym same)
      (walked_is X (plan_of M) (offsets_of M) table_laid (hyper_some U ok) (last_boundary U ok short) asked)
