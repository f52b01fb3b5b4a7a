-- The walk of a table in memory by the plain engine: what `walked` computes. For the proof, not for belief.
use Rattle.std.specs.Prelude.{ℕ}
use Rattle.admission.specs.declared.admitting.Admitted.{Admitted}
use Rattle.planning.specs.Plans.{plan_of}
use Rattle.planning.specs.Offsets.{offsets_of, largest_offset_of}
use Rattle.ledger.specs.declared.Ledger.{Ledger}
use Rattle.window.specs.declared.Walk.{Walk}
use Rattle.ledger.specs.Walking.{walk_of}

unfoldable pub walk_of_table : Admitted → ℕ → Walk Ledger
walk_of_table a asked =
    walk_of (plan_of a.table) (offsets_of a.table) (largest_offset_of a.table) a.hyperperiod a.table.rounds asked
