-- What a walk in memory by the plain engine shows: what `looked` gives. For the proof, not for belief.
use Rattle.std.specs.Prelude.{ℕ}
use Rattle.admission.specs.declared.admitting.Admitted.{Admitted}
use Rattle.table.specs.declared.Table.{Table}
use Rattle.planning.specs.Plans.{plan_of}
use Rattle.planning.specs.Offsets.{offsets_of}
use Rattle.looking.specs.declared.Look.{Look}
use Rattle.ledger.specs.Showing.{row_of}
use Rattle.looking.specs.Looking.{end_by}
use Rattle.ledger.specs.declared.Ledger.{Ledger}
use Rattle.window.specs.declared.Walk.{Walk}
use Rattle.plainlaws.specs.Walks.{walk_of_table}

abbrev pub look_at : Table → Walk Ledger → Look
look_at table w = record { end = end_by w.how; ticks = w.ticks; row = row_of (plan_of table) (offsets_of table) w.state }

unfoldable pub look_of : Admitted → ℕ → Look
look_of a asked = look_at a.table (walk_of_table a asked)
