-- The walk of a table in memory: what `planned` gives it, what it computes, and when. For the proof, not for belief.
use Rattle.std.specs.Prelude.{ℕ, ◌+◌, ◌*◌, ◌≤◌, Result, Ok, Err}
use Rattle.schedule.specs.Limits as Limits
use Rattle.schedule.specs.Table.{Table, hyperperiod}
use Rattle.schedule.specs.Walk.{Stop, settled, unsettled, backlog}
use Rattle.reading.specs.Memory.{memory_of}
use Rattle.format.specs.declared.Refusal.{Refusal}
use Rattle.admission.specs.declared.admitting.Admitted.{Admitted}
use Rattle.planning.specs.Plans.{plan_of}
use Rattle.planning.specs.Offsets.{offsets_of, largest_offset_of}
use Rattle.window.specs.declared.How.{How}
use Rattle.window.specs.declared.How.TheVariants.{Settled, Unsettled, Backlog, Reached}
use Rattle.table.specs.declared.Seen.{Seen}
use Rattle.window.specs.declared.Walk.{Walk}
use Rattle.window.specs.Walking.{walk_of}
use Rattle.sheet.specs.declared.plans.Laid.{Laid}

-- what a call needs of a table in memory
abbrev pub planned_of : Admitted → Laid
planned_of a =
    record {
      plan = plan_of a.table;
      offsets = offsets_of a.table;
      origin = largest_offset_of a.table;
      hyperperiod = a.hyperperiod;
      rounds = a.table.rounds;
      graphs = a.table.graphs;
      graph = a.table.graph;
    }

-- of one that is admitted, or its refusal
abbrev pub planned_by : Result Admitted Refusal → Result Laid Refusal
planned_by (Ok a) = Ok (planned_of a)
planned_by (Err r) = Err r

-- an admitted table in memory, with its hyperperiod
abbrev pub admitted_of : Table → Admitted
admitted_of T = record { table = memory_of T; hyperperiod = hyperperiod T }

-- what the walk asks of a table
pub record Walkable (a : Admitted) : Type 0 where
  pub processors_most : (plan_of a.table).processors ≤ (Limits.processors).to
  pub in_time : largest_offset_of a.table + a.table.rounds * a.hyperperiod ≤ (Limits.offset).to + (Limits.rounds).to * (Limits.hyperperiod).to
  pub hyper_some : 1 ≤ a.hyperperiod

unfoldable pub walk_of_table : Admitted → ℕ → Walk Seen
walk_of_table a asked =
    walk_of (plan_of a.table) (offsets_of a.table) (largest_offset_of a.table) a.hyperperiod a.table.rounds asked

-- the rules' word for how a walk stopped. (A report's walk comes to no instant asked.)
abbrev pub stop_of : How → Stop
stop_of (Settled k) = settled k
stop_of Unsettled = unsettled
stop_of Backlog = backlog
stop_of Reached = unsettled

-- the round of a walk that settled, or refusal 7 or 8
abbrev pub round_in : Stop → Result ℕ Refusal
round_in (settled k) = Ok k
round_in unsettled = Err Refusal.Unsettled
round_in backlog = Err Refusal.Backlog
