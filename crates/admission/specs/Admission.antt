-- Admission in the form of the code's result.
use Rattle.std.specs.Prelude.{Bool, true, false, Option, Some, None, Result, Ok, Err, ℕ, ◌*◌}
use Rattle.format.specs.declared.Refusal.{Refusal}
use Rattle.format.specs.declared.Refusal.TheVariants.{LongHyperperiod, NotLoadable, CannotKeepUp}
use Rattle.schedule.specs.Limits as Limits
use Rattle.schedule.specs.Table.{hyperperiod, keeps_up}
use Rattle.rules.specs.Admission.{Admission, admitted, refused}
use Rattle.table.specs.declared.Table.{Table}
use Rattle.reading.specs.Memory.{memory_of, table_of}
use Rattle.admission.specs.declared.admitting.Admitted.{Admitted}
use Rattle.admission.specs.Loads.{hyperperiod_within, room_after, graphs_load}

abbrev pub coded_admission : Admission → Result Admitted Refusal
coded_admission (refused r) = Err r
coded_admission (admitted T) = Ok (record { table = memory_of T; hyperperiod = hyperperiod T })

-- a table in memory, admitted or refused
abbrev pub by_pace : Table → ℕ → Bool → Result Admitted Refusal
by_pace t h false = Err CannotKeepUp
by_pace t h true = Ok (record { table = t; hyperperiod = h })

abbrev pub by_load : Table → ℕ → Option ℕ → Result Admitted Refusal
by_load t h None = Err NotLoadable
by_load t h (Some room) = by_pace t h (keeps_up (table_of t))

abbrev pub by_hyperperiod : Table → Option ℕ → Result Admitted Refusal
by_hyperperiod t None = Err LongHyperperiod
by_hyperperiod t (Some h) = by_load t h (room_after (t.processors * h) (graphs_load h (table_of t).graphs))

abbrev pub admitted_memory : Table → Result Admitted Refusal
admitted_memory t = by_hyperperiod t (hyperperiod_within (Limits.hyperperiod).to 1 (table_of t).graphs)
