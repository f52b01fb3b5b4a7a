-- Several tables in the slots of a room, and how long the text for them can get.
use Rattle.std.specs.Prelude.{◌≡◌, List, ℕ, suc, ◌+◌, ◌*◌, ◌<◌, min, length, take, drop, get_or}
use Rattle.schedule.specs.Limits as Limits
use Rattle.format.specs.Bytes.{bytes}
use Rattle.rules.specs.Batch.{table_at}
use Rattle.writing.specs.Lengths.{longest_line, longest_report, longest_row}

-- one byte more than a table may have
abbrev pub slot_bytes : ℕ
slot_bytes = suc (Limits.table_bytes).to

abbrev pub slots_bytes : ℕ
slots_bytes = (Limits.tables).to * slot_bytes

-- what stands in slot i: the table of length i, as far as the slot goes
abbrev pub in_slot : List ℕ → List ℕ → ℕ → List ℕ
in_slot lengths room i = take (min (get_or lengths i 0) slot_bytes) (drop (i * slot_bytes) room)

-- each table of the input stands in its slot, as far as the slot goes
abbrev pub HoldTables : List ℕ → List ℕ → List ℕ → Type 0
HoldTables input lengths room = (i : ℕ) → i < length lengths → in_slot lengths room i ≡ take slot_bytes (table_at input lengths i)

-- `table=`, then a report or a refusal
abbrev pub longest_numbered : ℕ
longest_numbered = longest_line (bytes "table") + longest_report

-- each is written where there is room for a row too
abbrev pub longest_batch : ℕ
longest_batch = (Limits.tables).to * longest_numbered + longest_row
