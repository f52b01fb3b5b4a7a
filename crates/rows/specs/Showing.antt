-- The row over windows: what the functions of this crate compute. These definitions are for the proof and not for belief: what a reader
-- believes is the rules' row.
use Rattle.std.specs.Prelude.{is_some, unwrap_or, cond, List, [], ℕ, ◌+◌, ◌-◌, ◌/◌, ◌%◌, get_or, replicate}
use Rattle.table.specs.declared.Pending.{Pending}
use Rattle.schedule.specs.Limits as Limits
use Rattle.table.specs.declared.Seen.{Seen}
use Rattle.table.specs.declared.Server.{Server}
use Rattle.window.specs.declared.Plan.{Plan}
use Rattle.window.specs.Entries.{places, window, no_server, slot_of}
use Rattle.window.specs.Loops.{replaced}
use Rattle.window.specs.Choosing.{Picks, place_of, chosen_by}
use Rattle.writing.specs.declared.row.Run.{Run}
use Rattle.writing.specs.declared.row.Row.{Row}

-- the number of a server job: its release is (key - lead) / places
abbrev pub number_of : (key lead offset period : ℕ) → ℕ
number_of key lead offset period = ((key - lead) / places - offset) / period + 1

-- the number of the job that is linked to server job `number`, 0 for none
abbrev pub invocation_of : Pending → ℕ → ℕ
invocation_of p number = cond (is_some p.behind) (number - unwrap_or p.behind 0) 0

abbrev pub blank : ℕ → Row
blank count =
    record { run = replicate (Limits.processors).to (record { graph = 0; node = 0; server_job = 0; invocation = 0 }); count = count }

-- the running server job with a key, which says its place and its number, from what stands at the place and from its server
abbrev pub number_by : (lead period offsets : List ℕ) → ℕ → ℕ
number_by lead period offsets key =
    number_of key (get_or lead (place_of key) 0) (get_or offsets (place_of key) 0) (get_or period (place_of key) 0)

abbrev pub run_by : (graph node lead period offsets : List ℕ) → Server → (key at : ℕ) → Run
run_by graph node lead period offsets s key at =
    record {
      graph = get_or graph (place_of key) 0;
      node = get_or node (place_of key) 0;
      server_job = number_by lead period offsets key;
      invocation = invocation_of (slot_of s (at % window)) (number_by lead period offsets key);
    }

-- what a row needs of what a walk shows
abbrev pub seen_by : List Server → (first count : List ℕ) → Seen
seen_by servers first count = record { servers = servers; first = first; count = count; worst = [] }

module _ (plan : Plan) (offsets : List ℕ) (st : Seen) where
  unfoldable pub run_of : ℕ → ℕ → Run
  run_of key at = run_by plan.graph plan.node plan.lead plan.period offsets (get_or st.servers (place_of key) no_server) key at

  abbrev pub picks_of : Picks
  picks_of = chosen_by plan st.first st.count

  -- entry r, and the row of the first n of them
  abbrev pub entry_of : ℕ → Run
  entry_of r = run_of (get_or picks_of.run r 0) (get_or picks_of.at r 0)

  unfoldable pub row_to : ℕ → Row
  row_to n = let b : Row = blank picks_of.count in record { run = replaced entry_of b.run n; count = b.count }

  abbrev pub row_of : Row
  row_of = row_to picks_of.count
