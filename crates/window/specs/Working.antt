-- A span's work, from the state after the releases of t to the state at its end.
use Rattle.std.specs.Prelude.{List, ℕ, ◌+◌}
use Rattle.table.specs.declared.State.{State}
use Rattle.window.specs.declared.Plan.{Plan}
use Rattle.window.specs.Entries.{nodes_of}
use Rattle.window.specs.Releasing.{earliest}
use Rattle.window.specs.Choosing.{Picks, chosen}
use Rattle.window.specs.Spending.{ticks_to, least_left, spent}
use Rattle.window.specs.Finishing.{finished_all}

abbrev pub with_left : State → List ℕ → State
with_left st left =
    record {
      servers = st.servers;
      left = left;
      first = st.first;
      count = st.count;
      unfinished = st.unfinished;
      unlinked = st.unlinked;
      worst = st.worst;
      next = st.next;
    }

-- the ticks of the span from t on: up to the next release, boundary, instant asked or used-up budget
unfoldable pub span_of : Plan → (t boundary asked : ℕ) → State → ℕ
span_of plan t boundary asked st =
    let c : Picks = chosen plan st in
    least_left st.left c.at (ticks_to t (earliest st.next (nodes_of plan)) boundary asked) c.count

-- d ticks used by each server job that runs, and what is complete then dropped
unfoldable pub worked : Plan → (t d : ℕ) → State → State
worked plan t d st =
    let c : Picks = chosen plan st in
    finished_all plan (t + d) c.run (with_left st (spent st.left c.at d c.count)) c.count
