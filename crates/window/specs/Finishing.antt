-- A server job whose budget is used up is dropped, and its window shifted: what the functions of `finishing` compute, and the loop of the walk over
-- the server jobs that ran.
use Rattle.std.specs.Prelude.{is_some, unwrap_or, Bool, ◌&&◌, cond, List, ℕ, suc, ◌+◌, ◌*◌, ◌-◌, min, max, leb, ltb, eqb, get_or, set}
use Rattle.table.specs.declared.Pending.{Pending}
use Rattle.table.specs.declared.Server.{Server}
use Rattle.table.specs.declared.State.{State}
use Rattle.window.specs.declared.Plan.{Plan}
use Rattle.window.specs.Entries.{window, no_server, last_key, further, slot_of, server_at, count_at, first_at, next_at, period_at, step_at}
use Rattle.window.specs.Loops.{replaced, in_turn}
use Rattle.window.specs.Choosing.{place_of}

-- the oldest server job at i is complete
abbrev pub done_at : List ℕ → List ℕ → ℕ → Bool
done_at left count i = ltb 0 (get_or count i 0) && (leb (get_or count i 0) window && eqb (get_or left (i * window) 0) 0)

-- the response of the job linked to the oldest of `count` server jobs, which finishes at `now`: that one was released so many periods before
-- the next release, and the job's invocation `behind` periods before that
abbrev pub response_of : (now next count behind period : ℕ) → ℕ
response_of now next count behind period = min (now + (count + behind) * period - next) last_key

-- the window without its oldest
abbrev pub shifted : Server → Server
shifted s = record { jobs = replaced (λ (d : ℕ). slot_of s (suc d)) s.jobs (window - 1) }

-- the budgets left of n slots from `base` on, each moved one place down
abbrev pub moved_down : List ℕ → ℕ → ℕ → List ℕ
moved_down left base n = in_turn (λ (l : List ℕ) (d : ℕ). set l (base + d) (get_or l (base + suc d) 0)) left (n - 1)

-- the key of the next one, where n are pending
abbrev pub later_key : (n key step : ℕ) → ℕ
later_key n key step = cond (ltb 1 n) (further key step) last_key

abbrev pub counted_unfinished : List ℕ → ℕ → Bool → List ℕ
counted_unfinished unfinished i linked = cond linked (set unfinished i (get_or unfinished i 0 - 1)) unfinished

abbrev pub counted_worst : List ℕ → ℕ → Bool → ℕ → List ℕ
counted_worst worst i linked response = cond linked (set worst i (max (get_or worst i 0) response)) worst

-- the windows with that at i shifted, where more than its oldest is pending
abbrev pub shifted_at : List Server → ℕ → ℕ → List Server
shifted_at servers i n = cond (ltb 1 n) (set servers i (shifted (get_or servers i no_server))) servers

-- the server at i without its oldest pending job; a linked one finishes its job
abbrev pub finished_with : Plan → ℕ → State → ℕ → State
finished_with plan now st i =
    let n : ℕ = count_at st i in
    let p : Pending = slot_of (server_at st i) 0 in
    let response : ℕ = response_of now (next_at st i) n (unwrap_or p.behind 0) (period_at plan i) in
    record {
      servers = shifted_at st.servers i n;
      left = moved_down st.left (i * window) n;
      first = set st.first i (later_key n (first_at st i) (step_at plan i));
      count = set st.count i (n - 1);
      unfinished = counted_unfinished st.unfinished i (is_some p.behind);
      unlinked = st.unlinked;
      worst = counted_worst st.worst i (is_some p.behind) response;
      next = st.next;
    }

abbrev pub finish_at : Plan → ℕ → State → ℕ → State
finish_at plan now st i = cond (done_at st.left st.count i) (finished_with plan now st i) st

-- of each of the first m that ran, in turn: the oldest server job at its place
abbrev pub finished_all : Plan → (now : ℕ) → (run : List ℕ) → State → ℕ → State
finished_all plan now run st m = in_turn (λ (u : State) (r : ℕ). finish_at plan now u (place_of (get_or run r 0))) st m
