-- Release and link at an instant t: what the functions of `releasing` compute, and the loop of the walk over the servers.
use Rattle.std.specs.Prelude.{Some, None, Bool, true, false, ◌&&◌, ◌||◌, not, cond, List, ℕ, zero, suc, ◌+◌, ◌*◌, ◌-◌, ◌^◌, min, leb, ltb, eqb, get_or, set, replicate}
use Rattle.table.specs.declared.Pending.{Pending}
use Rattle.numbers.specs.Masks.{bit}
use Rattle.table.specs.declared.Server.{Server}
use Rattle.table.specs.declared.State.{State}
use Rattle.window.specs.declared.Plan.{Plan}
use Rattle.window.specs.Entries.{places, window, last_key, further, server_at, count_at, unfinished_at, unlinked_at, next_at, budget_at, after_at, period_at, lead_at, nodes_of}
use Rattle.window.specs.Loops.{some_below, all_below, in_turn}

-- the earliest of the first n instants
unfoldable pub earliest : List ℕ → ℕ → ℕ
earliest next zero = last_key
earliest next (suc n) = min (earliest next n) (get_or next n 0)

-- one more at place i would be a backlog
abbrev pub full_at : (next count unfinished room : List ℕ) → (t i : ℕ) → Bool
full_at next count unfinished room t i =
    eqb (get_or next i 0) t && (leb window (get_or count i 0) || leb (get_or room i 0) (get_or unfinished i 0))

abbrev pub any_full : (next count unfinished room : List ℕ) → (t n : ℕ) → Bool
any_full next count unfinished room t n = some_below (full_at next count unfinished room t) n

-- the server at i releases a server job, and has room for it
abbrev pub releases_at : (next count : List ℕ) → (i t : ℕ) → Bool
releases_at next count i t = eqb (get_or next i 0) t && ltb (get_or count i 0) window

-- each predecessor has fewer unfinished jobs than `unlinked`
abbrev pub all_fewer : List ℕ → ℕ → ℕ → Bool
all_fewer unfinished after unlinked = all_below (λ (p : ℕ). not (bit after p) || ltb (get_or unfinished p 0) unlinked) places

abbrev pub linked_now : Bool → ℕ → Pending
linked_now true unlinked = record { behind = Some unlinked }
linked_now false unlinked = record { behind = None }

-- the key of a server job that is released at t
abbrev pub new_key : ℕ → ℕ → ℕ
new_key t lead = min (t * places + lead) last_key

-- the window with p in slot n; an empty one is filled, and what stands behind the last pending one is never looked at
abbrev pub pushed : Server → ℕ → Pending → Server
pushed s n p = record { jobs = cond (eqb n 0) (replicate window p) (set s.jobs n p) }

abbrev pub one_more : ℕ → ℕ
one_more x = min (x + 1) (2 ^ 8 - 1)

-- the numbers at place i, with one server job more: of n pending ones before
abbrev pub entered_left : List ℕ → (i n budget : ℕ) → List ℕ
entered_left left i n budget = set left (i * window + n) budget

abbrev pub entered_first : List ℕ → (i n key : ℕ) → List ℕ
entered_first first i n key = cond (eqb n 0) (set first i key) first

abbrev pub counted_unlinked : List ℕ → ℕ → Bool → List ℕ
counted_unlinked unlinked i due = cond due unlinked (set unlinked i (one_more (get_or unlinked i 0)))

-- the next job at place i is due; `before` are the unfinished jobs before the releases of t
abbrev pub due_at : Plan → List ℕ → State → ℕ → Bool
due_at plan before st i = all_fewer before (after_at plan i) (unlinked_at st i)

-- the key of the server job that place i releases at t, and the instant of its next one
abbrev pub key_at : Plan → (t i : ℕ) → ℕ
key_at plan t i = new_key t (lead_at plan i)

abbrev pub later_at : Plan → State → ℕ → ℕ
later_at plan st i = further (next_at st i) (period_at plan i)

abbrev pub released_with : Plan → ℕ → List ℕ → State → ℕ → State
released_with plan t before st i =
    let n : ℕ = count_at st i in
    let due : Bool = due_at plan before st i in
    record {
      servers = set st.servers i (pushed (server_at st i) n (linked_now due (unlinked_at st i)));
      left = entered_left st.left i n (budget_at plan i);
      first = entered_first st.first i n (key_at plan t i);
      count = set st.count i (n + 1);
      unfinished = set st.unfinished i (one_more (unfinished_at st i));
      unlinked = counted_unlinked st.unlinked i due;
      worst = st.worst;
      next = set st.next i (later_at plan st i);
    }

abbrev pub release_one : Plan → ℕ → List ℕ → State → ℕ → State
release_one plan t before st i = cond (releases_at st.next st.count i t) (released_with plan t before st i) st

unfoldable pub released : Plan → ℕ → State → State
released plan t st = in_turn (release_one plan t st.unfinished) st (nodes_of plan)

-- the releases of t, if it has any
abbrev pub released_at : Plan → ℕ → State → State
released_at plan t st = cond (eqb t (earliest st.next (nodes_of plan))) (released plan t st) st
