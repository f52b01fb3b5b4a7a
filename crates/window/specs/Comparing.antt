-- The states of two boundaries, `hyper` ticks apart, compared number by number and window by window; and what is kept of one.
use Rattle.std.specs.Prelude.{is_some, unwrap_or, Bool, true, false, ◌&&◌, not, List, ℕ, ◌+◌, ◌*◌, min, eqb, get_or}
use Rattle.table.specs.declared.Pending.{Pending}
use Rattle.table.specs.declared.Server.{Server}
use Rattle.table.specs.declared.State.{State}
use Rattle.table.specs.declared.Kept.{Kept}
use Rattle.window.specs.Entries.{window, no_server, further, slot_of, server_at}
use Rattle.window.specs.Loops.{all_below, replaced}

abbrev pub same_bool : Bool → Bool → Bool
same_bool true b = b
same_bool false b = not b

abbrev pub same_pending : Pending → Pending → Bool
same_pending x y = same_bool (is_some x.behind) (is_some y.behind) && eqb (unwrap_or x.behind 0) (unwrap_or y.behind 0)

abbrev pub same_window : Server → Server → ℕ → Bool
same_window s r n = all_below (λ (d : ℕ). same_pending (slot_of s d) (slot_of r d)) (min n window)

abbrev pub same_windows : List Server → List Server → List ℕ → ℕ → Bool
same_windows a b count n = all_below (λ (i : ℕ). same_window (get_or a i no_server) (get_or b i no_server) (get_or count i 0)) n

abbrev pub same_counts : List ℕ → List ℕ → ℕ → Bool
same_counts x y n = all_below (λ (i : ℕ). eqb (get_or x i 0) (get_or y i 0)) n

abbrev pub same_phases : List ℕ → List ℕ → ℕ → ℕ → Bool
same_phases next kept hyper n = all_below (λ (i : ℕ). eqb (get_or next i 0) (further (get_or kept i 0) hyper)) n

-- n budgets left, from `base` on
abbrev pub same_slots : List ℕ → List ℕ → ℕ → ℕ → Bool
same_slots left kept base n = all_below (λ (d : ℕ). eqb (get_or left (base + d) 0) (get_or kept (base + d) 0)) (min n window)

abbrev pub same_left : List ℕ → List ℕ → List ℕ → ℕ → Bool
same_left left kept count n = all_below (λ (i : ℕ). same_slots left kept (i * window) (get_or count i 0)) n

-- all but the windows
abbrev pub same_numbers : (count count' unfinished unfinished' unlinked unlinked' next next' left left' : List ℕ) → (hyper n : ℕ) → Bool
same_numbers count count' unfinished unfinished' unlinked unlinked' next next' left left' hyper n =
    same_counts count count' n
    && (same_counts unfinished unfinished' n
    && (same_counts unlinked unlinked' n && (same_phases next next' hyper n && same_left left left' count n)))

abbrev pub same_states : State → Kept → ℕ → ℕ → Bool
same_states st kept hyper n =
    same_counts st.count kept.count n
    && (same_counts st.unfinished kept.unfinished n
    && (same_counts st.unlinked kept.unlinked n
    && (same_phases st.next kept.next hyper n
    && (same_left st.left kept.left st.count n && same_windows st.servers kept.servers st.count n))))

-- the budgets left of n servers, kept
abbrev pub kept_left : List ℕ → List ℕ → ℕ → List ℕ
kept_left kept left n = replaced (λ (k : ℕ). get_or left k 0) kept (n * window)

-- what is kept of the first n servers, over what was kept before
abbrev pub keep : State → Kept → ℕ → Kept
keep st kept n =
    record {
      servers = replaced (server_at st) kept.servers n;
      left = kept_left kept.left st.left n;
      count = st.count;
      unfinished = st.unfinished;
      unlinked = st.unlinked;
      next = st.next;
    }
