-- The oldest server job of one server dropped: its row has one complete server job more, the other servers' rows are as they were, and the
-- lists keep their lengths.
use mathlib.Core.Path.{◌≡◌, refl, ap, ◌∙◌}
use mathlib.Core.Bool.{Bool, true, false, cond}
use Prim.Native.Nat.{ℕ, suc, ◌+◌, ◌*◌, ◌-◌, ◌≤◌, ◌<◌, max}
use native.Mathlib.Omega.{arith}
use lib.Dec.{ltb}
use lib.ListN.{length, length-set}
use lib.Seq.{get_or-set_same, get_or-set_other}
use borrow.Author.Tests.{lt-ltb, le-ltb}
use Rattle.table.specs.declared.Pending.{Pending}
use Rattle.schedule.specs.Lists.{one?}
use Rattle.schedule.specs.Servers.{Server}
use Rattle.schedule.specs.ServerJobs.{priority_of}
use Rattle.schedule.proofs.Tests.{one_le_one}
use Rattle.theorems.proofs.LinkRows.{linked_up_to, linked_last, linked_le}
use Rattle.std.specs.Prelude.{is_some, unwrap_or}
use Rattle.table.specs.declared.State.{State}
use Rattle.window.specs.declared.Plan.{Plan}
use Rattle.window.specs.Entries.{places, window, further, no_job, no_server, slot_of, server_at, count_at, first_at, unfinished_at, worst_at, next_at, left_at, period_at, step_at}
use Rattle.window.specs.Finishing.{response_of, shifted, later_key, finished_with}
use Rattle.window.proofs.Relation.{Slot, Row, Sized}
use Rattle.window.proofs.Loops.{replaced_length, replaced_in, SameAt}
use Rattle.window.proofs.Moving.{if_length, if_other, if_own, moved_down_length, moved_down_in, moved_down_other}
use Rattle.window.proofs.Picking.{by_same}

module _ (plan : Plan) (now : ℕ) (st : State) (i : ℕ) (sized : Sized st) (inside : i < places) where
  abbrev next : State
  next = finished_with plan now st i

  abbrev n : ℕ
  n = count_at st i

  abbrev oldest : Pending
  oldest = slot_of (server_at st i) 0

  abbrev response : ℕ → ℕ
  response behind = response_of now (next_at st i) n behind (period_at plan i)

  abbrev more_worst : ℕ
  more_worst = max (worst_at st i) (response (unwrap_or oldest.behind 0))

  drop_count : count_at next i ≡ n - 1
  drop_count = get_or-set_same st.count i (n - 1) 0 (omega (arith, sized.count))

  drop_first : first_at next i ≡ later_key n (first_at st i) (step_at plan i)
  drop_first = get_or-set_same st.first i (later_key n (first_at st i) (step_at plan i)) 0 (omega (arith, sized.first))

  drop_server : server_at next i ≡ cond (ltb 1 n) (shifted (server_at st i)) (server_at st i)
  drop_server = if_own st.servers i (shifted (server_at st i)) no_server (ltb 1 n) (omega (arith, sized.servers))

  drop_unfinished : unfinished_at next i ≡ unfinished_at st i - one? (is_some oldest.behind)
  drop_unfinished =
      if_own st.unfinished i (unfinished_at st i - 1) 0 (is_some oldest.behind) (omega (arith, sized.unfinished)) ∙ either (is_some oldest.behind)
    where
      either : (b : Bool) → cond b (unfinished_at st i - 1) (unfinished_at st i) ≡ unfinished_at st i - one? b
      either true = refl
      either false = omega arith

  drop_worst : worst_at next i ≡ cond (is_some oldest.behind) more_worst (worst_at st i)
  drop_worst = if_own st.worst i more_worst 0 (is_some oldest.behind) (omega (arith, sized.worst))

  pub drop_elsewhere : (j : ℕ) → n ≤ window → (j ≡ i → ⊥) → SameAt j st next
  drop_elsewhere j small h =
      record {
        server = if_other st.servers i (shifted (server_at st i)) no_server (ltb 1 n) j h;
        count = get_or-set_other st.count i j (n - 1) 0 h;
        first = get_or-set_other st.first i j (later_key n (first_at st i) (step_at plan i)) 0 h;
        unfinished = if_other st.unfinished i (unfinished_at st i - 1) 0 (is_some oldest.behind) j h;
        unlinked = refl;
        worst = if_other st.worst i more_worst 0 (is_some oldest.behind) j h;
        next = refl;
        left = λ d l. moved_down_other st.left (i * window) n (j * window + d) (λ e k q. h (omega arith));
      }

  pub drop_sized : Sized next
  drop_sized =
      record {
        servers = if_length st.servers i (shifted (server_at st i)) no_server (ltb 1 n) ∙ sized.servers;
        jobs = λ j h.
            by_same j i (λ e. rw (e, drop_server) (own (ltb 1 n)))
            (λ z. rw (if_other st.servers i (shifted (server_at st i)) no_server (ltb 1 n) j z) (sized.jobs j h));
        left = moved_down_length st.left (i * window) n ∙ sized.left;
        first = length-set st.first i (later_key n (first_at st i) (step_at plan i)) ∙ sized.first;
        count = length-set st.count i (n - 1) ∙ sized.count;
        unfinished = if_length st.unfinished i (unfinished_at st i - 1) 0 (is_some oldest.behind) ∙ sized.unfinished;
        unlinked = sized.unlinked;
        worst = if_length st.worst i more_worst 0 (is_some oldest.behind) ∙ sized.worst;
        next = sized.next;
      }
    where
      own : (b : Bool) → length (cond b (shifted (server_at st i)) (server_at st i)).jobs ≡ window
      own true =
          replaced_length (λ (d : ℕ). slot_of (server_at st i) (suc d)) (server_at st i).jobs (window - 1) ∙ sized.jobs i inside
      own false = sized.jobs i inside

  -- the row with one complete server job more; its largest response by what the dropped one was linked to
  module _ (s : Server) (U L : ℕ → ℕ) (N c W : ℕ) (r : Row s i U L N c W st) (some : 0 < n) where
    abbrev is_linked : Bool
    is_linked = ltb 0 (L (c + 1))

    stands : Slot L (c + 1) oldest
    stands = let e : c + 1 + 0 ≡ c + 1 = omega arith in rw e at (r.slots 0 some)

    worst_is : worst_at next i ≡ cond is_linked (max W (response (c + 1 - L (c + 1)))) W
    worst_is = drop_worst ∙ rw (stands.linked, stands.behind, r.worst) (same is_linked)
      where
        same : (b : Bool) → cond b (max W (response (cond b (c + 1 - L (c + 1)) 0))) W ≡ cond b (max W (response (c + 1 - L (c + 1)))) W
        same true = refl
        same false = refl

    drop_slot : (d : ℕ) → d < n - 1 → slot_of (server_at next i) d ≡ slot_of (server_at st i) (suc d)
    drop_slot d h =
        let more : 1 < n = omega arith in
        rw (drop_server, lt-ltb 1 n more)
        (replaced_in (λ (d : ℕ). slot_of (server_at st i) (suc d)) (server_at st i).jobs (window - 1) d no_job (omega (arith, r.room))
        (omega (arith, sized.jobs i inside)))

    pub drop_row : (W' : ℕ) → cond is_linked (max W (response (c + 1 - L (c + 1)))) W ≡ W'
        → (1 < n → further (first_at st i) (step_at plan i) ≡ priority_of s (c + 2) * places + i) → Row s i U L N (c + 1) W' next
    drop_row W' e key =
        let last : linked_up_to L (c + 1) ≡ linked_up_to L c + one? is_linked = let z : suc c ≡ c + 1 = omega arith in rw z at (linked_last L c) in
        let fewer : unfinished_at next i ≡ unfinished_at st i - one? is_linked = drop_unfinished ∙ ap (λ b. unfinished_at st i - one? b) stands.linked in
        record {
          count = omega (arith, drop_count, r.count);
          room = omega (arith, drop_count, r.room);
          left = λ d h.
              let l : d < n - 1 = rw drop_count at h in
              let z : c + 1 + suc d ≡ c + 1 + 1 + d = omega arith in
              let moved : left_at next i d ≡ left_at st i (suc d) = moved_down_in st.left (i * window) n d (omega (arith, sized.left, r.room)) l in
              let old : left_at st i (suc d) + U (c + 1 + 1 + d) ≡ s.budget = rw z at (r.left (suc d) (omega arith)) in
              omega arith;
          slots = λ d h.
              let l : d < n - 1 = rw drop_count at h in
              let z : c + 1 + suc d ≡ c + 1 + 1 + d = omega arith in
              let old : Slot L (c + 1 + 1 + d) (slot_of (server_at st i) (suc d)) = rw z at (r.slots (suc d) (omega arith)) in
              rw (drop_slot d l) old;
          first = λ h.
              let more : 1 < n = omega (arith, drop_count) in
              let z : c + 1 + 1 ≡ c + 2 = omega arith in
              rw (z, drop_first, lt-ltb 1 n more) (key more);
          idle = λ h.
              let alone : n ≤ 1 = omega (arith, drop_count) in
              rw (drop_first, le-ltb 1 n alone);
          unfinished = omega (arith, fewer, last, r.unfinished, r.count, linked_le L c, one_le_one is_linked);
          unlinked = r.unlinked;
          worst = worst_is ∙ e;
          next = r.next;
        }
