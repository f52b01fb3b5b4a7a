-- What keeps a row: a state that has the same at its place; links that are the same up to the last server job; and one server job more.
use mathlib.Core.Path.{◌≡◌, sym, ap, ◌∙◌}
use mathlib.Core.Bool.{Bool, true, false, cond}
use Prim.Native.Nat.{ℕ, suc, ◌+◌, ◌*◌, ◌-◌, ◌≤◌, ◌<◌}
use native.Mathlib.Omega.{arith}
use lib.Dec.{ltb, eqb}
use lib.ListN.{length, length-set, length-replicate, get_or-replicate}
use lib.Seq.{get_or-set_same, get_or-set_other}
use borrow.Author.Tests.{lt-ltb, le-ltb, eq-eqb, ne_eqb}
use Rattle.table.specs.declared.Pending.{Pending}
use Rattle.schedule.specs.Lists.{one?}
use Rattle.schedule.specs.Servers.{Server}
use Rattle.schedule.specs.ServerJobs.{release_of, priority_of}
use Rattle.schedule.proofs.Tests.{by_lt, either_way, dec}
use Rattle.theorems.proofs.LinkRows.{linked_up_to, linked_last, linked_cong}
use Rattle.table.specs.declared.Server.{Server as Window}
use Rattle.table.specs.declared.State.{State}
use Rattle.window.specs.Entries.{places, window, no_job, slot_of, server_at, count_at, first_at, unfinished_at, unlinked_at, worst_at, next_at, left_at}
use Rattle.window.specs.Releasing.{linked_now, pushed}
use Rattle.window.proofs.Relation.{Slot, Row}
use Rattle.window.proofs.Loops.{SameAt}

-- a window with one more in slot n: those before it stay
module _ (s : Window) (n : ℕ) (p : Pending) (long : length s.jobs ≡ window) where
  pub pushed_length : length (pushed s n p).jobs ≡ window
  pushed_length =
      either_way (dec (eqb n 0)) (λ e. rw e (length-replicate window p)) (λ e. rw e (length-set s.jobs n p ∙ long))

  pushed_before : (d : ℕ) → d < n → slot_of (pushed s n p) d ≡ slot_of s d
  pushed_before d h = rw (ne_eqb n 0 (λ e. omega arith)) (get_or-set_other s.jobs n d p no_job (λ e. omega arith))

  pushed_own : n < window → slot_of (pushed s n p) n ≡ p
  pushed_own h =
      either_way (dec (eqb n 0)) (λ e. rw e (get_or-replicate window n p no_job h))
      (λ e. rw e (get_or-set_same s.jobs n p no_job (omega arith)))

module _ (s : Server) (i : ℕ) (U L : ℕ → ℕ) (N c W : ℕ) where
  pub row_carried : (a b : State) → SameAt i a b → Row s i U L N c W a → Row s i U L N c W b
  row_carried a b e r =
      record {
        count = rw e.count r.count;
        room = rw e.count r.room;
        left = λ d h. rw (e.left d (omega (arith, e.count, r.room))) (r.left d (omega (arith, e.count)));
        slots = λ d h. rw e.server (r.slots d (omega (arith, e.count)));
        first = λ h. rw e.first (r.first (omega (arith, e.count)));
        idle = λ h. rw e.first (r.idle (omega (arith, e.count)));
        unfinished = rw e.unfinished r.unfinished;
        unlinked = rw e.unlinked r.unlinked;
        worst = rw e.worst r.worst;
        next = rw e.next r.next;
      }

same_slot : (L L' : ℕ → ℕ) (k : ℕ) (p : Pending) → L' k ≡ L k → Slot L k p → Slot L' k p
same_slot L L' k p e q = record { linked = rw e q.linked; behind = rw e q.behind }

-- what `after` has at place i, where a server job was put behind those of `st`, and is due or not
pub record PushedAt (i : ℕ) (due : Bool) (budget key next : ℕ) (st after : State) : Type 0 where
  pub server : server_at after i ≡ pushed (server_at st i) (count_at st i) (linked_now due (unlinked_at st i))
  pub count : count_at after i ≡ count_at st i + 1
  pub first : first_at after i ≡ cond (eqb (count_at st i) 0) key (first_at st i)
  pub left : (d : ℕ) → d < count_at st i → left_at after i d ≡ left_at st i d
  pub left_new : left_at after i (count_at st i) ≡ budget
  pub unfinished : unfinished_at after i ≡ unfinished_at st i + 1
  pub unlinked : unlinked_at after i ≡ unlinked_at st i + cond due 0 1
  pub worst : worst_at after i ≡ worst_at st i
  pub next_is : next_at after i ≡ next

-- L' has the links of L up to N
module _ (s : Server) (i : ℕ) (U L L' : ℕ → ℕ) (N c W : ℕ) (old : (k : ℕ) → 1 ≤ k → k ≤ N → L' k ≡ L k) where
  pub row_relinked : (st : State) → Row s i U L N c W st → Row s i U L' N c W st
  row_relinked st r =
      record {
        count = r.count;
        room = r.room;
        left = r.left;
        slots = λ d h. same_slot L L' (c + 1 + d) (slot_of (server_at st i) d) (old (c + 1 + d) (omega arith) (omega (arith, r.count))) (r.slots d h);
        first = r.first;
        idle = r.idle;
        unfinished = omega (arith, r.unfinished, linked_cong L' L c (λ k a b. old k a (omega (arith, r.count))));
        unlinked = omega (arith, r.unlinked, linked_cong L' L N old);
        worst = r.worst;
        next = r.next;
      }

  -- u jobs are unlinked, so the next one's number is N - u + 1
  new_slot_lem : (u : ℕ) (due : Bool) → u ≤ N → L' (suc N) ≡ cond due (N - u + 1) 0 → Slot L' (suc N) (linked_now due u)
  new_slot_lem u true h e =
      let p : ltb 0 (L' (suc N)) ≡ true = lt-ltb 0 (L' (suc N)) (omega arith) in
      record { linked = sym p; behind = rw p (omega arith) }
  new_slot_lem u false h e =
      let p : ltb 0 (L' (suc N)) ≡ false = le-ltb 0 (L' (suc N)) (omega arith) in
      record { linked = sym p; behind = rw p }

  new_count : (m : ℕ) (due : Bool) → L' (suc N) ≡ cond due (m + 1) 0 → one? (ltb 0 (L' (suc N))) + cond due 0 1 ≡ 1
  new_count m true e = let p : ltb 0 (L' (suc N)) ≡ true = lt-ltb 0 (L' (suc N)) (omega arith) in rw p
  new_count m false e = let p : ltb 0 (L' (suc N)) ≡ false = le-ltb 0 (L' (suc N)) (omega arith) in rw p

  -- server job N + 1, of which nothing is used, put into a window that has room
  module _ (due : Bool) (key next : ℕ) (st after : State) (r : Row s i U L N c W st) (push : PushedAt i due s.budget key next st after)
      (long : length (server_at st i).jobs ≡ window) (room : count_at st i < window) (unused : U (suc N) ≡ 0)
      (new : L' (suc N) ≡ cond due (linked_up_to L N + 1) 0) (here : c ≡ N → key ≡ priority_of s (suc N) * places + i)
      (then : next ≡ release_of s (suc (suc N))) where
    abbrev n : ℕ
    n = count_at st i

    last : c + 1 + n ≡ suc N
    last = omega (arith, r.count)

    new_left : (d : ℕ) → d < count_at after i → left_at after i d + U (c + 1 + d) ≡ s.budget
    new_left d h =
        by_lt d n (λ l. rw (push.left d l) (r.left d l))
        (λ l. let e : d ≡ n = omega (arith, push.count) in rw (e, last, push.left_new, unused) (omega arith))

    new_slots : (d : ℕ) → d < count_at after i → Slot L' (c + 1 + d) (slot_of (server_at after i) d)
    new_slots d h =
        let u = unlinked_at st i in
        let p = linked_now due u in
        let e : N - u ≡ linked_up_to L N = omega (arith, r.unlinked) in
        rw push.server
        (by_lt d n
        (λ l. rw (pushed_before (server_at st i) n p long d l)
        (same_slot L L' (c + 1 + d) (slot_of (server_at st i) d) (old (c + 1 + d) (omega arith) (omega (arith, r.count))) (r.slots d l)))
        (λ l.
        let q : d ≡ n = omega (arith, push.count) in
        rw (q, last, pushed_own (server_at st i) n p long room) (new_slot_lem u due (omega (arith, r.unlinked)) (rw e new))))

    new_first : 0 < count_at after i → first_at after i ≡ priority_of s (c + 1) * places + i
    new_first h =
        push.first
        ∙ by_lt 0 n (λ l. rw (ne_eqb n 0 (λ e. omega arith)) (r.first l))
        (λ l. let e : c + 1 ≡ suc N = omega (arith, r.count) in rw (eq-eqb n 0 (omega arith), e) (here (omega (arith, r.count))))

    pub row_pushed : Row s i U L' (suc N) c W after
    row_pushed =
        let o : linked_up_to L' (suc N) ≡ linked_up_to L N + one? (ltb 0 (L' (suc N))) =
        linked_last L' N ∙ ap (λ (x : ℕ). x + one? (ltb 0 (L' (suc N)))) (linked_cong L' L N old) in
        record {
          count = omega (arith, push.count, r.count);
          room = omega (arith, push.count);
          left = new_left;
          slots = new_slots;
          first = new_first;
          idle = λ e. absurd (let x : ⊥ = omega (arith, push.count) in x);
          unfinished = omega (arith, push.unfinished, r.unfinished, linked_cong L' L c (λ k a b. old k a (omega (arith, r.count))));
          unlinked = omega (arith, push.unlinked, r.unlinked, o, new_count (linked_up_to L N) due new);
          worst = push.worst ∙ r.worst;
          next = push.next_is ∙ then;
        }
