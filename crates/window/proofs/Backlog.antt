-- The engine's test for a backlog, one release ahead of its counts, is the rules': a server that releases into a full window, or a sink that
-- has the most unfinished invocations already.
use mathlib.Core.Path.{◌≡◌, refl, sym, ap, ◌∙◌}
use mathlib.Core.Bool.{Bool, true, false, ◌&&◌, ◌||◌}
use mathlib.Core.List.{List}
use Prim.Native.Nat.{ℕ, ◌+◌, ◌-◌, ◌^◌, ◌≤◌, ◌<◌}
use native.Mathlib.Omega.{arith}
use lib.Dec.{T, leb, ltb, eqb, leb→le, ltb→lt, le→leb, lt→ltb, eqb→eq}
use lib.ListN.{length}
use borrow.Author.Tests.{lt-ltb, le-ltb, le-leb, lt-leb, eq-eqb}
use Rattle.schedule.specs.Limits as Limits
use Rattle.schedule.specs.Lists.{one?, count, any?, numbers, up_to}
use Rattle.schedule.specs.Servers.{Server, srv, Box, whole}
use Rattle.schedule.specs.ServerJobs.{released, pending, used}
use Rattle.schedule.specs.Links.{links, finished_by}
use Rattle.schedule.specs.State.{finished_count}
use Rattle.schedule.specs.Walk as Walk
use Rattle.schedule.proofs.Tests.{and_l, and_r, and_i, or_l, or_r, or_e, either_way, by_lt, dec, T_true, true_T, bool_ext}
use Rattle.theorems.proofs.Counts.{some_in, in_some}
use Rattle.theorems.proofs.Releases.{released_before_le}
use Rattle.theorems.proofs.InTurn.{completed, completed_le, pending_are_last}
use Rattle.table.specs.declared.State.{State}
use Rattle.window.specs.declared.Plan.{Plan}
use Rattle.window.specs.Entries.{window, count_at, unfinished_at, next_at, room_at, nodes_of}
use Rattle.window.specs.Loops.{some_below}
use Rattle.window.specs.Releasing.{earliest, full_at, any_full}
use Rattle.window.proofs.Relation.{last_instant, Fits, InStep}
use Rattle.window.proofs.Members.{some_member, member_some}
use Rattle.window.proofs.Loops.{some_below_lem, below_some}
use Rattle.window.proofs.Counted.{count_after, finished_count_lem}
use Rattle.window.proofs.Ancestors.{few_in_step}
use Rattle.window.proofs.Places.{nodes_are, sink_inside, releases_are}
use Rattle.window.proofs.Earliest.{earliest_now}

-- k is at most m, and one more would pass it
past_with_one : (m k : ℕ) (b : Bool) → k ≤ m → ltb m (k + one? b) ≡ (b && leb m k)
past_with_one m k true h =
    by_lt k m (λ l. le-ltb m (k + 1) (omega arith) ∙ sym (lt-leb m k l)) (λ l. lt-ltb m (k + 1) (omega arith) ∙ sym (le-leb m k l))
past_with_one m k false h = le-ltb m (k + 0) (omega arith)

module _ (X : Box) (plan : Plan) (fits : Fits X plan) (t : ℕ) (st : State) (now : InStep X t st) where
  abbrev S : List Server
  S = X.servers

  abbrev σ : List (List ℕ)
  σ = used S X.cap t

  abbrev ls : List (List ℕ)
  ls = links S X.cap (whole S) t

  -- the parts of the engine's test: the server at i releases; its window is full; it has as many unfinished jobs as there is room for
  abbrev releasing : ℕ → Bool
  releasing i = eqb (next_at st i) t

  abbrev filled : ℕ → Bool
  filled i = leb window (count_at st i)

  abbrev most : ℕ → Bool
  most i = leb (room_at plan i) (unfinished_at st i)

  -- the server jobs pending after the releases of t
  pending_count : (i : ℕ) → i < length S → count (pending S σ t i) (up_to (released (srv S i) t)) ≡ count_at st i + one? (releasing i)
  pending_count i h =
      let p = pending S σ t i in
      let c = completed S X.cap t i in
      let n = released (srv S i) t in
      let is : (k : ℕ) → p k ≡ (ltb c k && leb k n) = λ k. pending_are_last S X.cap t i k (fits.at i h).budget_some in
      omega (
        arith,
        (now.row i h).count,
        releases_are X plan fits t st now i h,
        count_after p c n (omega (arith, completed_le S X.cap t i, released_before_le (srv S i) t))
            (λ k a b w. let l : c < k = ltb→lt c k (and_l (ltb c k) (leb k n) (rw (is k) at w)) in omega arith)
            (λ k a b. rw (is k) (and_i (ltb c k) (leb k n) (lt→ltb c k a) (le→leb k n b))),
      )

  crowded_is : (i : ℕ) → i < length S → Walk.crowded S (whole S) σ ls t i ≡ (releasing i && filled i)
  unfolding Walk.crowded
  crowded_is i h = ap (ltb window) (pending_count i h) ∙ past_with_one window (count_at st i) (releasing i) (now.row i h).room

  -- at a sink there is room for the most unfinished jobs that are no backlog
  sink_room : (i : ℕ) → T (any? (eqb i) X.sinks) → room_at plan i ≡ Limits.unfinished
  sink_room i m = (fits.at i (sink_inside X plan fits i m)).room ∙ rw (T_true {b = any? (eqb i) X.sinks} m)

  overdue_is : (i : ℕ) → T (any? (eqb i) X.sinks) → Walk.overdue S (whole S) σ ls t i ≡ (releasing i && most i)
  unfolding Walk.overdue finished_count finished_by
  overdue_is i m =
      let h = sink_inside X plan fits i m in
      let e : released (srv S i) t - finished_count S (whole S) σ ls t i ≡ unfinished_at st i + one? (releasing i) =
      omega (arith, (now.row i h).unfinished, releases_are X plan fits t st now i h, finished_count_lem S X.cap t i) in
      rw (sink_room i m)
      (ap (ltb Limits.unfinished) e ∙ past_with_one Limits.unfinished (unfinished_at st i) (releasing i) (now.sinks i m))

  -- elsewhere there is room for more than a node can have
  full_sink : (i : ℕ) → i < length S → T (most i) → T (any? (eqb i) X.sinks)
  full_sink i h f =
      either_way (dec (any? (eqb i) X.sinks)) (λ yes. true_T (any? (eqb i) X.sinks) yes)
      (λ not.
      let r : room_at plan i ≡ 2 ^ 8 - 1 = (fits.at i h).room ∙ rw not in
      absurd (let x : ⊥ = omega (arith, r, leb→le (room_at plan i) (unfinished_at st i) f, few_in_step X plan fits t st now i h) in x))

  abbrev full : ℕ → Bool
  full i = full_at st.next st.count st.unfinished plan.room t i

  full_backlogged : T (some_below full (length S)) → T (Walk.backlogged S (whole S) σ ls t X.sinks)
  unfolding Walk.backlogged
  full_backlogged b =
      let (i, h, f) = some_below_lem full (length S) b in
      let r : T (releasing i) = and_l (releasing i) (filled i || most i) f in
      let crowded = Walk.crowded S (whole S) σ ls t in
      let overdue = Walk.overdue S (whole S) σ ls t in
      let A = any? crowded (numbers 0 (length S)) in
      let B = any? overdue X.sinks in
      either_way (or_e (filled i) (most i) (λ x. x) (λ x. x) (and_r (releasing i) (filled i || most i) f))
      (λ x. or_l A B (in_some crowded 0 (length S) i (omega arith) (omega arith) (rw (crowded_is i h) (and_i (releasing i) (filled i) r x))))
      (λ x.
      let m = full_sink i h x in
      or_r A B (member_some overdue X.sinks i m (rw (overdue_is i m) (and_i (releasing i) (most i) r x))))

  backlogged_full : T (Walk.backlogged S (whole S) σ ls t X.sinks) → T (some_below full (length S))
  unfolding Walk.backlogged
  backlogged_full b =
      let crowded = Walk.crowded S (whole S) σ ls t in
      let overdue = Walk.overdue S (whole S) σ ls t in
      either_way
      (or_e (any? crowded (numbers 0 (length S))) (any? overdue X.sinks) (some_in crowded 0 (length S)) (some_member overdue X.sinks) b)
      (λ x.
      let (i, a, l, c) = x in
      let h : i < length S = omega arith in
      let f = rw (crowded_is i h) at c in
      below_some full (length S) i h
      (and_i (releasing i) (filled i || most i) (and_l (releasing i) (filled i) f)
      (or_l (filled i) (most i) (and_r (releasing i) (filled i) f))))
      (λ x.
      let (i, m, o) = x in
      let h = sink_inside X plan fits i m in
      let f = rw (overdue_is i m) at o in
      below_some full (length S) i h
      (and_i (releasing i) (filled i || most i) (and_l (releasing i) (most i) f) (or_r (filled i) (most i) (and_r (releasing i) (most i) f))))

  module _ (early : t ≤ last_instant) where
    abbrev first : ℕ
    first = earliest st.next (nodes_of plan)

    -- who is full releases at t, which is the earliest release then
    gated : (eqb t first && some_below full (length S)) ≡ some_below full (length S)
    gated =
        either_way (dec (some_below full (length S)))
        (λ yes.
        let (i, h, f) = some_below_lem full (length S) (true_T (some_below full (length S)) yes) in
        let e : next_at st i ≡ t = eqb→eq (next_at st i) t (and_l (releasing i) (filled i || most i) f) in
        rw (yes, eq-eqb t first (earliest_now X plan fits t early st now i h e)))
        (λ not. rw not (none (eqb t first)))
      where
        none : (b : Bool) → (b && false) ≡ false
        none true = refl
        none false = refl

    pub backlog_is : (eqb t first && any_full st.next st.count st.unfinished plan.room t (nodes_of plan))
        ≡ Walk.backlogged S (whole S) σ ls t X.sinks
    backlog_is =
        ap (λ (n : ℕ). eqb t first && some_below full n) (nodes_are X plan fits)
        ∙ gated
        ∙ bool_ext (some_below full (length S)) (Walk.backlogged S (whole S) σ ls t X.sinks) full_backlogged backlogged_full
