-- The engine's test for a backlog, after the releases of an instant, is the rules'.
use mathlib.Core.Path.{◌≡◌, ap, subst, ◌∙◌}
use mathlib.Core.Bool.{Bool, false, ◌&&◌, ◌||◌}
use mathlib.Core.List.{List}
use Prim.Native.Nat.{ℕ, ◌+◌, ◌-◌, ◌≤◌, ◌<◌}
use native.Mathlib.Omega.{arith}
use lib.Dec.{T, leb, ltb, eqb, ltb→lt, le→leb, lt→ltb}
use lib.ListN.{length}
use Rattle.schedule.specs.Limits as Limits
use Rattle.schedule.specs.Lists.{count, any?, numbers, up_to}
use Rattle.schedule.specs.Servers.{Server, srv, Box, whole}
use Rattle.schedule.specs.ServerJobs.{released, pending, used}
use Rattle.schedule.specs.Links.{links, finished_by}
use Rattle.schedule.specs.State.{finished_count}
use Rattle.schedule.specs.Walk as Walk
use Rattle.schedule.proofs.Tests.{and_l, and_r, and_i, or_l, or_r, or_e, either_way, by_lt, dec, bool_ext}
use Rattle.theorems.proofs.Counts.{some_in, in_some}
use Rattle.theorems.proofs.InTurn.{completed, pending_are_last, completed_le}
use Rattle.theorems.proofs.Linking.{same_count}
use Rattle.window.specs.declared.Plan.{Plan}
use Rattle.window.specs.Entries.{window, room_at, nodes_of}
use Rattle.window.specs.Loops.{some_below}
use Rattle.window.proofs.Members.{some_member, member_some}
use Rattle.window.proofs.Loops.{some_below_lem, below_some}
use Rattle.window.proofs.Counted.{count_after, finished_count_lem}
use Rattle.window.proofs.Places.{nodes_are, sink_inside}
use Rattle.ledger.specs.declared.Ledger.{Ledger}
use Rattle.ledger.specs.Entries.{released_at, complete_at, finished_at}
use Rattle.ledger.specs.Releasing.{overfull, backlogged}
use Rattle.ledgerlaws.proofs.Relation.{Laid, Released}

module _ (X : Box) (plan : Plan) (offsets : List ℕ) (laid : Laid X plan offsets) (t : ℕ) (l : Ledger) (rel : Released X t l) where
  abbrev S : List Server
  S = X.servers

  abbrev σ : List (List ℕ)
  σ = used S X.cap t

  abbrev ls : List (List ℕ)
  ls = links S X.cap (whole S) t

  abbrev N : ℕ → ℕ
  N i = released (srv S i) t

  abbrev c : ℕ → ℕ
  c i = completed S X.cap t i

  abbrev full : ℕ → Bool
  full i = ltb Limits.pending (released_at l i - complete_at l i)

  abbrev late : ℕ → Bool
  late i = ltb Limits.unfinished (released_at l i - finished_at l i)

  abbrev sink : ℕ → Bool
  sink i = eqb (room_at plan i) Limits.unfinished

  crowded_is : (i : ℕ) → i < length S → Walk.crowded S (whole S) σ ls t i ≡ full i
  unfolding Walk.crowded
  crowded_is i h =
      let p = pending S σ t i in
      let r = rel.row i h in
      let is : (k : ℕ) → p k ≡ (ltb (c i) k && leb k (N i)) = λ k. pending_are_last S X.cap t i k (laid.fits.at i h).budget_some in
      let e : count p (up_to (N i)) ≡ released_at l i - complete_at l i =
      omega (
        arith,
        r.released,
        r.complete,
        count_after p (c i) (N i) r.order
            (λ k a b w. let z : c i < k = ltb→lt (c i) k (and_l (ltb (c i) k) (leb k (N i)) (rw (is k) at w)) in omega arith)
            (λ k a b. rw (is k) (and_i (ltb (c i) k) (leb k (N i)) (lt→ltb (c i) k a) (le→leb k (N i) b))),
      ) in
      ap (ltb Limits.pending) e

  overdue_is : (i : ℕ) → i < length S → Walk.overdue S (whole S) σ ls t i ≡ late i
  unfolding Walk.overdue finished_count finished_by
  overdue_is i h =
      let r = rel.row i h in
      let e : N i - finished_count S (whole S) σ ls t i ≡ released_at l i - finished_at l i =
      omega (arith, r.released, r.finished, finished_count_lem S X.cap t i, same_count S X.cap (whole S) t i (c i) (completed_le S X.cap t i)) in
      ap (ltb Limits.unfinished) e

  -- the plan's room says which places are sinks
  sink_is : (i : ℕ) → i < length S → sink i ≡ any? (eqb i) X.sinks
  sink_is i h =
      either_way (dec (any? (eqb i) X.sinks)) (λ e. rw ((laid.fits.at i h).room, e)) (λ e. rw ((laid.fits.at i h).room, e))

  abbrev over : ℕ → Bool
  over i = overfull (released_at l i) (complete_at l i) (finished_at l i) (room_at plan i)

  abbrev crowded : ℕ → Bool
  crowded = Walk.crowded S (whole S) σ ls t

  abbrev overdue : ℕ → Bool
  overdue = Walk.overdue S (whole S) σ ls t

  to_rules : T (some_below over (length S)) → T (any? crowded (numbers 0 (length S)) || any? overdue X.sinks)
  to_rules b =
      let (i, h, f) = some_below_lem over (length S) b in
      let A = any? crowded (numbers 0 (length S)) in
      let B = any? overdue X.sinks in
      either_way (or_e (full i) (sink i && late i) (λ x. x) (λ x. x) f)
      (λ x. or_l A B (in_some crowded 0 (length S) i (omega arith) (omega arith) (rw (crowded_is i h) x)))
      (λ x.
      let m : T (any? (eqb i) X.sinks) = rw (sink_is i h) at (and_l (sink i) (late i) x) in
      or_r A B (member_some overdue X.sinks i m (rw (overdue_is i h) (and_r (sink i) (late i) x))))

  from_rules : T (any? crowded (numbers 0 (length S)) || any? overdue X.sinks) → T (some_below over (length S))
  from_rules b =
      either_way
      (or_e (any? crowded (numbers 0 (length S))) (any? overdue X.sinks) (some_in crowded 0 (length S)) (some_member overdue X.sinks) b)
      (λ x.
      let (i, a, g, w) = x in
      let h : i < length S = omega arith in
      below_some over (length S) i h (or_l (full i) (sink i && late i) (rw (crowded_is i h) at w)))
      (λ x.
      let (i, m, w) = x in
      let h = sink_inside X plan laid.fits i m in
      below_some over (length S) i h
      (or_r (full i) (sink i && late i) (and_i (sink i) (late i) (rw (sink_is i h) m) (rw (overdue_is i h) at w))))

  pub backlog_is : backlogged l.released l.complete l.finished plan.room (nodes_of plan) ≡ Walk.backlogged S (whole S) σ ls t X.sinks
  unfolding Walk.backlogged
  backlog_is =
      ap (some_below over) (nodes_are X plan laid.fits)
      ∙ bool_ext (some_below over (length S)) (any? crowded (numbers 0 (length S)) || any? overdue X.sinks) to_rules from_rules

  -- where there is no backlog, no more are pending than are allowed
  pub few_pending : backlogged l.released l.complete l.finished plan.room (nodes_of plan) ≡ false → (i : ℕ) → i < length S → N i ≤ c i + window
  few_pending e i h =
      let r = rel.row i h in
      by_lt (c i + window) (N i)
      (λ g.
      let yes = below_some over (nodes_of plan) i (omega (arith, nodes_are X plan laid.fits)) (or_l (full i) (sink i && late i) (lt→ltb Limits.pending (released_at l i - complete_at l i) (omega (arith, r.released, r.complete)))) in
      let z : T false = subst (λ (b : Bool). T b) e yes in
      absurd z)
      (λ g. g)
