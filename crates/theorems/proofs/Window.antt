-- What an engine that keeps windows goes by, beside InTurn.antt: the next job of a node is due exactly when each predecessor has fewer
-- unfinished jobs than the node has unlinked ones. For needs that do not fall with the number, as whole budgets do not.
use mathlib.Core.Path.{◌≡◌}
use mathlib.Core.Bool.{Bool}
use mathlib.Core.List.{List, [], ◌∷◌}
use Prim.Native.Nat.{ℕ, ◌+◌, ◌-◌, ◌≤◌, ◌<◌}
use native.Mathlib.Omega.{arith}
use lib.Dec.{T, ltb, eqb, ltb→lt, lt→ltb, eqb→eq}
use borrow.Author.Tests.{le-leb}
use Rattle.schedule.specs.Lists.{all?}
use Rattle.schedule.specs.Servers.{Server, srv}
use Rattle.schedule.specs.ServerJobs.{released, released_before, used}
use Rattle.schedule.specs.Links.{due_after, due, links, due_by, finished_by}
use Rattle.schedule.specs.State.{NodeState, finished_count, node_state}
use Rattle.schedule.proofs.Tests.{bool_ext, all_under}
use Rattle.theorems.proofs.Counts.{first_pass, pass_first}
use Rattle.theorems.proofs.LinkRows.{linked_le}
use Rattle.theorems.proofs.Linking.{link_of, linked_count, linked_count_lem}
use Rattle.theorems.proofs.Finishing.{finished_is, finished_number, finished_in_order}

module _ (S : List Server) (cap : ℕ → ℕ) (need : ℕ → ℕ → ℕ) where
  abbrev pub node_at : ℕ → ℕ → NodeState
  node_at t i = node_state S need (used S cap t) (links S cap need t) t i

  -- p has as many releases as i; and fewer unfinished jobs than i has unlinked ones
  abbrev pub alongside : ℕ → ℕ → ℕ → Bool
  alongside t i p = eqb (released_before (srv S p) t) (released_before (srv S i) t)

  abbrev pub fewer : ℕ → ℕ → ℕ → Bool
  fewer t i p = ltb (node_at t p).unfinished (node_at t i).unlinked

  module _ (rises : (i j k : ℕ) → 1 ≤ j → j ≤ k → need i j ≤ need i k) where
    in_order_lem : (t i j k : ℕ) → 1 ≤ j → j ≤ k → T (finished_by S cap need t i k) → T (finished_by S cap need t i j)
    in_order_lem t i j k a b f = finished_in_order S cap need t i j k a b (rises i j k a b) f

    -- the next job of node i, for a predecessor p of the same graph
    fewer_if : (t p i : ℕ) → released_before (srv S p) t ≡ released_before (srv S i) t
        → T (finished_by S cap need t p (linked_count S cap need t i + 1)) → (node_at t p).unfinished < (node_at t i).unlinked
    unfolding node_state finished_count finished_by
    fewer_if t p i e f =
        let m = linked_count S cap need t i in
        let n = finished_number S cap need t p (m + 1) (finished_is S cap need t p (m + 1) f) in
        omega (
          arith,
          n,
          linked_count_lem S cap need t i,
          pass_first (λ (j : ℕ). finished_by S cap need t p j) (in_order_lem t p) (released_before (srv S p) t) (m + 1) (omega arith) n f,
        )

    if_fewer : (t p i : ℕ) → released_before (srv S p) t ≡ released_before (srv S i) t → (node_at t p).unfinished < (node_at t i).unlinked
        → T (finished_by S cap need t p (linked_count S cap need t i + 1))
    unfolding node_state finished_count finished_by
    if_fewer t p i e l =
        let m = linked_count S cap need t i in
        first_pass (λ (j : ℕ). finished_by S cap need t p j) (in_order_lem t p) (released_before (srv S p) t) (m + 1) (omega arith)
        (omega (arith, linked_count_lem S cap need t i))

    after_by_counts : (t i : ℕ) → released_before (srv S i) t < released (srv S i) t → (ps : List ℕ) → T (all? (alongside t i) ps)
        → due_after S need (used S cap t) (links S cap need t) t i (linked_count S cap need t i + 1) ps ≡ all? (fewer t i) ps
    unfolding due_after finished_by
    after_by_counts t i now [] g =
        let m = linked_count S cap need t i in
        le-leb (m + 1) (released (srv S i) t) (omega (arith, linked_le (link_of S cap need t i) (released_before (srv S i) t)))
    after_by_counts t i now (p ∷ ps) g =
        bool_ext (all? fin (p ∷ ps)) (all? (fewer t i) (p ∷ ps)) (all_under (alongside t i) fin (fewer t i) up (p ∷ ps) g)
        (all_under (alongside t i) (fewer t i) fin down (p ∷ ps) g)
      where
        fin : ℕ → Bool
        fin q = finished_by S cap need t q (linked_count S cap need t i + 1)

        same : (q : ℕ) → T (alongside t i q) → released_before (srv S q) t ≡ released_before (srv S i) t
        same q e = eqb→eq (released_before (srv S q) t) (released_before (srv S i) t) e

        up : (q : ℕ) → T (alongside t i q) → T (fin q) → T (fewer t i q)
        up q e f = lt→ltb (node_at t q).unfinished (node_at t i).unlinked (fewer_if t q i (same q e) f)

        down : (q : ℕ) → T (alongside t i q) → T (fewer t i q) → T (fin q)
        down q e f = if_fewer t q i (same q e) (ltb→lt (node_at t q).unfinished (node_at t i).unlinked f)

    pub due_by_counts : (t i : ℕ) → released_before (srv S i) t < released (srv S i) t → T (all? (alongside t i) (srv S i).predecessors)
        → due_by S cap need t i (linked_count S cap need t i + 1) ≡ all? (fewer t i) (srv S i).predecessors
    unfolding due_by due
    due_by_counts t i now g = after_by_counts t i now (srv S i).predecessors g
