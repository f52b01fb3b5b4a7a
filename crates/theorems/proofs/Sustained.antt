-- Sustainability (the paper's Theorem 3): where no job needs more, no job is linked later and none finishes later. The server jobs run as
-- before, for they do not depend on needs at all.
use mathlib.Core.Path.{◌≡◌}
use mathlib.Core.Bool.{Bool, true, false, cond}
use mathlib.Core.List.{List, [], ◌∷◌}
use Prim.Native.Nat.{ℕ, zero, suc, ◌+◌, ◌≤◌, ◌<◌, zero-le}
use native.Mathlib.Nat.{le_refl}
use native.Mathlib.Omega.{arith}
use lib.Dec.{T, ltb, lt→ltb}
use lib.ListN.{length}
use Rattle.schedule.specs.Servers.{Server, srv}
use Rattle.schedule.specs.ServerJobs.{released, released_before, used}
use Rattle.schedule.specs.Links.{due_after, due, links, due_by, finished_by}
use Rattle.schedule.proofs.Tests.{by_lt, all_under, one_le, one_le_one}
use Rattle.theorems.proofs.Releases.{released_before_one}
use Rattle.theorems.proofs.InTurn.{used_falls}
use Rattle.theorems.proofs.LinkRows.{linked_up_to, linked_zero, linked_last, linked_at_lem, linked_find}
use Rattle.theorems.proofs.Linking.{link_of, new_link, new_link_is_lem, linked_count, links_none, links_new, links_in_order, same_count}
use Rattle.theorems.proofs.Finishing.{finished_is, is_finished}

module _ (S : List Server) (cap : ℕ → ℕ) (need : ℕ → ℕ → ℕ) where
  linked_due : (t i : ℕ) → T (ltb 0 (new_link S cap need t i)) → T (due_by S cap need t i (linked_count S cap need t i + 1))
  linked_due t i h =
      let n = linked_count S cap need t i + 1 in
      of (due_by S cap need t i n) n (rw (new_link_is_lem S cap need t i) at h)
    where
      of : (b : Bool) (n : ℕ) → T (ltb 0 (cond b n 0)) → T b
      of true n h = tt
      of false n h = h

  due_linked : (t i : ℕ) → T (due_by S cap need t i (linked_count S cap need t i + 1)) → T (ltb 0 (new_link S cap need t i))
  due_linked t i h =
      let n = linked_count S cap need t i in
      rw (new_link_is_lem S cap need t i) (of (due_by S cap need t i (n + 1)) n h)
    where
      of : (b : Bool) (n : ℕ) → T b → T (ltb 0 (cond b (n + 1) 0))
      of true n h = lt→ltb 0 (n + 1) (omega arith)
      of false n h = absurd h

module _ (S : List Server) (cap : ℕ → ℕ) (less more : ℕ → ℕ → ℕ) (le : (i j : ℕ) → i < length S → 1 ≤ j → less i j ≤ more i j) where
  -- of server jobs 1 to k no fewer are linked
  Ahead : ℕ → Type 0
  Ahead t = (i k : ℕ) → k ≤ released_before (srv S i) t → linked_up_to (link_of S cap more t i) k ≤ linked_up_to (link_of S cap less t i) k

  linked_sooner : (t : ℕ) → Ahead t → (i j k : ℕ) → 1 ≤ j → 1 ≤ k → k ≤ released_before (srv S i) t → link_of S cap more t i k ≡ j
      → (m : ℕ) × (1 ≤ m) × (m ≤ k) × (link_of S cap less t i m ≡ j)
  unfolding Ahead
  linked_sooner t a i j k h b c e =
      let n = released_before (srv S i) t in
      linked_find (link_of S cap less t i) n (links_in_order S cap less t i) k c j h
      (omega (arith, a i k c, linked_at_lem (link_of S cap more t i) n (links_in_order S cap more t i) k b c (omega arith)))

  finished_sooner : (t : ℕ) → Ahead t → (i j : ℕ) → 1 ≤ j → T (finished_by S cap more t i j) → T (finished_by S cap less t i j)
  finished_sooner t a i j h f =
      let p = finished_is S cap more t i j f in
      by_lt i (length S)
      (λ l.
      let (m, b, c, d) = linked_sooner t a i j p.k h p.from p.to p.is in
      is_finished S cap less t i j
      (record { k = m; from = b; to = omega (arith, p.to); is = d; has = omega (arith, p.has, le i j l h, used_falls S cap t i m p.k b c) }))
      (λ l. absurd (let x : ⊥ = omega (arith, p.is, links_none S cap more t i p.k l) in x))

  -- rule 2, by the two cases of a node: the source, and any other
  due_after_lem : (t : ℕ) → Ahead t → (i j : ℕ) → 1 ≤ j → (ps : List ℕ)
      → T (due_after S more (used S cap t) (links S cap more t) t i j ps) → T (due_after S less (used S cap t) (links S cap less t) t i j ps)
  unfolding due_after finished_by
  due_after_lem t a i j h [] d = d
  due_after_lem t a i j h (p ∷ ps) d =
      let fin : (ℕ → ℕ → ℕ) → ℕ → Bool = λ need q. finished_by S cap need t q j in
      all_under (fin more) (fin more) (fin less) (λ q u f. finished_sooner t a q j h f) (p ∷ ps) d d

  due_sooner : (t : ℕ) → Ahead t → (i j : ℕ) → 1 ≤ j → T (due_by S cap more t i j) → T (due_by S cap less t i j)
  unfolding due_by due
  due_sooner t a i j h d = due_after_lem t a i j h (srv S i).predecessors d

  -- the server job released at t
  new_ahead : (t : ℕ) → Ahead t → (i : ℕ) → released_before (srv S i) t < released (srv S i) t
      → linked_up_to (link_of S cap more (suc t) i) (suc (released_before (srv S i) t))
      ≤ linked_up_to (link_of S cap less (suc t) i) (suc (released_before (srv S i) t))
  unfolding Ahead
  new_ahead t a i h =
      let n = released_before (srv S i) t in
      let now : (ℕ → ℕ → ℕ) → Bool = λ need. ltb 0 (new_link S cap need t i) in
      rw (
        linked_last (link_of S cap more (suc t) i) n,
        linked_last (link_of S cap less (suc t) i) n,
        same_count S cap more t i n (le_refl n),
        same_count S cap less t i n (le_refl n),
      )
      (by_lt i (length S)
      (λ l. rw (links_new S cap more t i (suc n) l (le_refl (suc n)) h, links_new S cap less t i (suc n) l (le_refl (suc n)) h)
      (by_lt (linked_count S cap more t i) (linked_count S cap less t i) (λ b. omega (arith, one_le_one (now more)))
      (λ b.
      let e : linked_count S cap more t i ≡ linked_count S cap less t i = omega (arith, a i n (le_refl n)) in
      omega (
        arith,
        e,
        one_le (now more) (now less)
            (λ x. due_linked S cap less t i
            (due_sooner t a i (linked_count S cap less t i + 1) (omega arith) (rw e at (linked_due S cap more t i x)))),
      ))))
      (λ l. rw (links_none S cap more (suc t) i (suc n) l, links_none S cap less (suc t) i (suc n) l) (omega (arith, a i n (le_refl n)))))

  ahead : (t : ℕ) → Ahead t
  unfolding Ahead released_before
  ahead zero i k h = let e : k ≡ 0 = omega arith in rw (e, linked_zero (link_of S cap more 0 i)) zero-le
  ahead (suc t) i k h =
      by_lt (released_before (srv S i) t) k
      (λ l.
      let e : k ≡ suc (released_before (srv S i) t) = omega (arith, released_before_one (srv S i) t) in
      rw e (new_ahead t (ahead t) i (omega arith)))
      (λ l. rw (same_count S cap more t i k l, same_count S cap less t i k l) (ahead t i k l))

  -- a job that is linked to server job k is, with smaller needs, linked to that one or an earlier one
  pub linked_no_later : (t i j k : ℕ) → 1 ≤ j → 1 ≤ k → k ≤ released_before (srv S i) t → link_of S cap more t i k ≡ j
      → (m : ℕ) × (1 ≤ m) × (m ≤ k) × (link_of S cap less t i m ≡ j)
  linked_no_later t i j k = linked_sooner t (ahead t) i j k

  pub finished_no_later : (t i j : ℕ) → 1 ≤ j → T (finished_by S cap more t i j) → T (finished_by S cap less t i j)
  finished_no_later t i j h f = finished_sooner t (ahead t) i j h f
