-- The counts of a window's row are those of the rules' state: with whole budgets the finished jobs are the ones linked to complete server
-- jobs. And what a count is where the numbers that pass a test are the last ones.
use mathlib.Core.Path.{◌≡◌}
use mathlib.Core.Bool.{Bool}
use mathlib.Core.List.{List}
use Prim.Native.Nat.{ℕ, zero, suc, ◌+◌, ◌-◌, ◌≤◌, ◌<◌}
use native.Mathlib.Nat.{le_refl}
use native.Mathlib.Omega.{arith}
use lib.Dec.{T}
use lib.ListN.{length}
use Rattle.schedule.specs.Lists.{count, up_to}
use Rattle.schedule.specs.Servers.{Server, srv, Box, whole}
use Rattle.schedule.specs.ServerJobs.{released_before}
use Rattle.schedule.specs.Links.{finished_by}
use Rattle.schedule.specs.State.{NodeState, finished_count, node_state}
use Rattle.schedule.proofs.Tests.{by_lt, one_of, none_of}
use Rattle.theorems.proofs.Counts.{up_to_last, first_pass, pass_first}
use Rattle.theorems.proofs.InTurn.{completed, completed_le, is_complete, not_complete}
use Rattle.theorems.proofs.LinkRows.{linked_up_to, linked_le, linked_grows, linked_at_lem, linked_find}
use Rattle.theorems.proofs.Linking.{link_of, linked_count_lem, links_in_order}
use Rattle.theorems.proofs.Finishing.{finished_is, is_finished, finished_in_order}
use Rattle.theorems.proofs.Window.{node_at}
use Rattle.table.specs.declared.State.{State}
use Rattle.window.specs.Entries.{unfinished_at, unlinked_at}
use Rattle.window.proofs.Relation.{InStep}

-- numbers 1 to c fail, and those after them up to n pass
pub count_after : (p : ℕ → Bool) (c n : ℕ) → c ≤ n → ((k : ℕ) → 1 ≤ k → k ≤ c → T (p k) → ⊥) → ((k : ℕ) → c < k → k ≤ n → T (p k))
    → count p (up_to n) + c ≡ n
count_after p c zero h fail pass = omega arith
count_after p c (suc n) h fail pass =
    by_lt n c
    (λ l. omega (
      arith,
      up_to_last p n,
      none_of (p (suc n)) (fail (suc n) (omega arith) l),
      count_after p n n (le_refl n) (λ k a b. fail k a (omega arith)) (λ k a b. absurd (let x : ⊥ = omega arith in x)),
    ))
    (λ l. omega (
      arith,
      up_to_last p n,
      one_of (p (suc n)) (pass (suc n) (omega arith) (omega arith)),
      count_after p c n l fail (λ k a b. pass k a (omega arith)),
    ))

pub linked_up : (f : ℕ → ℕ) (a b : ℕ) → a ≤ b → linked_up_to f a ≤ linked_up_to f b
linked_up f a b h = let e : a + (b - a) ≡ b = omega arith in rw e at (linked_grows f a (b - a))

-- a job's need does not depend on its number
pub whole_rises : (S : List Server) (i j k : ℕ) → 1 ≤ j → j ≤ k → whole S i j ≤ whole S i k
unfolding whole
whole_rises S i j k a b = le_refl (srv S i).budget

module _ (S : List Server) (cap : ℕ → ℕ) (t i : ℕ) where
  abbrev fin : ℕ → Bool
  fin j = finished_by S cap (whole S) t i j

  abbrev row : ℕ → ℕ
  row = link_of S cap (whole S) t i

  abbrev n : ℕ
  n = released_before (srv S i) t

  abbrev c : ℕ
  c = completed S cap t i

  fin_in_order : (j k : ℕ) → 1 ≤ j → j ≤ k → T (fin k) → T (fin j)
  fin_in_order j k a b f = finished_in_order S cap (whole S) t i j k a b (whole_rises S i j k a b) f

  -- a job linked to a complete server job is finished, and a finished one is linked to such
  linked_finished : (j : ℕ) → 1 ≤ j → j ≤ linked_up_to row c → T (fin j)
  unfolding whole
  linked_finished j a b =
      let (m, x, y, z) = linked_find row n (links_in_order S cap (whole S) t i) c (completed_le S cap t i) j a b in
      is_finished S cap (whole S) t i j
      (record { k = m; from = x; to = omega (arith, completed_le S cap t i); is = z; has = is_complete S cap t i m x y })

  finished_linked : (j : ℕ) → 1 ≤ j → T (fin j) → j ≤ linked_up_to row c
  unfolding whole
  finished_linked j a f =
      let q = finished_is S cap (whole S) t i j f in
      let w : q.k ≤ c =
      by_lt c q.k (λ l. absurd (let z : ⊥ = omega (arith, q.has, not_complete S cap t i q.k q.from q.to l) in z)) (λ l. l) in
      let o = links_in_order S cap (whole S) t i in
      omega (arith, q.is, linked_at_lem row n o q.k q.from q.to (omega (arith, q.is)), linked_up row q.k c w)

  pub finished_count_lem : count fin (up_to n) ≡ linked_up_to row c
  finished_count_lem =
      let m = count fin (up_to n) in
      let k = linked_up_to row c in
      let inside : k ≤ n = omega (arith, linked_le row c, completed_le S cap t i) in
      by_lt m k
      (λ l.
      let up = pass_first fin fin_in_order n k (omega arith) inside (linked_finished k (omega arith) (le_refl k)) in
      absurd (let z : ⊥ = omega arith in z))
      (λ l. by_lt k m
      (λ g.
      let down = finished_linked m (omega arith) (first_pass fin fin_in_order n m (omega arith) (le_refl m)) in
      absurd (let z : ⊥ = omega arith in z))
      (λ g. omega arith))

module _ (X : Box) (t : ℕ) (st : State) (now : InStep X t st) where
  abbrev node : ℕ → NodeState
  node i = node_at X.servers X.cap (whole X.servers) t i

  pub unfinished_is : (i : ℕ) → i < length X.servers → unfinished_at st i ≡ (node i).unfinished
  unfolding node_state finished_count finished_by
  unfinished_is i h = omega (arith, (now.row i h).unfinished, finished_count_lem X.servers X.cap t i)

  pub unlinked_is : (i : ℕ) → i < length X.servers → unlinked_at st i ≡ (node i).unlinked
  unfolding node_state
  unlinked_is i h = omega (arith, (now.row i h).unlinked, linked_count_lem X.servers X.cap (whole X.servers) t i)
