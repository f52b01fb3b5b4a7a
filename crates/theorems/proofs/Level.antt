-- Overlap is limited: for any needs up to the budgets, no more than `level` server jobs of a node, so no more than `level` of its jobs, run
-- in one tick; and a job runs only once the job `level` numbers before it has finished, where there is one.
use mathlib.Core.Path.{◌≡◌}
use mathlib.Core.List.{List}
use Prim.Native.Nat.{ℕ, suc, ◌+◌, ◌-◌, ◌≤◌, ◌<◌}
use native.Mathlib.Omega.{arith}
use lib.Dec.{T}
use lib.ListN.{length}
use Rattle.schedule.specs.Lists.{count, up_to}
use Rattle.schedule.specs.Servers.{Server, srv}
use Rattle.schedule.specs.ServerJobs.{released, released_before, used}
use Rattle.schedule.proofs.Tests.{by_lt, either_way}
use Rattle.theorems.proofs.Counts.{count_within}
use Rattle.theorems.proofs.Releases.{released_before_one}
use Rattle.theorems.proofs.Ready.{not_running_out}
use Rattle.theorems.proofs.InTurn.{used_by, running, running_ready, used_falls, completed, ready_within}
use Rattle.theorems.proofs.LinkRows.{linked_up_to, linked_le, linked_slow, linked_at_lem, linked_find}
use Rattle.theorems.proofs.Linking.{link_of, links_old, links_in_order}
use Rattle.theorems.proofs.Finishing.{Finished}

module _ (S : List Server) (cap : ℕ → ℕ) where
  -- a server job that runs has the one `level` places before it complete
  before_complete : (t i k : ℕ) → T (running S cap t i k) → (srv S i).level < k → (srv S i).budget ≤ used_by S cap t i (k - (srv S i).level)
  before_complete t i k r l = either_way (running_ready S cap t i k r).free (λ z. absurd (let x : ⊥ = omega arith in x)) (λ z. z)

  pub at_most_level : (t i : ℕ) → 1 ≤ (srv S i).level → count (running S cap t i) (up_to (released (srv S i) t)) ≤ (srv S i).level
  at_most_level t i v =
      count_within (running S cap t i) (completed S cap t i) (srv S i).level (λ k r. ready_within S cap t i k v (running_ready S cap t i k r))
      (released (srv S i) t)

  module _ (need : ℕ → ℕ → ℕ) (most : (i j : ℕ) → i < length S → 1 ≤ j → need i j ≤ (srv S i).budget) where
    pub finished_before : (t i k j : ℕ) → T (running S cap t i k) → link_of S cap need (suc t) i k ≡ j → (srv S i).level < j
        → 1 ≤ (srv S i).level → Finished S cap need t i (j - (srv S i).level)
    unfolding released_before
    finished_before t i k j r e l v =
        let level = (srv S i).level in
        let f = link_of S cap need (suc t) i in
        let o = links_in_order S cap need (suc t) i in
        let n = released (srv S i) t in
        let p = (running_ready S cap t i k r).pends in
        let inside : i < length S = by_lt i (length S) (λ z. z) (λ z. absurd (not_running_out S (used S cap t) t (cap t) i k z r)) in
        let at : f k ≡ linked_up_to f k = linked_at_lem f n o k p.from p.to (omega arith) in
        let low : linked_up_to f k ≤ k = linked_le f k in
        let full : (srv S i).budget ≤ used_by S cap t i (k - level) = before_complete t i k r (omega arith) in
        let q : (k - level) + level ≡ k = omega arith in
        let slow : linked_up_to f k ≤ linked_up_to f (k - level) + level = rw q at (linked_slow f (k - level) level) in
        let (m, a, b, c) = linked_find f n o (k - level) (omega (arith, p.to)) (j - level) (omega arith) (omega arith) in
        let old : m ≤ released_before (srv S i) t = omega (arith, p.to, released_before_one (srv S i) t) in
        record {
          k = m;
          from = a;
          to = old;
          is = omega (arith, links_old S cap need t i m a old);
          has = omega (arith, most i (j - level) inside (omega arith), used_falls S cap t i m (k - level) a b);
        }
