-- What equal states say of one node: as many server jobs are pending, with the same ticks used and the same links, moved on.
use mathlib.Core.Path.{◌≡◌, refl, sym, ap, ◌∙◌}
use mathlib.Core.Bool.{Bool, true, false, cond}
use mathlib.Core.List.{List, ◌∷◌, map}
use mathlib.Core.Option.{none, some}
use Prim.Native.Nat.{ℕ, zero, suc, ◌+◌, ◌-◌, ◌≤◌, ◌<◌}
use native.Mathlib.Omega.{arith}
use lib.Dec.{ltb, eqb}
use lib.ListN.{length, get_or}
use borrow.Author.Tests.{eq-eqb, ne_eqb, lt-ltb, le-ltb}
use Rattle.schedule.specs.Lists.{keep, tab, numbers, up_to}
use Rattle.schedule.specs.Servers.{Server, srv}
use Rattle.schedule.specs.ServerJobs.{released_before, used}
use Rattle.schedule.specs.Links.{links}
use Rattle.schedule.specs.State.{PendingJob, behind_of, pending_job, pending_jobs}
use Rattle.schedule.specs.FarRows.{moved}
use Rattle.schedule.proofs.Tests.{by_lt}
use Rattle.schedule.proofs.Cells.{get_or_tab}
use Rattle.theorems.proofs.InTurn.{budget_of, used_by, completed, completed_le, is_complete, not_complete}
use Rattle.theorems.proofs.Linking.{link_of}
use Rattle.theorems.proofs.Repeating.{moved_some}

length_tab : {B : Type 0} (f : ℕ → B) (a n : ℕ) → length (tab f a n) ≡ n
length_tab f a zero = refl
length_tab f a (suc n) = ap suc (length_tab f (suc a) n)

map_numbers : {B : Type 0} (f : ℕ → B) (a n : ℕ) → map f (numbers a n) ≡ tab f a n
map_numbers f a zero = refl
map_numbers f a (suc n) = ap (λ (l : List _). f a ∷ l) (map_numbers f (suc a) n)

-- the first m fail, the n after them pass
module _ (p : ℕ → Bool) where
  keep_all : (a n : ℕ) → ((k : ℕ) → a ≤ k → k < a + n → p k ≡ true) → keep p (numbers a n) ≡ numbers a n
  keep_all a zero q = refl
  keep_all a (suc n) q = rw (q a (omega arith) (omega arith), keep_all (suc a) n (λ k b c. q k (omega arith) (omega arith)))

  keep_last : (a m n : ℕ) → ((k : ℕ) → a ≤ k → k < a + m → p k ≡ false) → ((k : ℕ) → a + m ≤ k → k < a + m + n → p k ≡ true)
      → keep p (numbers a (m + n)) ≡ numbers (a + m) n
  keep_last a zero n f q =
      let e : 0 + n ≡ n = omega arith in
      let e' : a + 0 ≡ a = omega arith in
      rw (e, e') (keep_all a n (λ k b c. q k (omega arith) (omega arith)))
  keep_last a (suc m) n f q =
      let e : suc m + n ≡ suc (m + n) = omega arith in
      let e' : a + suc m ≡ suc a + m = omega arith in
      rw (e, e', f a (omega arith) (omega arith))
      (keep_last (suc a) m n (λ k b c. f k (omega arith) (omega arith)) (λ k b c. q k (omega arith) (omega arith)))

-- by how many numbers a link lies behind says which it is
behind_moved : (h k a b : ℕ) → a ≤ k → b ≤ k + h → cond (eqb b 0) none (some (k + h - b)) ≡ cond (eqb a 0) none (some (k - a)) → b ≡ moved h a
behind_moved h k a b l m e =
    by_lt 0 a
    (λ p. by_lt 0 b
    (λ q.
    let f : some (k + h - b) ≡ some (k - a) = rw (ne_eqb b 0 (λ z. omega arith), ne_eqb a 0 (λ z. omega arith)) at e in
    let g : k + h - b ≡ k - a = cc in
    rw (moved_some h a p) (omega arith))
    (λ q.
    let f : none ≡ some (k - a) = rw (eq-eqb b 0 (omega arith), ne_eqb a 0 (λ z. omega arith)) at e in
    let z : ◌≡◌ {A = ℕ} 0 1 = cc in
    absurd (let x : ⊥ = omega arith in x)))
    (λ p. by_lt 0 b
    (λ q.
    let f : some (k + h - b) ≡ none = rw (ne_eqb b 0 (λ z. omega arith), eq-eqb a 0 (omega arith)) at e in
    let z : ◌≡◌ {A = ℕ} 0 1 = cc in
    absurd (let x : ⊥ = omega arith in x))
    (λ q. let z : a ≡ 0 = omega arith in rw z (omega arith)))

module _ (S : List Server) (cap : ℕ → ℕ) (need : ℕ → ℕ → ℕ) where
  abbrev pending_at : ℕ → ℕ → ℕ → PendingJob
  pending_at t i k = pending_job S need (used S cap t) (links S cap need t) t i k

  abbrev pub row_of : ℕ → ℕ → List PendingJob
  row_of t i = pending_jobs S need (used S cap t) (links S cap need t) t i

  abbrev left : ℕ → ℕ → ℕ
  left t i = released_before (srv S i) t - completed S cap t i

  -- the pending server jobs are those after the complete ones
  pub row_is : (t i : ℕ) → row_of t i ≡ tab (pending_at t i) (suc (completed S cap t i)) (left t i)
  unfolding pending_jobs
  row_is t i =
      let n = released_before (srv S i) t in
      let c = completed S cap t i in
      let e : n ≡ c + (n - c) = omega (arith, completed_le S cap t i) in
      let e' : suc c ≡ 1 + c = omega arith in
      let test : ℕ → Bool = λ k. ltb (used_by S cap t i k) (budget_of S i) in
      ap (λ (m : ℕ). map (pending_at t i) (keep test (up_to m))) e
      ∙ ap (map (pending_at t i))
      (keep_last test 1 c (n - c) (λ k a b. le-ltb (used_by S cap t i k) (budget_of S i) (is_complete S cap t i k a (omega arith)))
      (λ k a b. lt-ltb (used_by S cap t i k) (budget_of S i) (not_complete S cap t i k (omega arith) (omega arith) (omega arith))))
      ∙ rw e' (map_numbers (pending_at t i) (1 + c) (n - c))

  -- two equal rows
  module _ (t u i : ℕ) (e : row_of u i ≡ row_of t i) where
    abbrev c : ℕ → ℕ
    c t = suc (completed S cap t i)

    rows : tab (pending_at u i) (c u) (left u i) ≡ tab (pending_at t i) (c t) (left t i)
    rows = sym (row_is u i) ∙ e ∙ row_is t i

    pub same_left_lem : left u i ≡ left t i
    same_left_lem = sym (length_tab (pending_at u i) (c u) (left u i)) ∙ ap length rows ∙ length_tab (pending_at t i) (c t) (left t i)

    -- where h more are complete at u
    module _ (h k : ℕ) (more : completed S cap u i ≡ completed S cap t i + h) (a : completed S cap t i < k)
        (b : k ≤ released_before (srv S i) t) where
      same_job : pending_at u i (k + h) ≡ pending_at t i k
      same_job =
          let d = k - c t in
          let e : c u + d ≡ k + h = omega arith in
          let e' : c t + d ≡ k = omega arith in
          let none : PendingJob = record { left = 0; behind = none } in
          rw (e, e') at
          (sym (get_or_tab (pending_at u i) (c u) (left u i) d none (omega (arith, same_left_lem)))
          ∙ ap (λ (l : List PendingJob). get_or l d none) rows
          ∙ get_or_tab (pending_at t i) (c t) (left t i) d none (omega arith))

      pub same_ticks : used_by S cap u i (k + h) ≡ used_by S cap t i k
      unfolding pending_job
      same_ticks =
          let e : budget_of S i - used_by S cap u i (k + h) ≡ budget_of S i - used_by S cap t i k = ap (λ (x : PendingJob). x.left) same_job in
          omega (
            arith,
            e,
            completed_le S cap u i,
            completed_le S cap t i,
            same_left_lem,
            not_complete S cap t i k (omega arith) b a,
            not_complete S cap u i (k + h) (omega arith) (omega (arith, completed_le S cap u i, completed_le S cap t i, same_left_lem)) (omega arith),
          )

      pub same_link : link_of S cap need t i k ≤ k → link_of S cap need u i (k + h) ≤ k + h
          → link_of S cap need u i (k + h) ≡ moved h (link_of S cap need t i k)
      unfolding pending_job behind_of
      same_link l m =
          behind_moved h k (link_of S cap need t i k) (link_of S cap need u i (k + h)) l m (ap (λ (x : PendingJob). x.behind) same_job)
