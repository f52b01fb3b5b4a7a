-- Once settled, all is linked: where the states agree at two instants a hyperperiod apart, at or after the first boundary, every server job
-- that runs in a tick from there on is linked. A hyperperiod links as many jobs of a node as it releases server jobs of it, so it links each
-- of these; and a server job that is pending and not linked would have one like it, of a later number, at the same instant, without end.
use mathlib.Core.Path.{◌≡◌, sym, ap, ◌∙◌}
use mathlib.Core.Bool.{Bool, true}
use mathlib.Core.List.{List}
use Prim.Native.Nat.{ℕ, zero, suc, ◌+◌, ◌-◌, ◌≤◌, ◌<◌}
use native.Mathlib.Nat.{not-suc-le-zero}
use native.Mathlib.Omega.{arith}
use lib.Dec.{T, ltb, eqb, lt→ltb}
use lib.ListN.{length}
use borrow.Author.Tests.{le-ltb}
use Rattle.schedule.specs.Lists.{one?, all?, keep, joined}
use Rattle.schedule.specs.Servers.{Server, srv, Box}
use Rattle.schedule.specs.ServerJobs.{ServerJob, jobs_from, released, released_before, ready, ready_jobs, rank, used}
use Rattle.schedule.specs.State.{same_state, state_at}
use Rattle.schedule.specs.Walk.{Running, running_at, row_at}
use Rattle.schedule.specs.FarRows.{moved}
use Rattle.schedule.proofs.Tests.{by_lt}
use Rattle.theorems.proofs.Releases.{released_before_one, released_before_shift}
use Rattle.theorems.proofs.Ready.{Ready, ready_is}
use Rattle.theorems.proofs.InTurn.{budget_of, no_budget, used_by, used_falls, running, running_ready}
use Rattle.theorems.proofs.LinkRows.{linked_up_to, linked_last, linked_slow, linked_cong}
use Rattle.theorems.proofs.Linking.{link_of, links_stay}
use Rattle.theorems.proofs.SameRunning.{periods_some}
use Rattle.theorems.proofs.Repeating.{Repeated, Agree, agree_for_ever}
use Rattle.theorems.proofs.Boundaries.{Sound, agree_at_boundary}
use Rattle.theorems.proofs.MappedLists.{kept_pass, pass_kept, pass_joined, pass_read}

-- where d numbers after a add d to the count, each is linked
each_linked : (f : ℕ → ℕ) (a d : ℕ) → linked_up_to f (a + d) ≡ linked_up_to f a + d → (k : ℕ) → a < k → k ≤ a + d → 1 ≤ f k
each_linked f a d e zero l m = absurd (not-suc-le-zero l)
each_linked f a d e (suc k) l m =
    by_lt 0 (f (suc k)) (λ p. p)
    (λ p.
    let none : one? (ltb 0 (f (suc k))) ≡ 0 = rw (le-ltb 0 (f (suc k)) p) in
    let q : a + (k - a) ≡ k = omega arith in
    let q' : suc k + (a + d - suc k) ≡ a + d = omega arith in
    absurd
    (let x : ⊥ =
    omega (arith, linked_last f k, rw q at (linked_slow f a (k - a)), rw q' at (linked_slow f (suc k) (a + d - suc k))) in
    x))

moved_linked : (h a : ℕ) → 1 ≤ moved h a → 1 ≤ a
moved_linked h a p = by_lt 0 a (λ l. l) (λ l. let z : moved h a ≡ 0 = rw (le-ltb 0 a l) in absurd (let x : ⊥ = omega arith in x))

module _ (X : Box) (h : ℕ → ℕ) (sound : Sound X h) (need : ℕ → ℕ → ℕ) where
  abbrev S : List Server
  S = X.servers

  abbrev later : ℕ → ℕ
  later t = t + X.hyper

  abbrev n : ℕ → ℕ → ℕ
  n t i = released_before (srv S i) t

  module _ (t : ℕ) (late : X.origin ≤ t) (r : Agree S X.cap X.hyper h need t (later t)) (i : ℕ) (l : i < length S) where
    abbrev row : ℕ → ℕ → ℕ
    row v k = link_of S X.cap need v i k

    more_released : n (later t) i ≡ n t i + h i
    more_released =
        let y = sound.periodic in
        released_before_shift (srv S i) (h i) X.hyper (y.periods i) (y.period_some i) t (omega (arith, sound.offsets i)) y.some

    -- those released in the hyperperiod from t on
    new_linked : (k : ℕ) → n t i < k → k ≤ n (later t) i → 1 ≤ row (later t) k
    new_linked k a b =
        let stay : linked_up_to (row (later t)) (n t i) ≡ linked_up_to (row t) (n t i) =
        linked_cong (row (later t)) (row t) (n t i) (λ m c d. links_stay S X.cap need t (later t) i m (omega arith) c d) in
        let e : linked_up_to (row (later t)) (n t i + h i) ≡ linked_up_to (row (later t)) (n t i) + h i =
        (rw more_released at (r.linked i l)) ∙ ap (λ (m : ℕ). m + h i) (sym stay) in
        each_linked (row (later t)) (n t i) (h i) e k a (omega (arith, more_released))

    -- those pending at t, by how many numbers are left after them
    pending_linked : (d k : ℕ) → n t i < k + d → 1 ≤ k → k ≤ n t i → used_by S X.cap t i k < budget_of S i → 1 ≤ row t k
    pending_linked zero k z a b p = absurd (let x : ⊥ = omega arith in x)
    pending_linked (suc d) k z a b p =
        let some : 0 < h i = periods_some S X.cap X.hyper h sound.periodic i in
        let next : 1 ≤ row (later t) (k + h i) =
        by_lt (n t i) (k + h i) (λ c. new_linked (k + h i) c (omega (arith, more_released)))
        (λ c.
        let first : 1 ≤ row t (k + h i) =
        pending_linked d (k + h i) (omega arith) (omega arith) c
        (omega (arith, used_falls S X.cap t i k (k + h i) a (omega arith))) in
        omega (arith, links_stay S X.cap need t (later t) i (k + h i) (omega arith) (omega arith) c)) in
        moved_linked (h i) (row t k) (omega (arith, r.link i k a b p))

    released_linked : (k : ℕ) → 1 ≤ k → k ≤ released (srv S i) t → used_by S X.cap t i k < budget_of S i → 1 ≤ row (suc t) k
    unfolding released_before
    released_linked k a b p =
        by_lt (n t i) k
        (λ c.
        let some : 0 < h i = periods_some S X.cap X.hyper h sound.periodic i in
        let new : 1 ≤ row (later t) k = new_linked k c (omega (arith, more_released, released_before_one (srv S i) t)) in
        omega (arith, links_stay S X.cap need (suc t) (later t) i k (omega (arith, sound.periodic.some)) a b))
        (λ c. omega (
          arith,
          links_stay S X.cap need t (suc t) i k (omega arith) a c,
          pending_linked (suc (n t i)) k (omega arith) a c p,
        ))

  module _ (again : Repeated S h need) (b : ℕ) (late : X.origin ≤ b) (equal : same_state (state_at X need (later b)) (state_at X need b) ≡ true) where
    ready_linked : (t : ℕ) → b ≤ t → (i k : ℕ) → Ready S (used S X.cap t) t i k → 1 ≤ link_of S X.cap need (suc t) i k
    ready_linked t l i k x =
        let e : b + (t - b) ≡ t = omega arith in
        let e' : later b + (t - b) ≡ later t = omega arith in
        let r : Agree S X.cap X.hyper h need t (later t) =
        rw (e, e') at
        (agree_for_ever S X.cap X.hyper h sound.periodic sound.graph need again b (later b) (λ i. omega (arith, sound.offsets i))
        (agree_at_boundary X h sound need again b late equal) (t - b)) in
        let p = x.pends in
        let inside : i < length S = by_lt i (length S) (λ z. z) (λ z. absurd (let x : ⊥ = omega (arith, p.left, no_budget S i z) in x)) in
        released_linked t (omega arith) r i inside k p.from p.to p.left

    pub always_linked : (t : ℕ) → b ≤ t → (i k : ℕ) → T (running S X.cap t i k) → 1 ≤ link_of S X.cap need (suc t) i k
    always_linked t l i k x = ready_linked t l i k (running_ready S X.cap t i k x)

    -- no entry of a row is without its invocation
    pub rows_linked : (t : ℕ) → b ≤ t → T (all? (λ (x : Running). ltb 0 x.invocation) (row_at X need t))
    unfolding row_at running_at ready_jobs
    rows_linked t l =
        pass_read is_ready (λ (x : Running). ltb 0 x.invocation) (running_at X need t)
        (λ x a. lt→ltb 0 (link_of S X.cap need (suc t) x.server x.number)
        (ready_linked t l x.server x.number (ready_is S σ t x.server x.number a)))
        (joined of_rank 0 (X.cap t))
        (pass_joined is_ready of_rank (λ q. pass_kept is_ready (λ (x : ServerJob). eqb (rank S σ t x) q) (ready_jobs S σ t) all_ready) 0 (X.cap t))
      where
        σ : List (List ℕ)
        σ = used S X.cap t

        is_ready : ServerJob → Bool
        is_ready = ready S σ t

        of_rank : ℕ → List ServerJob
        of_rank q = keep (λ (x : ServerJob). eqb (rank S σ t x) q) (ready_jobs S σ t)

        all_ready : T (all? is_ready (ready_jobs S σ t))
        all_ready = kept_pass is_ready (joined (λ (i : ℕ). jobs_from i 1 (released (srv S i) t)) 0 (length S))
