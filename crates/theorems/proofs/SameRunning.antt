-- The server layer repeats: where the ticks used at t and a hyperperiod H later agree, server job k of server i against server job k + h i,
-- and those with no counterpart are complete, the same server jobs run. `h i` is the number of periods of server i in H.
use mathlib.Core.Path.{◌≡◌, sym, ◌∙◌}
use mathlib.Core.Bool.{Bool, ◌&&◌}
use mathlib.Core.List.{List}
use mathlib.Core.Logic.{inl, inr}
use Prim.Native.Nat.{ℕ, ◌+◌, ◌*◌, ◌-◌, ◌≤◌, ◌<◌}
use native.Mathlib.Nat.{zero-mul}
use native.Mathlib.Omega.{arith}
use lib.Dec.{T}
use lib.ListN.{length}
use Rattle.schedule.specs.Lists.{count, joined, cell}
use Rattle.schedule.specs.Servers.{Server, srv}
use Rattle.schedule.specs.ServerJobs.{ServerJob, jobs_from, released, priority_of, before, ready, ready_jobs, rank, runs}
use Rattle.schedule.proofs.Tests.{and_l, either_way, by_lt, bool_ext}
use Rattle.theorems.proofs.Counts.{server_job, count_keep, count_joined, count_none, jobs_split, jobs_shift}
use Rattle.theorems.proofs.Releases.{priority_shift, released_shift}
use Rattle.theorems.proofs.Ready.{before_is, is_before_lt, is_before_eq, Free, ready_is, is_ready_lem}

-- H is h i whole periods of each server i, and the processors repeat after H
pub record Periodic (S : List Server) (cap : ℕ → ℕ) (H : ℕ) (h : ℕ → ℕ) : Type 0 where
  pub periods : (i : ℕ) → h i * (srv S i).period ≡ H
  pub period_some : (i : ℕ) → 0 < (srv S i).period
  pub some : 0 < H
  pub same_cap : (t : ℕ) → cap (t + H) ≡ cap t

module _ (S : List Server) (cap : ℕ → ℕ) (H : ℕ) (h : ℕ → ℕ) (y : Periodic S cap H h) where
  pub periods_some : (i : ℕ) → 0 < h i
  periods_some i =
      by_lt 0 (h i) (λ x. x)
      (λ x.
      let e : h i ≡ 0 = omega arith in
      let z : 0 * (srv S i).period ≡ H = rw e at (y.periods i) in
      absurd (let x : ⊥ = omega (arith, zero-mul (srv S i).period, y.some) in x))

  before_shift : (i k j l : ℕ) → 1 ≤ k → 1 ≤ l
      → before S (server_job i (k + h i)) (server_job j (l + h j)) ≡ before S (server_job i k) (server_job j l)
  before_shift i k j l a b = bool_ext _ _ to from
    where
      ei : priority_of (srv S i) (k + h i) ≡ priority_of (srv S i) k + H
      ei = priority_shift (srv S i) (h i) H (y.periods i) (y.period_some i) k a

      ej : priority_of (srv S j) (l + h j) ≡ priority_of (srv S j) l + H
      ej = priority_shift (srv S j) (h j) H (y.periods j) (y.period_some j) l b

      to : T (before S (server_job i (k + h i)) (server_job j (l + h j))) → T (before S (server_job i k) (server_job j l))
      to x =
          either_way (before_is S (server_job i (k + h i)) (server_job j (l + h j)) x)
          (λ u. is_before_lt S (server_job i k) (server_job j l) (omega (arith, ei, ej)))
          (λ u. is_before_eq S (server_job i k) (server_job j l) (omega (arith, ei, ej, u.0)) u.1)

      from : T (before S (server_job i k) (server_job j l)) → T (before S (server_job i (k + h i)) (server_job j (l + h j)))
      from x =
          either_way (before_is S (server_job i k) (server_job j l) x)
          (λ u. is_before_lt S (server_job i (k + h i)) (server_job j (l + h j)) (omega (arith, ei, ej)))
          (λ u. is_before_eq S (server_job i (k + h i)) (server_job j (l + h j)) (omega (arith, ei, ej, u.0)) u.1)

  module _ (t : ℕ) (late : (i : ℕ) → (srv S i).offset ≤ t) (σ σ' : List (List ℕ)) (agree : (i k : ℕ) → 1 ≤ k → cell σ' i (k + h i) ≡ cell σ i k)
      (done : (i k : ℕ) → 1 ≤ k → k ≤ h i → (srv S i).budget ≤ cell σ' i k) where
    pub more : (i : ℕ) → released (srv S i) (t + H) ≡ released (srv S i) t + h i
    more i = released_shift (srv S i) (h i) H (y.periods i) (y.period_some i) t (late i)

    -- `level` places before
    free_down : (i k : ℕ) → 1 ≤ k → Free S σ' (t + H) i (k + h i) → Free S σ t i k
    free_down i k a f =
        let v = (srv S i).level in
        either_way f (λ l. inl (omega arith))
        (λ c. by_lt v k
        (λ l. let e : k + h i - v ≡ (k - v) + h i = omega arith in inr (rw (← agree i (k - v) (omega arith)) (rw e at c)))
        (λ l. inl l))

    free_up : (i k : ℕ) → 1 ≤ k → Free S σ t i k → Free S σ' (t + H) i (k + h i)
    free_up i k a f =
        let v = (srv S i).level in
        by_lt v k
        (λ l. either_way f (λ z. absurd (let x : ⊥ = omega arith in x))
        (λ c. let e : k + h i - v ≡ (k - v) + h i = omega arith in inr (rw (e, agree i (k - v) (omega arith)) c)))
        (λ l. by_lt v (k + h i) (λ b. inr (done i (k + h i - v) (omega arith) (omega arith))) (λ b. inl b))

    pub ready_shift : (i k : ℕ) → 1 ≤ k → ready S σ' (t + H) (server_job i (k + h i)) ≡ ready S σ t (server_job i k)
    ready_shift i k a = bool_ext _ _ to from
      where
        to : T (ready S σ' (t + H) (server_job i (k + h i))) → T (ready S σ t (server_job i k))
        to x =
            let r = ready_is S σ' (t + H) i (k + h i) x in
            is_ready_lem S σ t i k (record { from = a; to = omega (arith, r.pends.to, more i); left = rw (agree i k a) at r.pends.left })
            (free_down i k a r.free)

        from : T (ready S σ t (server_job i k)) → T (ready S σ' (t + H) (server_job i (k + h i)))
        from x =
            let r = ready_is S σ t i k x in
            is_ready_lem S σ' (t + H) i (k + h i)
            (record { from = omega arith; to = omega (arith, r.pends.to, more i); left = rw (agree i k a) r.pends.left })
            (free_up i k a r.free)

    pub not_ready : (i k : ℕ) → 1 ≤ k → k ≤ h i → T (ready S σ' (t + H) (server_job i k)) → ⊥
    not_ready i k a b x = let r = ready_is S σ' (t + H) i k x in omega (arith, r.pends.left, done i k a b)

    pub rank_shift : (i k : ℕ) → 1 ≤ k → rank S σ' (t + H) (server_job i (k + h i)) ≡ rank S σ t (server_job i k)
    unfolding rank ready_jobs
    rank_shift i k a =
        count_keep (λ (x : ServerJob). before S x (server_job i (k + h i))) (ready S σ' (t + H)) (joined (jobs (t + H)) 0 (length S))
        ∙ count_joined new old (jobs (t + H)) (jobs t) part 0 (length S)
        ∙ sym (count_keep (λ (x : ServerJob). before S x (server_job i k)) (ready S σ t) (joined (jobs t) 0 (length S)))
      where
        jobs : ℕ → ℕ → List ServerJob
        jobs t = λ (j : ℕ). jobs_from j 1 (released (srv S j) t)

        new : ServerJob → Bool
        new x = ready S σ' (t + H) x && before S x (server_job i (k + h i))

        old : ServerJob → Bool
        old x = ready S σ t x && before S x (server_job i k)

        is_ready_too : (x : ServerJob) → T (new x) → T (ready S σ' (t + H) x)
        is_ready_too x n = and_l (ready S σ' (t + H) x) (before S x (server_job i (k + h i))) n

        part : (j : ℕ) → count new (jobs (t + H) j) ≡ count old (jobs t j)
        part j =
            let e : released (srv S j) (t + H) ≡ h j + released (srv S j) t = omega (arith, more j) in
            rw (e, jobs_split new j 1 (h j) (released (srv S j) t))
            (omega (
              arith,
              count_none new j 1 (h j)
                  (λ l b c n. not_ready j l b (omega arith) (is_ready_too (server_job j l) n)),
              jobs_shift new old j (h j) 1 (released (srv S j) t) (λ l b. rw (ready_shift j l b, before_shift j l i k b a)),
            ))

    pub runs_shift : (i k : ℕ) → 1 ≤ k → runs S σ' (t + H) (cap (t + H)) (server_job i (k + h i)) ≡ runs S σ t (cap t) (server_job i k)
    unfolding runs
    runs_shift i k a = rw (ready_shift i k a, rank_shift i k a, y.same_cap t)
