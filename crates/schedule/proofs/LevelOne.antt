-- R-8 for a node of level 1, such as one that keeps a filter state from its previous invocation: no two of its jobs run in the same tick,
-- and invocation j starts once invocation j - 1 has finished.
use mathlib.Core.Path.{◌≡◌}
use mathlib.Core.Bool.{Bool}
use mathlib.Core.List.{List}
use Prim.Native.Nat.{ℕ, zero, suc, ◌+◌, ◌-◌, ◌≤◌, ◌<◌}
use native.Mathlib.Omega.{arith}
use lib.Dec.{T}
use Rattle.schedule.specs.Lists.{count, numbers}
use Rattle.schedule.specs.Servers.{Server, srv}
use Rattle.schedule.specs.Links.{finished_by}
use Rattle.schedule.specs.Overlap.{job_runs, starts, jobs_running, OverlapLimited}
use Rattle.schedule.proofs.Tests.{by_lt, one_of}

-- a number that passes is counted, and two are counted twice
one_counted : (p : ℕ → Bool) (a n j : ℕ) → a ≤ j → j < a + n → T (p j) → 1 ≤ count p (numbers a n)
one_counted p a zero j l m t = absurd (let x : ⊥ = omega arith in x)
one_counted p a (suc n) j l m t =
    by_lt a j (λ h. omega (arith, one_counted p (suc a) n j h (omega arith) t))
    (λ h. let e : j ≡ a = omega arith in omega (arith, one_of (p a) (rw e at t)))

two_counted : (p : ℕ → Bool) (a n j k : ℕ) → a ≤ j → j < k → k < a + n → T (p j) → T (p k) → 2 ≤ count p (numbers a n)
two_counted p a zero j k l m h t u = absurd (let x : ⊥ = omega arith in x)
two_counted p a (suc n) j k l m h t u =
    by_lt a j (λ b. omega (arith, two_counted p (suc a) n j k b m (omega arith) t u))
    (λ b.
    let e : j ≡ a = omega arith in
    omega (arith, one_of (p a) (rw e at t), one_counted p (suc a) n k (omega arith) (omega arith) u))

module _ (S : List Server) (cap : ℕ → ℕ) (need : ℕ → ℕ → ℕ) (limited : OverlapLimited S cap need) (i : ℕ) (one : (srv S i).level ≡ 1) where
  pub never_two_at_once : (t j k : ℕ) → 1 ≤ j → j < k → T (job_runs S cap need t i j) → T (job_runs S cap need t i k) → ⊥
  unfolding jobs_running
  never_two_at_once t j k a l p q =
      omega (arith, limited.at_most_level t i k, two_counted (job_runs S cap need t i) 1 k j k a l (omega arith) p q)

  pub after_the_previous : (t j : ℕ) → 1 ≤ j → T (starts S cap need t i (suc j)) → T (finished_by S cap need t i j)
  after_the_previous t j a s =
      let e : suc j - (srv S i).level ≡ j = omega arith in
      rw e at (limited.starts_after t i (suc j) (omega arith) s)
