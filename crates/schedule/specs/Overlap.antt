-- R-8: overlap is limited. What it says of the jobs of a node, not of its server jobs, and for whatever ticks the jobs need.
use Rattle.std.specs.Prelude.{Bool, not, ◌&&◌, List, ℕ, suc, ◌-◌, ◌≤◌, ◌<◌, T, leb, ltb, eqb}
use Rattle.schedule.specs.Lists.{count, any?, numbers, up_to, cell}
use Rattle.schedule.specs.Servers.{Server, srv}
use Rattle.schedule.specs.ServerJobs.{released, runs, used}
use Rattle.schedule.specs.Links.{links, finished_by}

module _ (S : List Server) (cap : ℕ → ℕ) (need : ℕ → ℕ → ℕ) where
  -- job j of node i runs in the tick at t: the server job that it is linked to runs in it, and the job does not yet have the ticks it needs
  unfoldable pub job_runs : ℕ → ℕ → ℕ → Bool
  job_runs t i j =
      let σ : List (List ℕ) = used S cap t in
      let ls : List (List ℕ) = links S cap need (suc t) in
      leb 1 j
      && any? (λ (k : ℕ). runs S σ t (cap t) (record { server = i; number = k }) && (eqb (cell ls i k) j && ltb (cell σ i k) (need i j)))
      (up_to (released (srv S i) t))

  -- it starts in the first tick in which it runs
  unfoldable pub starts : ℕ → ℕ → ℕ → Bool
  starts t i j = job_runs t i j && not (any? (λ (u : ℕ). job_runs u i j) (numbers 0 t))

  -- how many of the jobs 1 to n of node i run in the tick at t
  unfoldable pub jobs_running : ℕ → ℕ → ℕ → ℕ
  jobs_running t i n = count (job_runs t i) (up_to n)

pub record OverlapLimited (S : List Server) (cap : ℕ → ℕ) (need : ℕ → ℕ → ℕ) : Type 0 where
  -- never do more than `level` jobs of a node run in the same tick
  pub at_most_level : (t i n : ℕ) → jobs_running S cap need t i n ≤ (srv S i).level
  -- and job j does not start before job j less `level` has finished, where there is one
  pub starts_after : (t i j : ℕ) → (srv S i).level < j → T (starts S cap need t i j) → T (finished_by S cap need t i (j - (srv S i).level))
