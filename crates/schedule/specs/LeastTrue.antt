-- Demand 3 of one graph of a box, as a statement: what it means that f is the least true figure of the graph whose sink stands at i,
-- for a walk of u ticks.
use Rattle.std.specs.Prelude.{List, ℕ, ◌+◌, ◌≤◌, ◌<◌, T, length}
use Rattle.schedule.specs.Servers.{Server, srv, Box, whole}
use Rattle.schedule.specs.ServerJobs.{release_of}
use Rattle.schedule.specs.Links.{finished_by}

-- each job needs a whole number of ticks from 1 to its node's budget, chosen afresh for each job
pub record Needs (S : List Server) (need : ℕ → ℕ → ℕ) : Type 0 where
  pub some : (i j : ℕ) → i < length S → 1 ≤ j → 1 ≤ need i j
  pub most : (i j : ℕ) → i < length S → 1 ≤ j → need i j ≤ (srv S i).budget

-- with whole budgets invocation j finishes by u, and takes exactly f: it is finished at its release + f and no earlier
pub record Takes (X : Box) (i u f j : ℕ) : Type 0 where
  pub from : 1 ≤ j
  pub by : release_of (srv X.servers i) j + f ≤ u
  pub finishes : T (finished_by X.servers X.cap (whole X.servers) (release_of (srv X.servers i) j + f) i j)
  pub no_earlier : (t : ℕ) → T (finished_by X.servers X.cap (whole X.servers) t i j) → release_of (srv X.servers i) j + f ≤ t

pub record LeastTrue (X : Box) (i u f : ℕ) : Type 0 where
  -- for any needs from 1 to the budgets every invocation, however late, finishes within f, counted from its release
  pub true_for_all : (need : ℕ → ℕ → ℕ) → Needs X.servers need → (j : ℕ) → 1 ≤ j
      → T (finished_by X.servers X.cap need (release_of (srv X.servers i) j + f) i j)
  -- with whole budgets some invocation finished by u takes exactly f
  pub attained : (j : ℕ) × Takes X i u f j
