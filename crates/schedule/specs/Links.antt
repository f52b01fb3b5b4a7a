-- Rules 2, 3 and 6 of the schedule: which job is linked to which server job, and when a job finishes.
-- `need i j` is how many ticks job j of the node at place i needs.
use Rattle.std.specs.Prelude.{Bool, ◌&&◌, cond, List, [], ◌∷◌, ℕ, zero, suc, ◌+◌, leb, ltb, eqb, length}
use Rattle.schedule.specs.Lists.{count, any?, all?, up_to, cell, written}
use Rattle.schedule.specs.Servers.{Server, srv}
use Rattle.schedule.specs.ServerJobs.{released, released_before, used}

-- at instant t, where the work before it is counted (rule 3): σ has the ticks used by each server job released before t, and ls the
-- number of the job linked to it, 0 for none
module _ (S : List Server) (need : ℕ → ℕ → ℕ) (σ ls : List (List ℕ)) (t : ℕ) where
  -- rule 6: job j of node i has the ticks it needs. Each tick of the server job that it is linked to was a tick for it
  unfoldable pub finished : ℕ → ℕ → Bool
  finished i j = any? (λ (k : ℕ). eqb (cell ls i k) j && leb (need i j) (cell σ i k)) (up_to (released_before (srv S i) t))

  -- rule 2: job j of node i is released at or before t: with the invocation if the node is the source, else once the last of its
  -- predecessors' jobs j has finished
  unfoldable pub due_after : ℕ → ℕ → List ℕ → Bool
  due_after i j [] = leb j (released (srv S i) t)
  due_after i j (p ∷ ps) = all? (λ (q : ℕ). finished q j) (p ∷ ps)

  unfoldable pub due : ℕ → ℕ → Bool
  due i j = due_after i j (srv S i).predecessors

  -- how many jobs of node i are linked: jobs are linked in number order, so the next unlinked job is one more
  unfoldable pub linked : ℕ → ℕ
  linked i = count (λ (k : ℕ). ltb 0 (cell ls i k)) (up_to (released_before (srv S i) t))

  -- rule 3: what a server job of node i that is released at t is linked to; 0, for good, where the next unlinked job is not released
  unfoldable pub link_now : ℕ → ℕ
  link_now i = cond (due i (linked i + 1)) (linked i + 1) 0

  -- the links after those of t: a link made earlier stays
  unfoldable pub link : List (List ℕ)
  link =
      written (length S) (λ (i : ℕ). released (srv S i) t)
      (λ (i k : ℕ). cond (leb k (released_before (srv S i) t)) (cell ls i k) (link_now i))

module _ (S : List Server) (cap : ℕ → ℕ) (need : ℕ → ℕ → ℕ) where
  -- the links of the server jobs released before t
  unfoldable pub links : ℕ → List (List ℕ)
  links zero = []
  links (suc t) = link S need (used S cap t) (links t) t

  -- job j of node i is released at or before t
  unfoldable pub due_by : ℕ → ℕ → ℕ → Bool
  due_by t i j = due S need (used S cap t) (links t) t i j

  -- job j of node i finishes at or before t
  unfoldable pub finished_by : ℕ → ℕ → ℕ → Bool
  finished_by t i j = finished S need (used S cap t) (links t) t i j
