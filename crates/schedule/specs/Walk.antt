-- Where the walk stops, the figure of a graph, and the row at an instant.
use Rattle.std.specs.Prelude.{Bool, ◌&&◌, ◌||◌, cond, List, map, ℕ, zero, suc, ◌+◌, ◌*◌, ◌-◌, ◌/◌, ◌%◌, max, leb, ltb, eqb, length}
use Rattle.std.proofs.Math.Option.{Option, none, some}
use Rattle.schedule.specs.Limits as Limits
use Rattle.schedule.specs.Lists.{count, any?, keep, joined, largest, numbers, up_to, cell}
use Rattle.schedule.specs.Servers.{Server, srv, Box, whole}
use Rattle.schedule.specs.ServerJobs.{ServerJob, release_of, released, pending, ready_jobs, rank, used}
use Rattle.schedule.specs.Links.{links}
use Rattle.schedule.specs.State.{State, same_state, finished_count, state, state_at}

-- the three ways to stop; settled with its round
pub data Stop : Type 0 where
  settled : ℕ → Stop
  unsettled : Stop
  backlog : Stop

-- how a walk stopped, and the instant
pub record Stopped : Type 0 where
  pub how : Stop
  pub ticks : ℕ

-- what a walk gives: how and when it stopped, and the figure of each graph
pub record Walked : Type 0 where
  pub how : Stop
  pub ticks : ℕ
  pub figures : List ℕ

-- a running server job: graph, node, server job, invocation (0 for an unlinked one)
pub record Running : Type 0 where
  pub graph : ℕ
  pub node : ℕ
  pub server_job : ℕ
  pub invocation : ℕ

-- after the releases and links of t
module _ (S : List Server) (need : ℕ → ℕ → ℕ) (σ ls : List (List ℕ)) (t : ℕ) where
  -- server i has more pending jobs than a window holds
  unfoldable pub crowded : ℕ → Bool
  crowded i = ltb Limits.pending (count (pending S σ t i) (up_to (released (srv S i) t)))

  -- the graph whose sink stands at i has too many unfinished invocations: an invocation finishes when the sink's job does
  unfoldable pub overdue : ℕ → Bool
  overdue i = ltb Limits.unfinished (released (srv S i) t - finished_count S need σ ls t i)

  unfoldable pub backlogged : List ℕ → Bool
  backlogged sinks = any? crowded (numbers 0 (length S)) || any? overdue sinks

module _ (X : Box) (need : ℕ → ℕ → ℕ) where
  unfoldable pub boundary : ℕ → ℕ
  boundary k = X.origin + k * X.hyper

  -- t is a boundary k with k from 1 on; its k
  unfoldable pub at_boundary : ℕ → Bool
  at_boundary t = ltb X.origin t && eqb ((t - X.origin) % X.hyper) 0

  unfoldable pub round_at : ℕ → ℕ
  round_at t = (t - X.origin) / X.hyper

  -- how the walk stops at t, if it does: the boundary test before the backlog test. `last` is the state a hyperperiod before t
  unfoldable pub stop_with : (σ ls : List (List ℕ)) → State → ℕ → Option Stop
  stop_with σ ls last t =
      cond (at_boundary t && same_state (state X.servers need σ ls t X.sinks) last) (some (settled (round_at t)))
      (cond (eqb t (boundary X.rounds)) (some unsettled) (cond (backlogged X.servers need σ ls t X.sinks) (some backlog) none))

  unfoldable pub stop_at : ℕ → Option Stop
  stop_at t = stop_with (used X.servers X.cap t) (links X.servers X.cap need t) (state_at X need (t - X.hyper)) t

  -- the first instant from t on at which the walk stops. It stops at boundary `rounds` at the latest, so `left` does not run out
  unfoldable pub first_stop : ℕ → ℕ → Stopped
  first_stop zero t = record { how = unsettled; ticks = t }
  first_stop (suc left) t =
      let later : Stopped = first_stop left (suc t) in
      elim (stop_at t) [ some s ↦ record { how = s; ticks = t } | none ↦ later ]

  unfoldable pub stopped : Stopped
  stopped = first_stop (suc (boundary X.rounds)) 0

  -- the response of the job linked to server job k of node i, where that job finishes at t exactly: it has its ticks then, and lacked one
  -- a tick before, when the ticks used were `old`. It is counted from the release of its invocation; 0 for any other k
  unfoldable pub response_at : (old σ ls : List (List ℕ)) → ℕ → ℕ → ℕ → ℕ
  response_at old σ ls t i k =
      let j : ℕ = cell ls i k in
      cond (ltb 0 j && (leb (need i j) (cell σ i k) && ltb (cell old i k) (need i j))) (t - release_of (srv X.servers i) j) 0

  -- the largest response of node i's jobs that finish at t exactly; and of those finished at or before t
  unfoldable pub finishing : (old σ ls : List (List ℕ)) → ℕ → ℕ → ℕ
  finishing old σ ls t i = largest (response_at old σ ls (suc t) i) (up_to (released (srv X.servers i) t))

  unfoldable pub figure : ℕ → ℕ → ℕ
  figure i zero = 0
  figure i (suc t) =
      max (finishing (used X.servers X.cap t) (used X.servers X.cap (suc t)) (links X.servers X.cap need (suc t)) t i)
      (figure i t)

  -- the figure of each graph, by its sink, over the invocations finished at or before t
  unfoldable pub figures : ℕ → List ℕ
  figures t = map (λ (i : ℕ). figure i t) X.sinks

  -- the whole of a walk
  unfoldable pub walked : Walked
  walked = record { how = stopped.how; ticks = stopped.ticks; figures = figures stopped.ticks }

  unfoldable pub running_at : ℕ → ServerJob → Running
  running_at t x =
      record {
        graph = (srv X.servers x.server).graph;
        node = (srv X.servers x.server).node;
        server_job = x.number;
        invocation = cell (links X.servers X.cap need (suc t)) x.server x.number;
      }

  -- the server jobs that run in the tick at t, in priority order: the ready one of each rank below the number of processors
  unfoldable pub row_at : ℕ → List Running
  row_at t =
      let σ : List (List ℕ) = used X.servers X.cap t in
      let ready : List ServerJob = ready_jobs X.servers σ t in
      map (running_at t) (joined (λ (r : ℕ). keep (λ (x : ServerJob). eqb (rank X.servers σ t x) r) ready) 0 (X.cap t))

-- in the walk each job needs its node's whole budget
abbrev pub whole_walk : Box → Walked
whole_walk X = walked X (whole X.servers)
