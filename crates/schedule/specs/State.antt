-- The state at an instant, as document 01 lists it: after the ticks before t, before the releases of t.
use Rattle.std.specs.Prelude.{Bool, ◌&&◌, cond, List, map, ℕ, ◌-◌, ◌%◌, ltb, eqb, length}
use Rattle.std.proofs.Math.Option.{Option, none, some}
use Rattle.schedule.specs.Lists.{count, keep, tab, up_to, cell, alike, same_option}
use Rattle.schedule.specs.Servers.{Server, srv, Box}
use Rattle.schedule.specs.ServerJobs.{released_before, used}
use Rattle.schedule.specs.Links.{finished, linked, links}

-- a pending server job: its budget left and, where it is linked, by how many numbers the job lies behind it
pub record PendingJob : Type 0 where
  pub left : ℕ
  pub behind : Option ℕ

-- a node: invocations released less jobs finished; invocations released less jobs linked; the pending server jobs in order
pub record NodeState : Type 0 where
  pub unfinished : ℕ
  pub unlinked : ℕ
  pub pending : List PendingJob

-- each graph's phase in its period, and each node
pub record State : Type 0 where
  pub phases : List ℕ
  pub nodes : List NodeState

module _ (S : List Server) (need : ℕ → ℕ → ℕ) (σ ls : List (List ℕ)) (t : ℕ) where
  -- how many jobs of node i are finished
  unfoldable pub finished_count : ℕ → ℕ
  finished_count i = count (λ (j : ℕ). finished S need σ ls t i j) (up_to (released_before (srv S i) t))

  unfoldable pub behind_of : ℕ → ℕ → Option ℕ
  behind_of i k = cond (eqb (cell ls i k) 0) none (some (k - cell ls i k))

  unfoldable pub pending_job : ℕ → ℕ → PendingJob
  pending_job i k = record { left = (srv S i).budget - cell σ i k; behind = behind_of i k }

  unfoldable pub pending_jobs : ℕ → List PendingJob
  pending_jobs i = map (pending_job i) (keep (λ (k : ℕ). ltb (cell σ i k) (srv S i).budget) (up_to (released_before (srv S i) t)))

  unfoldable pub node_state : ℕ → NodeState
  node_state i =
      record {
        unfinished = released_before (srv S i) t - finished_count i;
        unlinked = released_before (srv S i) t - linked S need σ ls t i;
        pending = pending_jobs i;
      }

  -- of the graph whose sink stands at i. (Boundaries come after every offset.)
  unfoldable pub phase : ℕ → ℕ
  phase i = (t - (srv S i).offset) % (srv S i).period

  unfoldable pub state : List ℕ → State
  state sinks = record { phases = map phase sinks; nodes = tab node_state 0 (length S) }

-- equality of states, as a test
abbrev pub same_pending : PendingJob → PendingJob → Bool
same_pending x y = eqb x.left y.left && same_option x.behind y.behind

abbrev pub same_node : NodeState → NodeState → Bool
same_node x y = eqb x.unfinished y.unfinished && (eqb x.unlinked y.unlinked && alike same_pending x.pending y.pending)

abbrev pub same_state : State → State → Bool
same_state x y = alike eqb x.phases y.phases && alike same_node x.nodes y.nodes

module _ (X : Box) (need : ℕ → ℕ → ℕ) where
  unfoldable pub state_at : ℕ → State
  state_at t = state X.servers need (used X.servers X.cap t) (links X.servers X.cap need t) t X.sinks
