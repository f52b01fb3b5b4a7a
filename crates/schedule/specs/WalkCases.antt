-- Worked cases of the schedule: where walks stop, rows, states and links. Each sentence of the rules has a case that another reading of it
-- would change. They are computed in proofs/Cases.antt.
use Rattle.std.specs.Prelude.{Bool, true, false, List, [], ◌∷◌, ℕ, ◌+◌, ◌*◌}
use Rattle.std.proofs.Math.Option.{none, some}
use Rattle.schedule.specs.Lists.{tab, up_to}
use Rattle.schedule.specs.Table.{Table}
use Rattle.schedule.specs.State.{PendingJob, NodeState, State}
use Rattle.schedule.specs.Walk.{Stop, settled, unsettled, backlog, Walked, Running}
use Rattle.schedule.specs.Described.{table, graph, node, alone, one, chain}

-- how a walk ends: the way, the ticks, the figure of each graph. Few rounds, so that a walk that goes wrong ends soon
pub record WalkCase : Type 0 where
  pub table : Table
  pub gives : Walked

abbrev pub walks : Table → Stop → ℕ → List ℕ → WalkCase
walks T how ticks figures = record { table = T; gives = record { how = how; ticks = ticks; figures = figures } }

-- up to 9 ticks
unfoldable pub short_walks : List WalkCase
short_walks =
    walks (alone 1 5 4 (one 1 1)) (settled 1) 4 (1 ∷ [])
    -- job 1 of node 2 waits for the next release of its server: 6, not 2. The states of boundaries 0 and 1 differ by it
    ∷ walks (alone 1 5 4 (chain 1 1)) (settled 2) 8 (6 ∷ [])
    -- boundary `rounds` may settle; without that it stops the walk
    ∷ walks (alone 1 2 4 (chain 1 1)) (settled 2) 8 (6 ∷ [])
    ∷ walks (alone 1 1 4 (chain 1 1)) unsettled 4 (0 ∷ [])
    -- a job that finishes at the stop counts
    ∷ walks (alone 1 5 4 (chain 2 2)) (settled 2) 8 (8 ∷ [])
    -- the work that ends at 4 is counted before job 1 of node 2 is linked at 4
    ∷ walks (alone 2 5 4 (chain 4 4)) (settled 2) 8 (8 ∷ [])
    -- a server job waits for the one `level` places before it
    ∷ walks (alone 2 5 2 (one 3 2)) (settled 2) 4 (3 ∷ [])
    ∷ walks (alone 2 3 2 (one 3 1)) unsettled 6 (4 ∷ [])
    ∷ walks (alone 3 5 1 (one 3 3)) (settled 3) 3 (3 ∷ [])
    ∷ walks (alone 3 8 1 (one 3 2)) unsettled 8 (4 ∷ [])
    -- equal deadlines: by graph number; else the earlier deadline first
    ∷ walks (table 1 5 (graph 4 0 (one 1 1) ∷ graph 4 0 (one 1 1) ∷ [])) (settled 1) 4 (1 ∷ 2 ∷ [])
    ∷ walks (table 1 5 (graph 8 0 (one 3 1) ∷ graph 4 0 (one 1 1) ∷ [])) (settled 1) 8 (4 ∷ 1 ∷ [])
    -- boundary 0 is the largest offset
    ∷ walks (table 1 5 (graph 4 0 (one 2 1) ∷ graph 8 1 (one 3 1) ∷ [])) (settled 1) 9 (2 ∷ 6 ∷ [])
    ∷ walks (table 1 5 (graph 4 5 (one 1 1) ∷ [])) (settled 1) 9 (1 ∷ [])
    ∷ []

unfoldable pub long_walks : List WalkCase
long_walks =
    -- server job 5 of node 2 is complete at 9, and unlinked: no response comes of it
    walks (alone 2 5 2 (chain 3 1)) unsettled 10 (5 ∷ [])
    ∷ walks (table 1 5 (graph 4 3 (one 2 1) ∷ graph 6 1 (one 1 1) ∷ [])) (settled 1) 15 (2 ∷ 3 ∷ [])
    -- node 4 waits for both its predecessors: with one of them it would respond after 9
    ∷ walks (alone 8 5 4 (node 1 1 [] ∷ node 1 1 (1 ∷ []) ∷ node 6 2 (1 ∷ []) ∷ node 1 1 (2 ∷ 3 ∷ []) ∷ [])) (settled 4) 16 (13 ∷ [])
    -- graph 2 responds after 2, 1, 3, 1: the largest is its figure, and not the last
    ∷ walks (table 1 5 (graph 8 0 (one 5 1) ∷ graph 4 4 (one 1 1) ∷ [])) (settled 2) 20 (6 ∷ 3 ∷ [])
    -- 17 pending server jobs are a backlog, 16 are not; at one instant the boundary comes first
    ∷ walks (alone 1 17 1 (one 20 1)) backlog 16 (0 ∷ [])
    ∷ walks (alone 1 16 1 (one 20 1)) unsettled 16 (0 ∷ [])
    -- of any server, and not of the sinks alone
    ∷ walks (alone 2 17 1 (chain 20 1)) backlog 16 (0 ∷ [])
    ∷ []

-- the running server jobs at an instant, in priority order: graph, node, server job, invocation
pub record RowCase : Type 0 where
  pub table : Table
  pub at : ℕ
  pub shows : List Running

abbrev pub row : Table → ℕ → List Running → RowCase
row T t xs = record { table = T; at = t; shows = xs }

abbrev pub run : ℕ → ℕ → ℕ → ℕ → Running
run g v k j = record { graph = g; node = v; server_job = k; invocation = j }

abbrev pub three : Table
three = table 3 5 (graph 8 0 (chain 2 2) ∷ graph 4 0 (one 2 1) ∷ [])

unfoldable pub row_cases : List RowCase
row_cases =
    row (alone 1 5 4 (chain 1 1)) 0 (run 1 1 1 1 ∷ [])
    -- an unlinked server job runs as well
    ∷ row (alone 1 5 4 (chain 1 1)) 1 (run 1 2 1 0 ∷ [])
    ∷ row (alone 1 5 4 (chain 1 1)) 2 []
    ∷ row (alone 1 5 4 (chain 1 1)) 5 (run 1 2 2 1 ∷ [])
    -- the first two; by deadline, then graph number, then node number
    ∷ row (alone 2 5 4 (chain 4 4)) 0 (run 1 1 1 1 ∷ run 1 2 1 0 ∷ [])
    ∷ row (alone 2 5 4 (chain 4 4)) 4 (run 1 1 2 2 ∷ run 1 2 2 1 ∷ [])
    ∷ row three 0 (run 2 1 1 1 ∷ run 1 1 1 1 ∷ run 1 2 1 0 ∷ [])
    ∷ row three 4 (run 2 1 2 2 ∷ [])
    ∷ row (table 2 5 (graph 4 0 (chain 1 1) ∷ graph 4 0 (one 1 1) ∷ [])) 0 (run 1 1 1 1 ∷ run 1 2 1 0 ∷ [])
    ∷ row (table 2 5 (graph 4 0 (chain 1 1) ∷ graph 4 0 (one 1 1) ∷ [])) 1 (run 2 1 1 1 ∷ [])
    -- several server jobs of one server, as many as its level lets
    ∷ row (alone 3 5 1 (one 3 3)) 2 (run 1 1 1 1 ∷ run 1 1 2 2 ∷ run 1 1 3 3 ∷ [])
    ∷ row (alone 3 5 1 (one 3 2)) 2 (run 1 1 1 1 ∷ run 1 1 2 2 ∷ [])
    ∷ row (alone 3 5 1 (one 3 2)) 3 (run 1 1 2 2 ∷ run 1 1 3 3 ∷ [])
    -- a deadline counts from the offset: 6 for graph 2, 7 for graph 1
    ∷ row (table 1 5 (graph 4 3 (one 1 1) ∷ graph 6 0 (one 4 1) ∷ [])) 3 (run 2 1 1 1 ∷ [])
    -- no server job runs before its release
    ∷ row (table 1 5 (graph 4 3 (one 2 1) ∷ graph 6 1 (one 1 1) ∷ [])) 0 []
    ∷ row (table 1 5 (graph 4 3 (one 2 1) ∷ graph 6 1 (one 1 1) ∷ [])) 1 (run 2 1 1 1 ∷ [])
    ∷ []

-- the state at an instant: of each node the invocations unfinished, the unlinked ones, and the pending server jobs
pub record StateCase : Type 0 where
  pub table : Table
  pub at : ℕ
  pub is : State

abbrev pub state_case : Table → ℕ → List ℕ → List NodeState → StateCase
state_case T t phases nodes = record { table = T; at = t; is = record { phases = phases; nodes = nodes } }

abbrev pub of : ℕ → ℕ → List PendingJob → NodeState
of unfinished unlinked pending = record { unfinished = unfinished; unlinked = unlinked; pending = pending }

abbrev pub linked : ℕ → ℕ → PendingJob
linked left behind = record { left = left; behind = some behind }

abbrev pub unlinked : ℕ → PendingJob
unlinked left = record { left = left; behind = none }

unfoldable pub state_cases : List StateCase
state_cases =
    state_case (alone 1 5 4 (chain 1 1)) 0 (0 ∷ []) (of 0 0 [] ∷ of 0 0 [] ∷ [])
    ∷ state_case (alone 1 5 4 (chain 1 1)) 4 (0 ∷ []) (of 0 0 [] ∷ of 1 1 [] ∷ [])
    ∷ state_case (alone 1 3 4 (chain 4 4)) 4 (0 ∷ []) (of 0 0 [] ∷ of 1 1 (unlinked 4 ∷ []) ∷ [])
    ∷ state_case (alone 1 3 4 (chain 4 4)) 6 (2 ∷ []) (of 1 0 (linked 4 0 ∷ []) ∷ of 2 1 (unlinked 2 ∷ linked 4 1 ∷ []) ∷ [])
    ∷ state_case (alone 2 5 4 (chain 4 4)) 5 (1 ∷ []) (of 1 0 (linked 3 0 ∷ []) ∷ of 2 1 (linked 3 1 ∷ []) ∷ [])
    ∷ state_case (table 1 5 (graph 4 3 (one 2 1) ∷ graph 6 1 (one 1 1) ∷ [])) 8 (1 ∷ 1 ∷ []) (of 1 0 (linked 1 0 ∷ []) ∷ of 1 0 (linked 1 0 ∷ []) ∷ [])
    ∷ []

-- two states that differ in one thing alone are not the same
abbrev pub some_state : State
some_state = record { phases = 2 ∷ []; nodes = of 2 1 (unlinked 2 ∷ linked 4 1 ∷ []) ∷ [] }

abbrev pub but : List ℕ → NodeState → State
but phases x = record { phases = phases; nodes = x ∷ [] }

unfoldable pub other_states : List State
other_states =
    but (3 ∷ []) (of 2 1 (unlinked 2 ∷ linked 4 1 ∷ []))
    ∷ but (2 ∷ []) (of 3 1 (unlinked 2 ∷ linked 4 1 ∷ []))
    ∷ but (2 ∷ []) (of 2 2 (unlinked 2 ∷ linked 4 1 ∷ []))
    ∷ but (2 ∷ []) (of 2 1 (unlinked 3 ∷ linked 4 1 ∷ []))
    ∷ but (2 ∷ []) (of 2 1 (unlinked 2 ∷ linked 4 2 ∷ []))
    ∷ but (2 ∷ []) (of 2 1 (linked 2 0 ∷ linked 4 1 ∷ []))
    ∷ but (2 ∷ []) (of 2 1 (unlinked 2 ∷ unlinked 4 ∷ []))
    ∷ but (2 ∷ []) (of 2 1 (linked 4 1 ∷ unlinked 2 ∷ []))
    ∷ but (2 ∷ []) (of 2 1 (unlinked 2 ∷ []))
    ∷ but (2 ∷ []) (of 2 1 (unlinked 2 ∷ linked 4 1 ∷ linked 4 1 ∷ []))
    ∷ []

-- Every tick an invocation of graph 2; each server job is complete after a tick, and its job needs 2: none finishes. After the ticks before
-- t all t server jobs are complete, and linked in turn. Graph 1 has none yet. (A walk of a table to 65 unfinished invocations is too long to
-- compute.)
abbrev pub never : Table
never = table 1 1 (graph 1 100 (one 1 1) ∷ graph 1 0 (one 1 1) ∷ [])

abbrev pub needs_two : ℕ → ℕ → ℕ
needs_two i j = 2

abbrev pub ticks_of : ℕ → List (List ℕ)
ticks_of t = [] ∷ tab (λ (k : ℕ). 1) 1 t ∷ []

abbrev pub links_of : ℕ → List (List ℕ)
links_of t = [] ∷ up_to t ∷ []

-- whether job j of node v of the first graph is released by t, and whether it is finished by t
pub record JobCase : Type 0 where
  pub table : Table
  pub node : ℕ
  pub job : ℕ
  pub at : ℕ
  pub due : Bool
  pub finished : Bool

abbrev pub job : Table → ℕ → ℕ → ℕ → Bool → Bool → JobCase
job T v j t d f = record { table = T; node = v; job = j; at = t; due = d; finished = f }

unfoldable pub job_cases : List JobCase
job_cases =
    -- a source's job comes with its invocation
    job (alone 2 5 4 (chain 4 4)) 1 1 0 true false
    ∷ job (alone 2 5 4 (chain 4 4)) 1 2 3 false false
    ∷ job (alone 2 5 4 (chain 4 4)) 1 2 4 true false
    -- another node's, when its predecessor's job finishes: job 1 of node 2 at 4
    ∷ job (alone 2 5 4 (chain 4 4)) 1 1 3 true false
    ∷ job (alone 2 5 4 (chain 4 4)) 1 1 4 true true
    ∷ job (alone 2 5 4 (chain 4 4)) 2 1 3 false false
    ∷ job (alone 2 5 4 (chain 4 4)) 2 1 4 true false
    ∷ job (alone 2 5 4 (chain 4 4)) 2 1 7 true false
    ∷ job (alone 2 5 4 (chain 4 4)) 2 1 8 true true
    ∷ []

-- rule 6 with smaller needs: on two processors the 4 and 4 chain whose jobs need 1 each, or 1 and 3, responds after 5, or 7
abbrev pub needs : ℕ → ℕ → ℕ → ℕ
needs more i j = 1 + more * i
