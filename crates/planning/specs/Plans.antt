-- The plan of a table in memory. For the proof, not for belief.
use Rattle.std.specs.Prelude.{cond, List, ℕ, ◌+◌, ◌*◌, min, get_or, replicate}
use Rattle.schedule.specs.Limits as Limits
use Rattle.table.specs.declared.Table.{Table}
use Rattle.table.specs.declared.Graph.{Graph}
use Rattle.table.specs.declared.Node.{Node}
use Rattle.table.specs.Fresh.{no_node}
use Rattle.window.specs.declared.Plan.{Plan}
use Rattle.window.specs.Entries.{places}
use Rattle.window.specs.Loops.{replaced}
use Rattle.planning.specs.declared.plans.Entry.{Entry}
use Rattle.planning.specs.Narrowing.{most16, most8}
use Rattle.planning.specs.Places.{at_places}
use Rattle.planning.specs.Graphs.{first_for, number_in, last_at, graph_to, graph_at, places_of}

abbrev pub step_of : Graph → ℕ
step_of y = min y.period most16 * places

-- what the plan has at place i, for node x of graph y
abbrev pub entry_of : Node → Graph → ℕ → Entry
entry_of x y i =
    record {
      budget = min x.budget most16;
      after = at_places x.after (first_for y i);
      level = min x.level most8;
      step = step_of y;
      lead = step_of y + i;
      room = cond (last_at y i) Limits.unfinished most8;
      node = number_in y i;
    }

abbrev pub no_plan : ℕ → ℕ → Plan
no_plan processors nodes =
    record {
      processors = processors;
      nodes = nodes;
      budget = replicate places 0;
      after = replicate places 0;
      level = replicate places 0;
      period = replicate places 0;
      step = replicate places 0;
      lead = replicate places 0;
      room = replicate places 0;
      graph = replicate places 0;
      node = replicate places 0;
    }

module _ (t : Table) where
  abbrev pub entry_at : ℕ → Entry
  entry_at i = entry_of (get_or t.node i no_node) (graph_at t i) i

  -- a number at each of the first n places
  abbrev pub by_place : (ℕ → ℕ) → ℕ → List ℕ
  by_place f n = replaced f (replicate places 0) n

  -- the first n nodes at their places
  unfoldable pub plan_to : ℕ → Plan
  plan_to n =
      record {
        processors = t.processors;
        nodes = t.nodes;
        budget = by_place (λ (i : ℕ). (entry_at i).budget) n;
        after = by_place (λ (i : ℕ). (entry_at i).after) n;
        level = by_place (λ (i : ℕ). (entry_at i).level) n;
        period = by_place (λ (i : ℕ). (graph_at t i).period) n;
        step = by_place (λ (i : ℕ). (entry_at i).step) n;
        lead = by_place (λ (i : ℕ). (entry_at i).lead) n;
        room = by_place (λ (i : ℕ). (entry_at i).room) n;
        graph = by_place (λ (i : ℕ). graph_to t i + 1) n;
        node = by_place (λ (i : ℕ). (entry_at i).node) n;
      }

  abbrev pub plan_of : Plan
  plan_of = plan_to (places_of t)
