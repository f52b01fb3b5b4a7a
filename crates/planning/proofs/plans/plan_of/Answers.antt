-- `plan_of` meets its contract. The loop's invariant: the first i nodes are at their places, and g is the graph of place i.
use mathlib.Core.Path.{◌≡◌, refl}
use Prim.Native.Nat.{ℕ, ◌+◌}
use native.Mathlib.Numerals.{add-one}
use native.Mathlib.Omega.{arith}
use lib.ListN.{get_or, set}
use Rattle.table.specs.declared.Table.{Table}
use Rattle.table.specs.Fresh.{no_node}
use Rattle.window.specs.declared.Plan.{Plan}
use Rattle.window.specs.Loops.{replaced}
use Rattle.planning.specs.declared.plans.Entry.{Entry}
use Rattle.planning.specs.Graphs.{graph_in, graph_to}
use Rattle.planning.specs.Plans.{entry_of, plan_to}
use Rattle.planning.proofs.GraphLaws.{graph_in_lem, graph_next}
use Rattle.planning.proofs.plans.plan_of.Goals as goal

-- one node more at its place
one_more_lem : (t : Table) (p : Plan) (g i : ℕ) (e : Entry) → g ≡ graph_to t i → p ≡ plan_to t i → e ≡ entry_of (get_or t.node i no_node) (graph_in t g) i
    → ◌≡◌ {A = Plan}
    (record {
      processors = p.processors;
      nodes = p.nodes;
      budget = set p.budget i e.budget;
      after = set p.after i e.after;
      level = set p.level i e.level;
      period = set p.period i (graph_in t g).period;
      step = set p.step i e.step;
      lead = set p.lead i e.lead;
      room = set p.room i e.room;
      graph = set p.graph i (g + 1);
      node = set p.node i e.node;
    })
    (plan_to t (i + 1))
unfolding plan_to replaced
one_more_lem t p g i e f h k = rw (add-one i, h, k, f)

pub loop-i-init : goal.loop-i-init
unfolding plan_to graph_to replaced
loop-i-init c = (omega arith, refl, c.no_plan-p.ensures)

pub loop-i-preserved : goal.loop-i-preserved
loop-i-preserved c =
    let l = c.loop-i in
    let t = c.args.table in
    let next = graph_next t l.i l.invariant.1 c.next_graph-g.ensures in (
      rw next (graph_in_lem t (l.i + 1)),
      next,
      one_more_lem t l.p l.g l.i _ l.invariant.1 l.invariant.2 c.entry_of-e.ensures,
    )
