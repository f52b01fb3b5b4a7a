-- `put_table` meets its contract: the graphs begin where the head ended.
use mathlib.Core.Path.{sym, subst}
use mathlib.Core.List.{List}
use Prim.Native.Nat.{ℕ, ◌+◌, ◌≤◌}
use native.Mathlib.Omega.{arith}
use lib.ListN.{length}
use Rattle.format.specs.Keys as Keys
use Rattle.memory.specs.declared.plain.PhalandrixTable.{PhalandrixTable}
use Rattle.putting.specs.Texts.{three_lines, graphs_lines, table_lines}
use Rattle.putting.proofs.TextLaws.{table_parts}
use Rattle.putting.proofs.Steps.{graphs_cut}
use Rattle.writing.proofs.Writing.{apart, named, room, both}
use Rattle.putting.proofs.tables.put_table.Goals as goal

fit : (t : PhalandrixTable) (part : List ℕ) → length (table_lines t) ≤ length part
    → length (three_lines Keys.processors t.processors Keys.rounds t.rounds Keys.graphs t.graphs) + length (graphs_lines t.graph t.node t.graphs) ≤ length part
fit t part h =
    apart (three_lines Keys.processors t.processors Keys.rounds t.rounds Keys.graphs t.graphs) (graphs_lines t.graph t.node t.graphs) part
    (subst (λ (l : List ℕ). length l ≤ length part) (sym (table_parts t)) h)

pub put_three-at-requires : goal.put_three-at-requires
put_three-at-requires c = omega (arith, fit c.args.t c.args.part.now c.requires.2)

pub put_graphs-requires : goal.put_graphs-requires
put_graphs-requires c =
    let t = c.args.t in
    rw (graphs_cut t.graph t.node t.graphs (omega arith)) (
      omega (arith, c.requires.1),
      room (graphs_lines t.graph t.node t.graphs) c.put_three-at.ensures (fit t c.args.part.now c.requires.2),
    )

pub returns : goal.returns
returns c =
    let t = c.args.t in
    named (table_parts t)
    (both (graphs_lines t.graph t.node t.graphs) c.put_three-at.ensures (fit t c.args.part.now c.requires.2) (rw (graphs_cut t.graph t.node t.graphs (omega arith)) at c.put_graphs.ensures))
