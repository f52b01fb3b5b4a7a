-- The judgement of a table: the head's three lines, then the graphs.
use mathlib.Core.Path.{◌≡◌, refl, sym}
use Prim.Native.Nat.{ℕ, ◌≤◌}
use Rattle.schedule.specs.Limits as Limits
use Rattle.theorems.proofs.Formed.{within_limits}
use Rattle.format.specs.declared.Refusal.{Refusal}
use Rattle.format.specs.Keys as Keys
use Rattle.format.specs.Keys.{keys}
use Rattle.writer.specs.Judging.{Judgement, passes, fails, number_at, graphs_at, table_at}
use Rattle.memory.specs.declared.plain.PhalandrixTable.{PhalandrixTable}
use Rattle.memory.specs.Plain.{graphs_in, table_in}
use Rattle.memory.specs.Judged.{three_at}
use Rattle.memory.proofs.GraphCounts.{graphs_counted}
use Rattle.memory.proofs.JudgeLaws.{stopped, then_stopped, three_passed}

module _ (t : PhalandrixTable) where
  abbrev head : Judgement
  head = three_at Keys.processors t.processors Keys.rounds t.rounds Keys.graphs t.graphs 1

  pub table_few : (m : ℕ) → passes m ≡ head → t.graphs ≤ (Limits.graphs).to
  unfolding keys
  table_few m e = (within_limits Limits.graphs t.graphs (three_passed Keys.processors t.processors Keys.rounds t.rounds Keys.graphs t.graphs 1 m (sym e)).2).1

  pub table_stop : (r : Refusal) → fails r ≡ head → fails r ≡ table_at (table_in t) 1
  unfolding table_at
  table_stop r e =
      sym (then_stopped (number_at Keys.processors t.processors 1) _ _ r (λ l1.
      then_stopped (number_at Keys.rounds t.rounds l1) _ _ r (λ l2 f.
      rw (graphs_counted t.graph t.node 0 0 t.graphs) (stopped (number_at Keys.graphs t.graphs l2) _ r f))) (sym e))

  pub table_pass : (m : ℕ) → passes m ≡ head → graphs_at 0 (graphs_in t.graph t.node 0 0 t.graphs) 4 ≡ table_at (table_in t) 1
  unfolding table_at number_at
  table_pass m e =
      let (a, b, c) = three_passed Keys.processors t.processors Keys.rounds t.rounds Keys.graphs t.graphs 1 m (sym e) in
      rw (graphs_counted t.graph t.node 0 0 t.graphs, a, b, c) refl
