-- `work` meets its contract: no more run than there are processors, and the span ends at the boundary at the latest.
use mathlib.Core.Path.{ap, ◌∙◌}
use Prim.Native.Nat.{◌+◌, ◌≤◌}
use native.Mathlib.Omega.{arith}
use lib.ListN.{length, take}
use Rattle.std.proofs.lemmas.List.{length-take}
use Rattle.schedule.specs.Limits as Limits
use Rattle.table.specs.declared.State.{State}
use Rattle.window.specs.Working.{with_left}
use Rattle.walking.proofs.Turns.{few_picked, next_kept, span_is, left_is, worked_all}
use Rattle.walking.proofs.Bounds.{Span, span_within}
use Rattle.walking.proofs.work.Goals as goal
use Rattle.walking.proofs.work.Goals.{After-choose-m, After-least_left-d}

few : (c : After-choose-m) → c.choose-m.result ≤ (Limits.processors).to
few c =
    let a = c.args in
    few_picked a.state.now.first a.state.now.count a.plan.now.level a.plan.now.step c.min-n.result a.plan.now.processors c.choose-m.result c.choose-m.ensures c.requires.few

span : (c : After-least_left-d) → Span c.args.t c.args.boundary c.least_left-d.result
span c = let a = c.args in span_within a.t a.release a.boundary a.asked _ _ _ c.requires.later c.ticks_to-most.ensures c.least_left-d.ensures

pub slice_bounds-at-end : goal.slice_bounds-at-end
slice_bounds-at-end c = let m = few (goal.at.slice_bounds-at-end c).After-choose-m in omega arith

pub slice_bounds-places-end : goal.slice_bounds-places-end
slice_bounds-places-end c =
    let m = few (goal.at.slice_bounds-places-end c).After-choose-m in
    omega (arith, length-take c.choose-m.result c.choose-m.new.at)

pub overflow_add-t : goal.overflow_add-t
overflow_add-t c = let s = span (goal.at.overflow_add-t c).After-least_left-d in omega arith

pub slice_bounds-run-end : goal.slice_bounds-run-end
slice_bounds-run-end c = let m = few (goal.at.slice_bounds-run-end c).After-choose-m in omega arith

pub slice_bounds-finish_all-end : goal.slice_bounds-finish_all-end
slice_bounds-finish_all-end c =
    let m = few (goal.at.slice_bounds-finish_all-end c).After-choose-m in
    omega (arith, length-take c.choose-m.result c.choose-m.new.run)

pub returns : goal.returns
returns c =
    let at = goal.at.returns c in
    let m = few at.After-choose-m in
    let s = span at.After-least_left-d in
    let a = c.args in
    let st = a.state.now in
    let d = c.least_left-d.result in
    let n = c.choose-m.result in
    let run = c.choose-m.new.run in
    let places = c.choose-m.new.at in
    record {
      ticks = span_is a.plan.now a.t a.boundary a.asked c.min-n.result n run places st c.min-n.ensures c.choose-m.ensures (omega arith)
          a.release c.ticks_to-most.result d c.requires.next c.ticks_to-most.ensures c.least_left-d.ensures;
      worked = worked_all a.plan.now a.t a.boundary a.asked c.min-n.result n run places st c.min-n.ensures c.choose-m.ensures d c.spend.new.left c.finish_all.new.state
          (omega arith)
          (left_is a.plan.now a.t a.boundary a.asked c.min-n.result n run places st c.min-n.ensures c.choose-m.ensures (omega arith) d c.spend.new.left c.spend.ensures)
          c.finish_all.ensures;
      next = ap (λ (u : State). u.next) c.finish_all.ensures ∙ next_kept a.plan.now (a.t + d) (take n run) (with_left st c.spend.new.left) (length (take n run));
      some = s.some;
      within = s.within;
    }
