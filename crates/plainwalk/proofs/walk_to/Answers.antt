-- `walk_to` meets its contract: at each instant what is left of the walk, from here, is the whole of it.
use mathlib.Core.Path.{◌∙◌}
use Prim.Native.Nat.{◌+◌}
use native.Mathlib.Omega.{arith}
use Rattle.plainwalk.proofs.Steps.{from_start, ends_there, Passes, passes_boundary, passes_between, ends_in_backlog, reaches, goes_on, Ahead, not_last, not_past, ahead_boundary, ahead_between}
use Rattle.plainwalk.proofs.walk_to.Goals as goal
use Rattle.plainwalk.proofs.walk_to.Goals.{then-t-boundary+in_default, else-t-boundary}

pub loop-t-init : goal.loop-t-init
loop-t-init c =
    record {
      remains = from_start c.args.plan.now c.args.offsets.now c.args.origin c.args.hyper c.args.rounds c.args.asked c.fresh-l.result c.blank_state-before.result c.fresh-l.ensures c.blank_state-before.ensures;
      ahead = record { boundary_is = omega arith; round_most = omega arith; later = omega arith };
    }

pub returns-in-Some : goal.returns-in-Some
returns-in-Some c =
    ends_there c.loop-t.invariant.remains (not_past c.loop-t.invariant.ahead) c.form-state.ensures c.boundary_end.ensures c.if-t-boundary.true c.in-Some.how c.in-Some.is

pub returns-then-backlogged : goal.returns-then-backlogged
returns-then-backlogged c =
    let r = c.loop-t.invariant.remains in
    let near = not_past c.loop-t.invariant.ahead in
    let passed : Passes r near c.if-t-boundary.boundary c.if-t-boundary.round c.if-t-boundary.before =
    elim c.if-t-boundary.branch [
      | then-t-boundary+in_default w ↦ passes_boundary r near w.form-state.ensures w.boundary_end.ensures w.if-t-boundary.true w.in_default.is (w.boundary-is ∙ w.saturating_add-boundary.ensures) w.round-is w.before-is
      | else-t-boundary w ↦ passes_between r near w.if-t-boundary.false w.boundary-is w.round-is w.before-is
    ] in
    ends_in_backlog r near passed c.release-l.ensures c.backlogged.ensures c.if-backlogged.true

pub returns-then-t-asked : goal.returns-then-t-asked
returns-then-t-asked c =
    let r = c.loop-t.invariant.remains in
    let near = not_past c.loop-t.invariant.ahead in
    let passed : Passes r near c.if-t-boundary.boundary c.if-t-boundary.round c.if-t-boundary.before =
    elim c.if-t-boundary.branch [
      | then-t-boundary+in_default w ↦ passes_boundary r near w.form-state.ensures w.boundary_end.ensures w.if-t-boundary.true w.in_default.is (w.boundary-is ∙ w.saturating_add-boundary.ensures) w.round-is w.before-is
      | else-t-boundary w ↦ passes_between r near w.if-t-boundary.false w.boundary-is w.round-is w.before-is
    ] in
    reaches r near passed c.release-l.ensures c.backlogged.ensures c.if-backlogged.false c.if-t-asked.true

pub loop-t-preserved : goal.loop-t-preserved
loop-t-preserved c =
    let r = c.loop-t.invariant.remains in
    let near = not_past c.loop-t.invariant.ahead in
    let passed : Passes r near c.if-t-boundary.boundary c.if-t-boundary.round c.if-t-boundary.before =
    elim c.if-t-boundary.branch [
      | then-t-boundary+in_default w ↦ passes_boundary r near w.form-state.ensures w.boundary_end.ensures w.if-t-boundary.true w.in_default.is (w.boundary-is ∙ w.saturating_add-boundary.ensures) w.round-is w.before-is
      | else-t-boundary w ↦ passes_between r near w.if-t-boundary.false w.boundary-is w.round-is w.before-is
    ] in
    let ahead : Ahead c.args.origin c.args.hyper c.args.rounds (c.loop-t.t + 1) c.if-t-boundary.boundary c.if-t-boundary.round =
    elim c.if-t-boundary.branch [
      | then-t-boundary+in_default w ↦ ahead_boundary c.loop-t.invariant.ahead c.requires.0 c.requires.1 w.if-t-boundary.true (not_last c.args.rounds c.loop-t.round _ w.boundary_end.ensures w.in_default.is) (w.boundary-is ∙ w.saturating_add-boundary.ensures) w.round-is
      | else-t-boundary w ↦ ahead_between c.loop-t.invariant.ahead w.if-t-boundary.false w.boundary-is w.round-is
    ] in
    record { remains = goes_on r near passed c.release-l.ensures c.backlogged.ensures c.if-backlogged.false c.if-t-asked.false c.run-l.ensures c.finish-l.ensures; ahead = ahead }

pub returns-else-t-asked : goal.returns-else-t-asked
returns-else-t-asked c =
    let ahead : Ahead c.args.origin c.args.hyper c.args.rounds (c.loop-t.t + 1) c.if-t-boundary.boundary c.if-t-boundary.round =
    elim c.if-t-boundary.branch [
      | then-t-boundary+in_default w ↦ ahead_boundary c.loop-t.invariant.ahead c.requires.0 c.requires.1 w.if-t-boundary.true (not_last c.args.rounds c.loop-t.round _ w.boundary_end.ensures w.in_default.is) (w.boundary-is ∙ w.saturating_add-boundary.ensures) w.round-is
      | else-t-boundary w ↦ ahead_between c.loop-t.invariant.ahead w.if-t-boundary.false w.boundary-is w.round-is
    ] in
    absurd (omega (arith, not_past ahead))
