-- `walk_to` meets its contract: at each event what is left of the walk, from here, is the whole of it.
use mathlib.Core.Path.{◌≡◌, refl, sym, ◌∙◌}
use Prim.Native.Nat.{ℕ, suc, ◌+◌, ◌*◌}
use Rattle.window.specs.Releasing.{earliest}
use Rattle.window.specs.Walking.{kept_of, walk_from, walk_of}
use Rattle.walking.proofs.Steps.{Differs, differs_states, differs_first, settles, ends_unsettled, Passes, passes_boundary, passes_between, ends_in_backlog, Goes, goes_released, goes_without, reaches, goes_on, after, from_here, one_more_lem, from_start}
use Rattle.walking.proofs.Bounds.{Ahead, ahead_boundary, ahead_between}
use Rattle.walking.proofs.walk_to.Goals as goal
use Rattle.walking.proofs.walk_to.Goals.{In-loop-t, Joined-else-round-gt0, Joined-t-boundary, Joined-t-release}
use Rattle.walking.proofs.walk_to.Goals.{else-round-gt0-via-then-round-gt0+else-same_states, else-round-gt0-via-else-round-gt0}
use Rattle.walking.proofs.walk_to.Goals.{then-t-boundary+else-round-gt0+else-round-rounds, else-t-boundary}
use Rattle.walking.proofs.walk_to.Goals.{then-t-release+else-any_full, else-t-release}

-- an event
module _ (i : In-loop-t) where
  abbrev events : ℕ
  events = after _ _ _ _ (i.args.origin + i.args.rounds * i.args.hyper) _ _ _ _ _ _ i.loop-t.invariant.0 i.loop-t-test.true

  -- the whole walk is what is left of it from this instant on
  whole : walk_of i.args.plan i.args.offsets i.args.origin i.args.hyper i.args.rounds i.args.asked
      ≡ walk_from i.args.plan i.args.hyper i.args.rounds i.args.asked (suc events) i.loop-t.t i.loop-t.boundary i.loop-t.round i.loop-t.state i.loop-t.kept
  whole =
      from_start i.args.plan i.args.offsets i.args.origin i.args.hyper i.args.rounds i.args.asked i.fresh-state.result (kept_of i.fresh-state.result) i.fresh-state.ensures refl
      ∙ from_here _ _ _ _ (i.args.origin + i.args.rounds * i.args.hyper) _ _ _ _ _ _ i.loop-t.invariant.0 i.loop-t-test.true

-- at a boundary the state is another than the one before, or there is none before
differs : (c : Joined-else-round-gt0) (left : ℕ) → Differs c.args.plan c.args.hyper c.args.rounds c.args.asked left c.loop-t.t c.loop-t.boundary c.loop-t.round c.min-n.result
    c.loop-t.state c.loop-t.kept c.min-n.ensures
differs c left =
    let a = c.args in
    let l = c.loop-t in
    elim c.else-round-gt0.branch [
      | else-round-gt0-via-then-round-gt0+else-same_states w ↦
          differs_states a.plan a.hyper a.rounds a.asked left l.t l.boundary l.round c.min-n.result l.state l.kept c.min-n.ensures
          w.if-round-gt0.true w.same_states.ensures w.if-same_states.false
      | else-round-gt0-via-else-round-gt0 w ↦
          differs_first a.plan a.hyper a.rounds a.asked left l.t l.boundary l.round c.min-n.result l.state l.kept c.min-n.ensures w.if-round-gt0.false
    ]

-- past the boundary
module _ (c : Joined-t-boundary) where
  abbrev Passed : ℕ → Type 0
  Passed left =
      let l = c.loop-t in
      Passes c.args.plan c.args.hyper c.args.rounds c.args.asked left l.t l.boundary l.round c.min-n.result l.state l.kept c.min-n.ensures
      c.if-t-boundary.boundary c.if-t-boundary.round c.if-t-boundary.kept

  passed : (left : ℕ) → Passed left
  passed left =
      let a = c.args in
      let l = c.loop-t in
      elim c.if-t-boundary.branch [
        | then-t-boundary+else-round-gt0+else-round-rounds w ↦
            let d : Differs a.plan a.hyper a.rounds a.asked left l.t l.boundary l.round c.min-n.result l.state l.kept c.min-n.ensures =
            elim w.else-round-gt0.branch [
              | else-round-gt0-via-then-round-gt0+else-same_states v ↦
                  differs_states a.plan a.hyper a.rounds a.asked left l.t l.boundary l.round c.min-n.result l.state l.kept c.min-n.ensures
                  v.if-round-gt0.true v.same_states.ensures v.if-same_states.false
              | else-round-gt0-via-else-round-gt0 v ↦
                  differs_first a.plan a.hyper a.rounds a.asked left l.t l.boundary l.round c.min-n.result l.state l.kept c.min-n.ensures v.if-round-gt0.false
            ] in
            passes_boundary a.plan a.hyper a.rounds a.asked left l.t l.boundary l.round c.min-n.result l.state l.kept c.min-n.ensures
            w.if-t-boundary.true d w.if-round-rounds.false (w.boundary-is ∙ w.saturating_add-boundary.ensures) w.round-is (w.kept-is ∙ w.keep.ensures)
        | else-t-boundary w ↦
            passes_between a.plan a.hyper a.rounds a.asked left l.t l.boundary l.round c.min-n.result l.state l.kept c.min-n.ensures
            w.if-t-boundary.false w.boundary-is w.round-is w.kept-is
      ]

  ahead : Ahead c.args.origin c.args.hyper c.args.rounds c.loop-t.t c.if-t-boundary.boundary c.if-t-boundary.round
  ahead =
      let a = c.args in
      let l = c.loop-t in
      elim c.if-t-boundary.branch [
        | then-t-boundary+else-round-gt0+else-round-rounds w ↦
            ahead_boundary a.origin a.hyper a.rounds l.t l.boundary l.round l.invariant.3 l.invariant.2 c.requires.1 c.requires.2 w.if-t-boundary.true
            w.if-round-rounds.false (w.boundary-is ∙ w.saturating_add-boundary.ensures) w.round-is
        | else-t-boundary w ↦
            ahead_between a.origin a.hyper a.rounds l.t l.boundary l.round l.invariant.3 l.invariant.2 l.invariant.4 w.if-t-boundary.false w.boundary-is w.round-is
      ]

-- past the releases
module _ (c : Joined-t-release) where
  went : (left : ℕ) (p : Passes c.args.plan c.args.hyper c.args.rounds c.args.asked left c.loop-t.t c.loop-t.boundary c.loop-t.round c.min-n.result
      c.loop-t.state c.loop-t.kept c.min-n.ensures c.if-t-boundary.boundary c.if-t-boundary.round c.if-t-boundary.kept)
      → Goes c.args.plan c.args.hyper c.args.rounds c.args.asked left c.loop-t.t c.loop-t.boundary c.loop-t.round c.min-n.result
      c.loop-t.state c.loop-t.kept c.min-n.ensures c.if-t-boundary.boundary c.if-t-boundary.round c.if-t-boundary.kept p c.loop-t.release c.loop-t.invariant.1 c.if-t-release.state
  went left p =
      let a = c.args in
      let l = c.loop-t in
      let b = c.if-t-boundary in
      elim c.if-t-release.branch [
        | then-t-release+else-any_full w ↦
            goes_released a.plan a.hyper a.rounds a.asked left l.t l.boundary l.round c.min-n.result l.state l.kept c.min-n.ensures
            b.boundary b.round b.kept p l.release l.invariant.1 w.if-t-release.true w.any_full.ensures w.if-any_full.false (w.state-is ∙ w.release.ensures)
        | else-t-release w ↦
            goes_without a.plan a.hyper a.rounds a.asked left l.t l.boundary l.round c.min-n.result l.state l.kept c.min-n.ensures
            b.boundary b.round b.kept p l.release l.invariant.1 w.if-t-release.false w.state-is
      ]

  next_release : c.if-t-release.release ≡ earliest c.if-t-release.state.next c.min-n.result
  next_release =
      elim c.if-t-release.branch [
        | then-t-release+else-any_full w ↦ rw w.state-is (w.release-is ∙ w.earliest-release-then-t-release.ensures)
        | else-t-release w ↦ rw w.state-is (w.release-is ∙ c.loop-t.invariant.1)
      ]

pub returns-then-same_states : goal.returns-then-same_states
returns-then-same_states c =
    let i = (goal.at.returns-then-same_states c).In-loop-t in
    c.ended.ensures
    ∙ sym (whole i ∙ settles _ _ _ _ _ _ _ _ _ _ _ c.min-n.ensures c.if-t-boundary.true c.if-round-gt0.true c.same_states.ensures c.if-same_states.true)

pub returns-then-round-rounds : goal.returns-then-round-rounds
returns-then-round-rounds c =
    let at = goal.at.returns-then-round-rounds c in
    c.ended-then-round-rounds.ensures
    ∙ sym (whole at.In-loop-t
    ∙ ends_unsettled _ _ _ _ _ _ _ _ _ _ _ c.min-n.ensures c.if-t-boundary.true (differs at.Joined-else-round-gt0 (events at.In-loop-t)) c.if-round-rounds.true)

pub returns-then-any_full : goal.returns-then-any_full
returns-then-any_full c =
    let at = goal.at.returns-then-any_full c in
    c.ended-then-any_full.ensures
    ∙ sym (whole at.In-loop-t
    ∙ ends_in_backlog _ _ _ _ _ _ _ _ _ _ _ c.min-n.ensures _ _ _ (passed at.Joined-t-boundary _) _ c.loop-t.invariant.1 c.if-t-release.true c.any_full.ensures c.if-any_full.true)

pub returns-then-t-asked : goal.returns-then-t-asked
returns-then-t-asked c =
    let at = goal.at.returns-then-t-asked c in
    let p = passed at.Joined-t-boundary (events at.In-loop-t) in
    c.ended-then-t-asked.ensures
    ∙ sym (whole at.In-loop-t ∙ reaches _ _ _ _ _ _ _ _ _ _ _ c.min-n.ensures _ _ _ p _ c.loop-t.invariant.1 c.if-t-release.state (went at.Joined-t-release _ p) c.if-t-asked.true)

pub loop-t-preserved : goal.loop-t-preserved
loop-t-preserved c =
    let at = goal.at.loop-t-preserved c in
    let i = at.In-loop-t in
    let j = at.Joined-t-release in
    let a = c.args in
    let l = c.loop-t in
    let b = c.if-t-boundary in
    let p = passed at.Joined-t-boundary (events i) in
    let ahd = ahead at.Joined-t-boundary in
    let w = c.work-t.ensures in (
      one_more_lem a.plan a.hyper a.rounds a.asked (a.origin + a.rounds * a.hyper) _ l.t l.boundary l.round l.state l.kept l.invariant.0 c.loop-t-test.true w.some
          (goes_on a.plan a.hyper a.rounds a.asked (events i) l.t l.boundary l.round c.min-n.result l.state l.kept c.min-n.ensures
          b.boundary b.round b.kept p l.release l.invariant.1 c.if-t-release.state (went j (events i) p) c.if-t-asked.false _ w.ticks _ w.worked),
      rw w.next (next_release j),
      ahd.round_most,
      ahd.boundary_is,
      w.within,
    )
