-- A span's work is the rules' schedule: from the windows after the releases of t, the engine's span makes the windows before the releases of
-- its end, and it is quiet.
use mathlib.Core.Path.{◌≡◌, ap, ◌∙◌}
use Prim.Native.Nat.{ℕ, suc, ◌+◌, ◌-◌, ◌≤◌, ◌<◌}
use native.Mathlib.Omega.{arith}
use Rattle.schedule.specs.Lists.{cell}
use Rattle.schedule.specs.Servers.{srv, Box, whole}
use Rattle.schedule.specs.ServerJobs.{released}
use Rattle.schedule.specs.Walk.{figure}
use Rattle.theorems.proofs.InTurn.{used_by, completed}
use Rattle.theorems.proofs.LinkRows.{linked_grows}
use Rattle.theorems.proofs.Linking.{link_of}
use Rattle.theorems.proofs.QuietSpans.{Quiet}
use Rattle.table.specs.declared.State.{State}
use Rattle.window.specs.declared.Plan.{Plan}
use Rattle.window.specs.Choosing.{chosen}
use Rattle.window.specs.Finishing.{finished_all}
use Rattle.window.specs.Working.{span_of, worked}
use Rattle.window.proofs.Relation.{last_instant, Fits, Row, InStep, Released}
use Rattle.window.proofs.Places.{sink_inside}
use Rattle.window.proofs.Rows.{row_relinked}
use Rattle.window.proofs.Spans.{Span, spans}
use Rattle.window.proofs.Spending.{ran_on}
use Rattle.window.proofs.Responding.{worst_up_to, released_at_end, links_at_end, worst_at_last}
use Rattle.window.proofs.Finished.{After, finished, all_gone}

module _ (X : Box) (plan : Plan) (t : ℕ) (st : State) (fits : Fits X plan) (rel : Released X t st) (near : t ≤ last_instant) (boundary asked d : ℕ)
    (span : Span X plan t boundary asked st d) where
  at_end_lem : (u : State) → After X t d (chosen plan st).count u → InStep X (t + d) u
  at_end_lem u a =
      record {
        sized = a.sized;
        row = λ i h.
            let q = a.each i h in
            let S = X.servers in
            let all = all_gone X plan t st fits rel near boundary asked d span i u h q in
            let last : worst_up_to X t d i q.gone ≡ figure X (whole S) i (t + d) =
            ap (worst_up_to X t d i) all ∙ worst_at_last X t d span.quiet span.some i h (fits.at i h).budget_some in
            let row : Row (srv S i) i (used_by S X.cap (t + d) i) (link_of S X.cap (whole S) (suc t) i) (released (srv S i) t)
            (completed S X.cap (t + d) i) (figure X (whole S) i (t + d)) u = rw (← last, ← all) q.row in
            rw (released_at_end X t d span.quiet span.some i h)
            (row_relinked (srv S i) i (used_by S X.cap (t + d) i) (link_of S X.cap (whole S) (suc t) i) (link_of S X.cap (whole S) (t + d) i)
            (released (srv S i) t) (completed S X.cap (t + d) i) (figure X (whole S) i (t + d))
            (λ k a b. ap (λ ls. cell ls i k) (links_at_end X t d span.quiet span.some)) u row);
        sinks = λ i sink.
            let h = sink_inside X plan fits i sink in
            let q = a.each i h in
            let c = completed X.servers X.cap t i in
            let e : c + (q.gone - c) ≡ q.gone = omega (arith, q.from) in
            let more = rw e at (linked_grows (link_of X.servers X.cap (whole X.servers) (suc t) i) c (q.gone - c)) in
            omega (arith, q.row.unfinished, (rel.row i h).unfinished, rel.sinks i sink);
      }

  work_done : InStep X (t + d) (worked plan t d st)
  unfolding worked
  work_done =
      at_end_lem (finished_all plan (t + d) (chosen plan st).run (ran_on plan d st) (chosen plan st).count)
      (finished X plan t st fits rel near boundary asked d span)

-- of a span from t on, up to the boundary and the instant asked: it has a tick at least, ends in time, is quiet, and its work keeps the relation
pub works : (X : Box) (plan : Plan) → Fits X plan → (t boundary asked : ℕ) (st : State) → Released X t st → t < boundary → t < asked → t ≤ last_instant
    → (1 ≤ span_of plan t boundary asked st)
    × (t + span_of plan t boundary asked st ≤ boundary)
    × (t + span_of plan t boundary asked st ≤ asked)
    × Quiet X.servers X.cap t (span_of plan t boundary asked st)
    × InStep X (t + span_of plan t boundary asked st) (worked plan t (span_of plan t boundary asked st) st)
works X plan fits t boundary asked st rel later more near =
    let d = span_of plan t boundary asked st in
    let span : Span X plan t boundary asked st d = spans X plan t st fits rel near boundary asked later more in
    (span.some, span.to_boundary, span.to_asked, span.quiet, work_done X plan t st fits rel near boundary asked d span)
