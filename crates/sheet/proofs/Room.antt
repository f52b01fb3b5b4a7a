-- Every answer fits a buffer of a fixed length: no report is longer than `longest_report`, no row than `longest_row`. So a caller who lends that
-- much is never refused as 10.
use mathlib.Core.Path.{◌≡◌, refl, sym, ap, ◌∙◌}
use mathlib.Core.Bool.{Bool, true, false, ◌&&◌, cond}
use mathlib.Core.List.{List, []}
use mathlib.Core.Option.{Option, none, some}
use Prim.Native.Nat.{ℕ, ◌-◌, ◌≤◌, ◌<◌}
use native.Mathlib.Nat.{div-le_self}
use native.Mathlib.Omega.{arith}
use lib.Dec.{eqb}
use lib.ListN.{length, get_or, length-map}
use Rattle.schedule.specs.Table.{Table}
use Rattle.schedule.specs.Servers.{Box, box_of, whole}
use Rattle.schedule.specs.ServerJobs.{used}
use Rattle.schedule.specs.Links.{links}
use Rattle.schedule.specs.State.{same_state, state, state_at}
use Rattle.schedule.specs.Walk.{Stop, settled, unsettled, backlog, backlogged, boundary, at_boundary, stop_with, stop_at, round_at, figures, walked}
use Rattle.rules.specs.Admission.{Admission, admitted, refused, admission_of}
use Rattle.rules.specs.Answers.{Reply, says, refuses, report_on, report_of, report_text}
use Rattle.theorems.proofs.FirstStop.{stopped_is_first, stops_in_time}
use Rattle.theorems.proofs.TableBox.{length_sinks}
use Rattle.theorems.proofs.LeastTrue.{figures_are_least_true}
use Rattle.planning.proofs.NodeFits.{few}
use Rattle.planning.proofs.Boundaries.{last_boundary}
use Rattle.window.proofs.Relation.{last_instant}
use Rattle.window.proofs.Walked.{stop}
use Rattle.writing.specs.Lengths.{longest_report}
use Rattle.sheet.proofs.Reports.{ok, short, refused_report}
use Rattle.sheet.proofs.TextLengths.{report_short}

-- the round told is that of the instant
round_of_lem : (b c d : Bool) (k r : ℕ) → ◌≡◌ {A = Option Stop} (cond b (some (settled r)) (cond c (some unsettled) (cond d (some backlog) none))) (some (settled k))
    → r ≡ k
round_of_lem true c d k r e = cc
round_of_lem false true d k r e = let z : ◌≡◌ {A = ℕ} 0 1 = cc in absurd (let x : ⊥ = omega arith in x)
round_of_lem false false true k r e = let z : ◌≡◌ {A = ℕ} 0 1 = cc in absurd (let x : ⊥ = omega arith in x)
round_of_lem false false false k r e = let z : ◌≡◌ {A = ℕ} 0 1 = cc in absurd (let x : ⊥ = omega arith in x)

abbrev pub text_in : Reply → List ℕ
text_in (says s) = s
text_in (refuses r) = []

module _ (bytes : List ℕ) (U : Table) (e : admission_of bytes ≡ admitted U) where
  abbrev X : Box
  X = box_of U

  abbrev need : ℕ → ℕ → ℕ
  need = whole X.servers

  pub in_time : (stop X).ticks ≤ last_instant
  unfolding boundary
  in_time = omega (arith, stops_in_time X need, last_boundary U (ok bytes U e) (short bytes U e))

  pub round_early : (k : ℕ) → (stop X).how ≡ settled k → k ≤ (stop X).ticks
  unfolding stop_at stop_with round_at
  round_early k h =
      let t = (stop X).ticks in
      let σ = used X.servers X.cap t in
      let ls = links X.servers X.cap need t in
      let same = same_state (state X.servers need σ ls t X.sinks) (state_at X need (t - X.hyper)) in
      let s : stop_at X need t ≡ some (settled k) = (stopped_is_first X need).stops ∙ ap some h in
      let is : round_at X need t ≡ k =
      round_of_lem (at_boundary X need t && same) (eqb t (boundary X need X.rounds)) (backlogged X.servers need σ ls t X.sinks) k (round_at X need t) s in
      omega (arith, is, div-le_self (t - X.origin) X.hyper)

  pub figures_small : (k : ℕ) → (stop X).how ≡ settled k → (g : ℕ) → g < length U.graphs → get_or (figures X need (stop X).ticks) g 0 ≤ (stop X).ticks
  unfolding walked
  figures_small k h g l = let (j, takes) = (figures_are_least_true U (ok bytes U e) k h g l).attained in omega (arith, takes.by)

  pub many_figures : length (figures X need (stop X).ticks) ≡ length U.graphs
  unfolding figures
  many_figures = length-map X.sinks _ ∙ length_sinks 0 U.graphs

  report_of_lem : report_of bytes ≡ report_on (stop X).how (stop X).ticks (figures X need (stop X).ticks)
  unfolding report_of walked
  report_of_lem = rw e

  of_how : (how : Stop) → (stop X).how ≡ how → (s : List ℕ) → report_on how (stop X).ticks (figures X need (stop X).ticks) ≡ says s → length s ≤ longest_report
  of_how (settled k) h s r =
      let t = (stop X).ticks in
      let fs = figures X need t in
      let is : report_text k t fs ≡ s = ap text_in r in
      rw (sym is)
      (report_short k t fs (omega (arith, in_time, round_early k h)) (omega (arith, in_time)) (omega (arith, many_figures, few U (ok bytes U e)))
      (λ g l. omega (arith, in_time, figures_small k h g (omega (arith, many_figures)))))
  of_how unsettled h s r = let z : ◌≡◌ {A = ℕ} 0 1 = cc in absurd (let x : ⊥ = omega arith in x)
  of_how backlog h s r = let z : ◌≡◌ {A = ℕ} 0 1 = cc in absurd (let x : ⊥ = omega arith in x)

of_admission : (bytes s : List ℕ) (a : Admission) → admission_of bytes ≡ a → report_of bytes ≡ says s → length s ≤ longest_report
of_admission bytes s (admitted U) e r = of_how bytes U e (stop (box_of U)).how refl s (sym (report_of_lem bytes U e) ∙ r)
of_admission bytes s (refused f) e r =
    let q : refuses f ≡ says s = sym (refused_report bytes f e) ∙ r in
    let z : ◌≡◌ {A = ℕ} 0 1 = cc in
    absurd (let x : ⊥ = omega arith in x)

pub every_report_fits : (bytes s : List ℕ) → report_of bytes ≡ says s → length s ≤ longest_report
every_report_fits bytes s r = of_admission bytes s (admission_of bytes) refl r

-- as include/phalandrix.h says
pub report_bytes : longest_report ≡ 212
report_bytes = refl
