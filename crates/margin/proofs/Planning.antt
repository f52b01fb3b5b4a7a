-- What was planned of the bytes: of a table that passed, the margins by the walk of what was planned are the rules' own.
use mathlib.Core.Path.{◌≡◌, ap, ◌∙◌}
use mathlib.Core.List.{List}
use Prim.Native.Nat.{ℕ}
use lib.ListN.{take}
use Rattle.schedule.specs.Table.{Table}
use Rattle.schedule.specs.Servers.{box_of}
use Rattle.schedule.specs.Walk.{walked}
use Rattle.format.specs.declared.Refusal.{Refusal}
use Rattle.rules.specs.Admission.{admitted, refused, admission_of}
use Rattle.margins.specs.Margins.{of_table, limits_of, margin_on, margin_of}
use Rattle.admission.specs.Admission.{coded_admission}
use Rattle.sheet.specs.Walks.{admitted_of}
use Rattle.admission.specs.declared.admitting.Admitted.{Admitted}
use Rattle.std.specs.Prelude.{Ok}
use Rattle.table.specs.declared.Seen.{Seen}
use Rattle.window.specs.declared.Walk.{Walk}
use Rattle.window.specs.Walking.{walk_of}
use Rattle.window.proofs.Walked.{stop}
use Rattle.sheet.specs.declared.plans.Laid.{Laid}
use Rattle.sheet.specs.Figures.{figures_in, figures_of}
use Rattle.sheet.specs.Walks.{planned_by, walk_of_table, stop_of}
use Rattle.sheet.proofs.Admissions.{Passes}
use Rattle.sheet.proofs.TableWalks.{M, a, graphs_are, figures_are}
use Rattle.sheet.proofs.Reports.{never, stop_of_lem, ok, short, at_stop}
use Rattle.sheet.proofs.Planning.{planned, planned_walk}

module _ (bytes limits : List ℕ) (U : Table) (e : admission_of bytes ≡ admitted U) where
  abbrev w : Walk Seen
  w = walk_of_table (a U (ok bytes U e) (short bytes U e)) never

  abbrev count : ℕ
  count = (M U (ok bytes U e) (short bytes U e)).graphs

  margin_same : margin_on (stop_of w.how) w.ticks (take count (figures_of (M U (ok bytes U e) (short bytes U e)) w.state.worst)) (limits_of count limits)
      ≡ margin_of bytes limits
  unfolding margin_of walked
  margin_same =
      let s = at_stop bytes U e in
      rw (s.how, s.ticks, s.shows, stop_of_lem (stop (box_of U)).how, figures_are U (ok bytes U e) (short bytes U e) (stop (box_of U)).ticks s.state.worst (λ i h. (s.in_step.row i h).worst), graphs_are U (ok bytes U e) (short bytes U e), e)

-- of a table that passed, by the walk of what was read
passed_margin : (bytes limits : List ℕ) (r : Admitted) (p : Passes bytes r) (w : Walk Seen) → w ≡ walk_of_table r never
    → margin_on (stop_of w.how) w.ticks (take r.table.graphs (figures_of r.table w.state.worst)) (limits_of r.table.graphs limits) ≡ margin_of bytes limits
passed_margin bytes limits r p w e =
    let q : w ≡ walk_of_table (admitted_of p.table) never = e ∙ ap (λ (x : Admitted). walk_of_table x never) p.is in
    rw (q, p.is) (margin_same bytes limits p.table p.is_admitted)

module _ (bytes limits : List ℕ) (p : Laid) (e : Ok p ≡ planned_by (coded_admission (admission_of bytes))) where
  pub planned_margin : (w : Walk Seen) → w ≡ walk_of p.plan p.offsets p.origin p.hyperperiod p.rounds never
      → margin_on (stop_of w.how) w.ticks (take p.graphs (figures_in p.graph w.state.worst)) (limits_of p.graphs limits) ≡ margin_of bytes limits
  planned_margin w q =
      let h = planned_walk bytes p e w never q in
      let n = planned bytes p e in
      rw n.is (passed_margin bytes limits n.table n.passed w h)

pub refused_margin : (bytes limits : List ℕ) (f : Refusal) → admission_of bytes ≡ refused f → margin_of bytes limits ≡ of_table f
unfolding margin_of
refused_margin bytes limits f e = rw e
