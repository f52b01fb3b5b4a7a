-- No row is longer than `longest_row`: it has no more lines than there can be processors, and its numbers are small.
use mathlib.Core.Path.{◌≡◌, refl, sym, ap, ◌∙◌}
use mathlib.Core.List.{List}
use Prim.Native.Nat.{ℕ, ◌≤◌, ◌<◌}
use native.Mathlib.Omega.{arith}
use lib.ListN.{length, take, length-map, length-take}
use Rattle.schedule.specs.Limits as Limits
use Rattle.format.specs.declared.Refusal.TheVariants.{PastTheStop}
use Rattle.schedule.specs.Table.{Table, hyperperiod}
use Rattle.schedule.specs.Servers.{Box, box_of, whole}
use Rattle.schedule.specs.Walk.{Stop, settled, unsettled, backlog, Running, row_at}
use Rattle.schedule.specs.FarRows as Rules
use Rattle.rules.specs.Admission.{Admission, admitted, refused, admission_of}
use Rattle.rules.specs.Answers.{says, refuses, row_of, row_on, row_text}
use Rattle.schedule.proofs.Tests.{by_lt, either_way}
use Rattle.theorems.proofs.TableRows.{matching_in_round, row_past_stop}
use Rattle.planning.specs.Plans.{plan_of}
use Rattle.planning.specs.Offsets.{offsets_of}
use Rattle.planning.proofs.NodeFits.{few, room}
use Rattle.planning.proofs.Fits.{plan_fits, offsets_fit}
use Rattle.window.proofs.Walked.{stop}
use Rattle.writing.specs.Lengths.{longest_row}
use Rattle.writing.specs.Row.{running_of}
use Rattle.rows.specs.Showing as Showing
use Rattle.rows.proofs.Entries.{row_few}
use Rattle.window.specs.Walking.{seen_of}
use Rattle.rows.proofs.Shown.{row_shown}
use Rattle.sheet.proofs.TableWalks.{M, table_walked}
use Rattle.sheet.proofs.Reports.{ok, short}
use Rattle.sheet.proofs.RowCalls.{rules_row, above, refused_row}
use Rattle.looking.proofs.HasRow.{has_before, has_settled, has_none_unsettled, has_none_backlog}
use Rattle.sheet.proofs.TextLengths.{small_row, row_short}
use Rattle.looking.proofs.RowNumbers.{graphs_numbered, row_entries}
use Rattle.sheet.proofs.Room.{in_time, text_in}

module _ (bytes : List ℕ) (U : Table) (e : admission_of bytes ≡ admitted U) where
  abbrev X : Box
  X = box_of U

  abbrev row : ℕ → List Running
  row t = row_at X (whole X.servers) t

  few_before : (t : ℕ) → t < (stop X).ticks → length (row t) ≤ (Limits.processors).to
  few_before t early =
      let fine = ok bytes U e in
      let brief = short bytes U e in
      let plan = plan_of (M U fine brief) in
      let offsets = offsets_of (M U fine brief) in
      either_way (table_walked U fine brief t) (λ s. absurd (let x : ⊥ = omega (arith, s.0) in x))
      (λ b.
      let st = b.1.state in
      let shown = Showing.row_of plan offsets (seen_of st) in
      let same = row_shown X plan offsets st (plan_fits U fine) (offsets_fit U fine) t b.1.released (omega (arith, in_time bytes U e)) in
      rw (sym same)
      (omega (
        arith,
        length-map (take shown.count shown.run) running_of,
        length-take shown.count shown.run,
        row_few plan offsets (seen_of st) (plan_fits U fine).processors_most,
      )))

  -- a row past the stop has as many lines as that of the matching instant
  few_past : (k : ℕ) → (stop X).how ≡ settled k → (t : ℕ) → (stop X).ticks ≤ t → length (row t) ≤ (Limits.processors).to
  unfolding Rules.far_row
  few_past k h t l =
      let u = (stop X).ticks in
      let there = Rules.matching (hyperperiod U) u t in
      let m = Rules.passed (hyperperiod U) u t in
      let same = row_past_stop U (ok bytes U e) k h t l in
      let less = (matching_in_round U (ok bytes U e) k h t).1 in
      rw same (omega (arith, length-map (row there) (Rules.moved_on (Rules.periods_in U) m), few_before there less))

  row_fits : (t : ℕ) → t ≤ (Limits.instant).to → length (row t) ≤ (Limits.processors).to → length (row_text (row t)) ≤ longest_row
  row_fits t near lines =
      let fine = ok bytes U e in
      let entries = row_entries X (whole X.servers) t (Limits.graphs).to (Limits.all_nodes).to
      (graphs_numbered (Limits.graphs).to (Limits.all_nodes).to 0 1 U.graphs (omega (arith, few U fine)) (omega (arith, room U fine))) in
      omega (arith, lines, row_short (row t) (small_row t near (row t) entries))

  said_fits : (t : ℕ) (s : List ℕ) → t ≤ (Limits.instant).to → length (row t) ≤ (Limits.processors).to → says (row_text (row t)) ≡ says s → length s ≤ longest_row
  said_fits t s near lines said = let is : row_text (row t) ≡ s = ap text_in said in rw (sym is) (row_fits t near lines)

  not_said : (s : List ℕ) → refuses PastTheStop ≡ says s → length s ≤ longest_row
  not_said s said = let z : ◌≡◌ {A = ℕ} 0 1 = cc in absurd (let x : ⊥ = omega arith in x)

  of_how : (t : ℕ) (s : List ℕ) (how : Stop) → (stop X).how ≡ how → t ≤ (Limits.instant).to → (stop X).ticks ≤ t → row_on X how (stop X).ticks t ≡ says s
      → length s ≤ longest_row
  unfolding row_on
  of_how t s (settled k) h near l r = said_fits t s near (few_past k h t l) (rw (has_settled k (stop X).ticks t near) at r)
  of_how t s unsettled h near l r = not_said s (rw (has_none_unsettled (stop X).ticks t near l) at r)
  of_how t s backlog h near l r = not_said s (rw (has_none_backlog (stop X).ticks t near l) at r)

  of_instant : (t : ℕ) (s : List ℕ) → row_of bytes t ≡ says s → length s ≤ longest_row
  unfolding row_on
  of_instant t s r =
      by_lt (Limits.instant).to t (λ l. not_said s (sym (above bytes U e t l) ∙ r))
      (λ near.
      by_lt t (stop X).ticks
      (λ l. said_fits t s near (few_before t l) (rw (has_before (stop X).how (stop X).ticks t near l) at (sym (rules_row bytes U e t) ∙ r)))
      (λ l. of_how t s (stop X).how refl near l (sym (rules_row bytes U e t) ∙ r)))

of_admission : (bytes : List ℕ) (t : ℕ) (s : List ℕ) (a : Admission) → admission_of bytes ≡ a → row_of bytes t ≡ says s → length s ≤ longest_row
of_admission bytes t s (admitted U) e r = of_instant bytes U e t s r
of_admission bytes t s (refused f) e r =
    let q : refuses f ≡ says s = sym (refused_row bytes t f e) ∙ r in
    let z : ◌≡◌ {A = ℕ} 0 1 = cc in
    absurd (let x : ⊥ = omega arith in x)

pub every_row_fits : (bytes : List ℕ) (t : ℕ) (s : List ℕ) → row_of bytes t ≡ says s → length s ≤ longest_row
every_row_fits bytes t s r = of_admission bytes t s (admission_of bytes) refl r

-- as include/phalandrix.h says
pub row_bytes : longest_row ≡ 384
row_bytes = refl
