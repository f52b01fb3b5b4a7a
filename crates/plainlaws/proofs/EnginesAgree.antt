-- Both engines give the same report or refusal for every byte string, and the same row or refusal at every instant: what their own walks in
-- memory answer, one compared with the other.
use mathlib.Core.Path.{◌≡◌, refl, sym, ◌∙◌}
use mathlib.Core.List.{List}
use Prim.Native.Nat.{ℕ}
use lib.ListN.{take}
use Rattle.schedule.specs.Table.{Table, hyperperiod}
use Rattle.rules.specs.Admission.{Admission, admitted, refused, admission_of}
use Rattle.rules.specs.Answers.{Reply, refuses, report_on}
use Rattle.reading.specs.Memory.{memory_of}
use Rattle.sheet.specs.Walks.{admitted_of}
use Rattle.looking.specs.declared.Look.{Look}
use Rattle.looking.specs.Looking.{reply_within, ticks_at}
use Rattle.sheet.specs.Figures.{figures_of}
use Rattle.sheet.specs.Walks as FirstWalks
use Rattle.sheet.specs.Rows as FirstRows
use Rattle.sheet.proofs.Reports as FirstReports
use Rattle.sheet.proofs.Reports.{never}
use Rattle.sheet.proofs.TableLooks as FirstLooks
use Rattle.sheet.proofs.RowCalls.{reply_same, told_same}
use Rattle.plainlaws.specs.Walks as PlainWalks
use Rattle.plainlaws.specs.Rows as PlainRows
use Rattle.plainlaws.proofs.Reports as PlainReports
use Rattle.plainlaws.proofs.TableLooks as PlainLooks

-- what each engine reports of bytes that were admitted or refused
abbrev first_report : Admission → Reply
first_report (refused f) = refuses f
first_report (admitted U) =
    report_on (FirstWalks.stop_of (FirstWalks.walk_of_table (admitted_of U) never).how) (FirstWalks.walk_of_table (admitted_of U) never).ticks
    (take (memory_of U).graphs (figures_of (memory_of U) (FirstWalks.walk_of_table (admitted_of U) never).state.worst))

abbrev plain_report : Admission → Reply
plain_report (refused f) = refuses f
plain_report (admitted U) =
    report_on (FirstWalks.stop_of (PlainWalks.walk_of_table (admitted_of U) never).how) (PlainWalks.walk_of_table (admitted_of U) never).ticks
    (take (memory_of U).graphs (figures_of (memory_of U) (PlainWalks.walk_of_table (admitted_of U) never).state.worst))

-- what each one's walk to an instant shows
abbrev first_look : Table → ℕ → Look
first_look U = FirstRows.look_of (FirstWalks.planned_of (admitted_of U))

abbrev plain_look : Table → ℕ → Look
plain_look U = PlainRows.look_of (admitted_of U)

-- and the row that is answered, with the ticks walked for it
abbrev row_by : (Table → ℕ → Look) → ℕ → Admission → Reply
row_by look instant (refused f) = refuses f
row_by look instant (admitted U) = reply_within (look U) (memory_of U).graph (hyperperiod U) instant

abbrev ticks_by : (Table → ℕ → Look) → ℕ → Admission → ℕ
ticks_by look instant (refused f) = 0
ticks_by look instant (admitted U) = ticks_at (look U) (memory_of U).graph (hyperperiod U) instant

pub record Agree (bytes : List ℕ) : Type 0 where
  pub report : first_report (admission_of bytes) ≡ plain_report (admission_of bytes)
  pub row : (instant : ℕ) → row_by first_look instant (admission_of bytes) ≡ row_by plain_look instant (admission_of bytes)
  pub walked : (instant : ℕ) → ticks_by first_look instant (admission_of bytes) ≡ ticks_by plain_look instant (admission_of bytes)

pub engines_agree : (bytes : List ℕ) → Agree bytes
engines_agree bytes = by (admission_of bytes) refl
  where
    by : (x : Admission) → admission_of bytes ≡ x → Agree bytes
    by (refused f) e = record { report = rw e; row = λ instant. rw e; walked = λ instant. rw e }
    by (admitted U) e =
        let fine = FirstReports.ok bytes U e in
        let brief = FirstReports.short bytes U e in
        let first = FirstLooks.table_looked U fine brief in
        let plain = PlainLooks.table_looked U fine brief in
        record {
          report = rw e (FirstReports.report_same bytes U e ∙ sym (PlainReports.report_same bytes U e));
          row = λ instant. rw e (reply_same bytes U e instant (first_look U) first ∙ sym (reply_same bytes U e instant (plain_look U) plain));
          walked = λ instant. rw e (told_same bytes U e instant (first_look U) first ∙ sym (told_same bytes U e instant (plain_look U) plain));
        }
