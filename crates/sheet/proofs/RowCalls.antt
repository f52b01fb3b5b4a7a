-- What is answered of an engine's looks is what a row call promises of the bytes: the rules' row, and the rules' ticks walked.
use mathlib.Core.Path.{◌≡◌, sym, ap, ◌∙◌}
use mathlib.Core.List.{List}
use Prim.Native.Nat.{ℕ, ◌<◌, min}
use borrow.Author.Tests.{lt-ltb, le-ltb}
use Rattle.schedule.specs.Limits as Limits
use Rattle.schedule.specs.Table.{Table, hyperperiod}
use Rattle.schedule.specs.Servers.{Box, box_of}
use Rattle.schedule.specs.Walk.{walked}
use Rattle.std.specs.Prelude.{IfOk}
use Rattle.std.proofs.lemmas.Result.{IfOk-weaker}
use Rattle.rules.specs.Admission.{admitted, refused, admission_of}
use Rattle.rules.specs.Answers as Rules
use Rattle.rules.specs.Answers.{RowAnswer, answer_in, refuses, row_on, call_of}
use Rattle.format.specs.declared.Refusal.{Refusal}
use Rattle.format.specs.declared.Refusal.TheVariants.{PastTheStop}
use Rattle.schedule.proofs.Tests.{by_lt}
use Rattle.reading.specs.Memory.{memory_of}
use Rattle.looking.specs.declared.Look.{Look}
use Rattle.looking.specs.Looking.{reply_within, ticks_at}
use Rattle.looking.proofs.HasRow.{has_none_above}
use Rattle.looking.proofs.Looked.{stop, Looked}
use Rattle.looking.proofs.Rows.{row_same, ticks_same}
use Rattle.sheet.specs.Calls.{called}
use Rattle.sheet.specs.Rows.{RowAt}
use Rattle.sheet.proofs.Reports.{ok}

-- what a row call promises
abbrev pub Promised : List ℕ → ℕ → List ℕ → List ℕ → RowAnswer → Type 0
Promised bytes t before after x =
    (called (answer_in x) after ≡ call_of before (Rules.row_of bytes t)) × IfOk x (λ y. y.walked ≡ Rules.row_ticks_of bytes t)

module _ (bytes : List ℕ) (U : Table) (e : admission_of bytes ≡ admitted U) (t : ℕ) where
  abbrev X : Box
  X = box_of U

  pub rules_row : Rules.row_of bytes t ≡ row_on X (stop X).how (stop X).ticks t
  unfolding Rules.row_of walked
  rules_row = rw e

  rules_ticks : Rules.row_ticks_of bytes t ≡ min t (stop X).ticks
  unfolding Rules.row_ticks_of walked
  rules_ticks = rw e

  pub above : (Limits.instant).to < t → Rules.row_of bytes t ≡ refuses PastTheStop
  unfolding row_on
  above l = rw (rules_row, has_none_above (stop X).how (stop X).ticks t l)

  module _ (look : ℕ → Look) (sees : (u : ℕ) → Looked X u (look u)) where
    pub reply_same : reply_within look (memory_of U).graph (hyperperiod U) t ≡ Rules.row_of bytes t
    reply_same =
        by_lt (Limits.instant).to t (λ l. rw (lt-ltb (Limits.instant).to t l, above l))
        (λ l. rw (le-ltb (Limits.instant).to t l) (row_same U (ok bytes U e) look sees t l ∙ sym rules_row))

    pub told_same : ticks_at look (memory_of U).graph (hyperperiod U) t ≡ Rules.row_ticks_of bytes t
    told_same = ticks_same U (ok bytes U e) look sees t ∙ sym rules_ticks

    pub promised : (before after : List ℕ) (x : RowAnswer) → RowAt look (memory_of U).graph (hyperperiod U) t before after x
        → Promised bytes t before after x
    unfolding RowAt
    promised before after x s = (s.call ∙ ap (call_of before) reply_same, IfOk-weaker x _ _ (λ y e. e ∙ told_same) s.walked)

pub refused_row : (bytes : List ℕ) (instant : ℕ) (f : Refusal) → admission_of bytes ≡ refused f → Rules.row_of bytes instant ≡ refuses f
unfolding Rules.row_of
refused_row bytes instant f e = rw e
