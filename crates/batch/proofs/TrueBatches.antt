-- What the promise of a call says further: demand 3 for each table whose answer is 0, and one result.
use mathlib.Core.Path.{◌≡◌, sym, ap, subst, ◌∙◌}
use mathlib.Core.Bool.{true, false}
use mathlib.Core.List.{List, [], ◌∷◌, ◌++◌, map}
use Prim.Native.Nat.{ℕ, zero, suc, ◌<◌, ◌≤◌}
use native.Mathlib.Omega.{arith}
use lib.Dec.{leb, eqb}
use lib.ListN.{length, take, drop, get_or}
use borrow.Author.Tests.{leb-true, eqb-true}
use Rattle.schedule.specs.Limits as Limits
use Rattle.schedule.specs.WellFormed.{within}
use Rattle.schedule.proofs.Tests.{and_l, and_r, T_true, true_T}
use Rattle.format.specs.declared.Refusal.TheVariants.{WrongLengths}
use Rattle.rules.specs.Answers.{report_of}
use Rattle.rules.specs.Demands.{TrueReport}
use Rattle.rules.specs.Batch.{total, add_up, parted, share_length, calls_by, answers_in, batch_by, batch_of}
use Rattle.rules.proofs.TrueReports.{an_answered_report_is_true}
use Rattle.sheet.specs.declared.exports.PhalandrixAnswer.{PhalandrixAnswer}
use Rattle.sheet.specs.Exports.{told_of}
use Rattle.batch.specs.declared.exports.PhalandrixBatch.{PhalandrixBatch}
use Rattle.batch.specs.Told.{no_answer, refused_batch, batch_told, Told, together, TrueReports}

module _ (size : ℕ) where
  -- an answer 0 to table i is that of its single report
  true_at : (ts : List (List ℕ)) (buffer : List ℕ) (more : List PhalandrixAnswer) (i : ℕ) → i < length (answers_in (calls_by report_of size ts buffer))
      → (get_or (map told_of (answers_in (calls_by report_of size ts buffer)) ++ more) i no_answer).number ≡ 0 → TrueReport (get_or ts i [])
  true_at [] buffer more i h z = absurd (omega arith)
  true_at (t ∷ ts) buffer more zero h z = an_answered_report_is_true t (take size buffer) z
  true_at (t ∷ ts) buffer more (suc i) h z = true_at ts (drop size buffer) more i (omega arith) z

module _ (tables lengths before : List ℕ) (r : PhalandrixBatch) (after : List ℕ) where
  pub told_together : add_up tables lengths ≡ true → Told r after (together tables lengths before) → Told r after (batch_of tables lengths before)
  unfolding batch_of batch_by
  told_together e t = rw e t

  pub told_refused : add_up tables lengths ≡ false → r ≡ refused_batch WrongLengths → after ≡ before → Told r after (batch_of tables lengths before)
  unfolding batch_of batch_by
  told_refused e f g = rw e (record { answer = f; bytes = g })

  pub true_together : Told r after (together tables lengths before) → TrueReports r tables lengths
  true_together t i h z =
      let n : i < (batch_told (together tables lengths before).answered).count = subst (λ (x : PhalandrixBatch). i < x.count) t.answer h in
      let e = ap (λ (x : PhalandrixBatch). (get_or x.answers i no_answer).number) (sym t.answer) ∙ z in
      true_at (share_length lengths before) (parted tables lengths) before _ i n e

  pub true_refused : r ≡ refused_batch WrongLengths → TrueReports r tables lengths
  true_refused e i h z = absurd (let n : i < 0 = subst (λ (x : PhalandrixBatch). i < x.count) e h in omega arith)

-- what passes the test
pub add_up_says : (tables lengths : List ℕ) → add_up tables lengths ≡ true
    → ((1 ≤ length lengths) × (length lengths ≤ (Limits.tables).to)) × (total lengths ≡ length tables)
unfolding add_up
add_up_says tables lengths e =
    let n : ℕ = length lengths in
    let most : ℕ = (Limits.tables).to in
    let t = true_T (add_up tables lengths) e in
    let w = and_l (within Limits.tables (length lengths)) (eqb (total lengths) (length tables)) t in (
      (leb-true 1 n (T_true (and_l (leb 1 n) (leb n most) w)), leb-true n most (T_true (and_r (leb 1 n) (leb n most) w))),
      eqb-true (total lengths) (length tables) (T_true (and_r (within Limits.tables (length lengths)) (eqb (total lengths) (length tables)) t)),
    )

-- two results that the promise admits, for the same bytes, lengths and buffer, are one
pub one_batch : (tables lengths buffer : List ℕ) (a b : PhalandrixBatch) (s t : List ℕ)
    → Told a s (batch_of tables lengths buffer) → Told b t (batch_of tables lengths buffer) → (a ≡ b) × (s ≡ t)
one_batch tables lengths buffer a b s t e f = (e.answer ∙ sym f.answer, e.bytes ∙ sym f.bytes)
