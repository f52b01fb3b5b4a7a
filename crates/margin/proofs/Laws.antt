-- What the call answers: of the table, of the limits, and where it gives margins.
use mathlib.Core.Path.{◌≡◌, refl, sym, ap, ◌∙◌}
use mathlib.Core.List.{List}
use Prim.Native.Nat.{ℕ}
use native.Mathlib.Omega.{arith}
use Rattle.format.specs.declared.Refusal.{Refusal}
use Rattle.std.specs.Prelude.{Err}
use Rattle.schedule.specs.Walk.{Stop, settled, unsettled, backlog}
use Rattle.rules.specs.AnswerNumbers.{answer_number}
use Rattle.rules.specs.Answers.{Call}
use Rattle.format.specs.Reading.{Outcome, refused}
use Rattle.margins.specs.Margins.{limits_of, Margin, of_table, on_limits, margin_on, margin_of}
use Rattle.margins.specs.Kept.{TrueMargins}
use Rattle.margins.proofs.TrueMargins.{answered_margins_are_true}
use Rattle.sheet.proofs.CallLaws.{refused_call}
use Rattle.margin.specs.declared.answering.MarginRefusal.TheVariants.{OfTable, OfLimits}
use Rattle.sheet.specs.Walks.{round_in}
use Rattle.margin.specs.Calls.{MarginAnswer, answer_in, Answers}

-- the same answer under another name
pub answers_named : {r : MarginAnswer} {s t : List ℕ} {m n : Margin} → m ≡ n → Answers r s t m → Answers r s t n
answers_named e w = rw e at w

-- a refusal of the table
pub of_table_lem : (buffer : List ℕ) (f : Refusal) → Answers (Err (OfTable f)) buffer buffer (of_table f)
of_table_lem buffer f = record { call = refused_call buffer f; text = refl }

-- a refusal of the limits
pub of_limits : (k t : ℕ) (fs buffer : List ℕ) (f : Refusal)
    → Answers (Err (OfLimits f)) buffer buffer (on_limits k t fs (refused f))
of_limits k t fs buffer f = record { call = refused_call buffer f; text = refl }

-- and as they are read
pub of_limits_read : (n : ℕ) (s : List ℕ) (k t : ℕ) (fs buffer : List ℕ) (f : Refusal) (r : MarginAnswer) → refused f ≡ limits_of n s → r ≡ Err (OfLimits f)
    → Answers r buffer buffer (on_limits k t fs (limits_of n s))
of_limits_read n s k t fs buffer f r e q = rw q (answers_named (ap (on_limits k t fs) e) (of_limits k t fs buffer f))

-- a walk that did not settle
pub unsettled_margin : (s : Stop) (t : ℕ) (fs : List ℕ) (x : Outcome (List ℕ)) (f : Refusal) → round_in s ≡ Err f → margin_on s t fs x ≡ of_table f
unsettled_margin (settled k) t fs x f e = let z : ◌≡◌ {A = ℕ} 0 1 = cc in absurd (let x : ⊥ = omega arith in x)
unsettled_margin unsettled t fs x f e = let same : Refusal.Unsettled ≡ f = cc in ap of_table same
unsettled_margin backlog t fs x f e = let same : Refusal.Backlog ≡ f = cc in ap of_table same

module _ (table limits before after : List ℕ) (r : MarginAnswer) (w : Answers r before after (margin_of table limits)) where
  pub true_margins : answer_number (answer_in r) ≡ 0 → TrueMargins table limits
  true_margins z = answered_margins_are_true table limits before (ap (λ (k : Call). answer_number k.answer) (sym w.call) ∙ z)
