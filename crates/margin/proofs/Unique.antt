-- The call's promise admits one result: the answer, the text that a refusal stands in, and every byte of the buffer.
use mathlib.Core.Path.{◌≡◌, sym, ap, ◌∙◌}
use mathlib.Core.List.{List}
use Prim.Native.Nat.{ℕ}
use Rattle.rules.specs.Answers.{Call}
use Rattle.margins.specs.Margins.{margin_of}
use Rattle.std.specs.Prelude.{Ok, Err}
use Rattle.margin.specs.declared.answering.MarginRefusal.TheVariants.{OfTable, OfLimits}
use Rattle.margin.specs.declared.exports.PhalandrixMargin.{PhalandrixMargin}
use Rattle.margin.specs.Calls.{MarginAnswer, answer_in, in_limits, Answers}
use Rattle.margin.specs.Exports.{Told}

-- the answer and its text are all that is told
one_answer : (a b : MarginAnswer) → answer_in a ≡ answer_in b → in_limits a ≡ in_limits b → a ≡ b
one_answer (Ok n) (Ok m) e i = cc
one_answer (Ok n) (Err (OfTable g)) e i = cc
one_answer (Ok n) (Err (OfLimits g)) e i = cc
one_answer (Err (OfTable f)) (Ok m) e i = cc
one_answer (Err (OfTable f)) (Err (OfTable g)) e i = cc
one_answer (Err (OfTable f)) (Err (OfLimits g)) e i = cc
one_answer (Err (OfLimits f)) (Ok m) e i = cc
one_answer (Err (OfLimits f)) (Err (OfTable g)) e i = cc
one_answer (Err (OfLimits f)) (Err (OfLimits g)) e i = cc

module _ (table limits buffer : List ℕ) where
  pub one_margin : (a b : MarginAnswer) (s t : List ℕ) → Answers a buffer s (margin_of table limits) → Answers b buffer t (margin_of table limits)
      → (a ≡ b) × (s ≡ t)
  one_margin a b s t v w =
      let same = v.call ∙ sym w.call in
      (one_answer a b (ap (λ (k : Call). k.answer) same) (v.text ∙ sym w.text), ap (λ (k : Call). k.buffer) same)

  pub one_told : (a b : PhalandrixMargin) (s t : List ℕ) → Told a buffer s (margin_of table limits) → Told b buffer t (margin_of table limits) → (a ≡ b) × (s ≡ t)
  one_told a b s t v w = (v.answer ∙ sym w.answer, v.bytes ∙ sym w.bytes)
