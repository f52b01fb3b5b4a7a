-- From a call's answer to what C is told of it.
use mathlib.Core.Path.{◌≡◌, refl, sym, ap, ◌∙◌}
use mathlib.Core.List.{List}
use Prim.Native.Nat.{ℕ}
use Rattle.std.specs.Prelude.{Ok, Err, IfOk}
use Rattle.rules.specs.AnswerNumbers.{answer_number}
use Rattle.rules.specs.Answers.{Answer, RowAnswer, answer_in, Call, ticks_told}
use Rattle.sheet.specs.declared.exports.PhalandrixAnswer.{PhalandrixAnswer}
use Rattle.sheet.specs.declared.exports.PhalandrixRowAnswer.{PhalandrixRowAnswer}
use Rattle.sheet.specs.Calls.{called}
use Rattle.sheet.specs.Exports.{told_of, Told, told_row, told_row_of, ToldRow}

module _ (a : Answer) (r : PhalandrixAnswer) (is-told : r ≡ told_of a) where
  pub told_call : (buffer : List ℕ) (call : Call) → called a buffer ≡ call → Told r buffer call
  told_call buffer call e =
      record { answer = is-told ∙ ap (λ (k : Call). told_of k.answer) e; bytes = ap (λ (k : Call). k.buffer) e }

  pub answered : r.number ≡ 0 → answer_number a ≡ 0
  answered z = ap (λ (x : PhalandrixAnswer). x.number) (sym is-told) ∙ z

-- and of a row call's
told_ticks : (x : RowAnswer) (ticks : ℕ) → IfOk x (λ y. y.walked ≡ ticks) → told_row_of x ≡ told_row (answer_in x) (ticks_told (answer_in x) ticks)
told_ticks (Ok y) ticks w = ap (told_row (Ok y.length)) w
told_ticks (Err f) ticks w = refl

pub told_row_call : (x : RowAnswer) (r : PhalandrixRowAnswer) → r ≡ told_row_of x → (buffer : List ℕ) (call : Call) (ticks : ℕ)
    → called (answer_in x) buffer ≡ call → IfOk x (λ y. y.walked ≡ ticks) → ToldRow r buffer call ticks
told_row_call x r is-told buffer call ticks e w =
    record {
      answer = is-told ∙ told_ticks x ticks w ∙ ap (λ (k : Call). told_row k.answer (ticks_told k.answer ticks)) e;
      bytes = ap (λ (k : Call). k.buffer) e;
    }
