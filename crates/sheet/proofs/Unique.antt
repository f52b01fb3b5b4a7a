-- A public call's promise admits one result: the answer and every byte of the buffer.
use mathlib.Core.Path.{◌≡◌, sym, ap, ◌∙◌}
use mathlib.Core.List.{List}
use Prim.Native.Nat.{ℕ}
use native.Mathlib.Omega.{arith}
use Rattle.rules.specs.declared.RowText.{RowText}
use Rattle.std.specs.Prelude.{Ok, Err, IfOk}
use Rattle.rules.specs.Answers.{Answer, RowAnswer, answer_in, Call, report_of, row_of, row_ticks_of, call_of}
use Rattle.sheet.specs.declared.exports.PhalandrixAnswer.{PhalandrixAnswer}
use Rattle.sheet.specs.declared.exports.PhalandrixRowAnswer.{PhalandrixRowAnswer}
use Rattle.sheet.specs.Calls.{called}
use Rattle.sheet.specs.Exports.{Told, ToldRow}
use Rattle.sheet.proofs.RowCalls.{Promised}

module _ (call : Call) where
  pub one_result : (a b : Answer) (s t : List ℕ) → called a s ≡ call → called b t ≡ call → (a ≡ b) × (s ≡ t)
  one_result a b s t e f =
      let same : called a s ≡ called b t = e ∙ sym f in
      (ap (λ (k : Call). k.answer) same, ap (λ (k : Call). k.buffer) same)

  pub one_told : (a b : PhalandrixAnswer) (s t : List ℕ) → Told a s call → Told b t call → (a ≡ b) × (s ≡ t)
  one_told a b s t e f = (e.answer ∙ sym f.answer, e.bytes ∙ sym f.bytes)

-- two results of `report` for the same bytes and the same buffer
pub one_report : (table buffer : List ℕ) (a b : Answer) (s t : List ℕ)
    → called a s ≡ call_of buffer (report_of table) → called b t ≡ call_of buffer (report_of table) → (a ≡ b) × (s ≡ t)
one_report table buffer = one_result (call_of buffer (report_of table))

-- the length and the ticks are all that is told of a row
one_answer : (a b : RowAnswer) (ticks : ℕ) → answer_in a ≡ answer_in b → IfOk a (λ x. x.walked ≡ ticks) → IfOk b (λ x. x.walked ≡ ticks) → a ≡ b
one_answer (Ok x) (Ok y) ticks e v w =
    let long : x.length ≡ y.length = cc in
    let same : ◌≡◌ {A = RowText} (record { length = x.length; walked = x.walked }) (record { length = y.length; walked = y.walked }) = rw (long, v, w) in
    ap Ok same
one_answer (Ok x) (Err g) ticks e v w = let z : ◌≡◌ {A = ℕ} 0 1 = cc in absurd (let x : ⊥ = omega arith in x)
one_answer (Err f) (Ok y) ticks e v w = let z : ◌≡◌ {A = ℕ} 0 1 = cc in absurd (let x : ⊥ = omega arith in x)
one_answer (Err f) (Err g) ticks e v w = let same : f ≡ g = cc in ap Err same

-- and of `row`, at the same instant
pub one_row : (table : List ℕ) (instant : ℕ) (buffer : List ℕ) (a b : RowAnswer) (s t : List ℕ) → Promised table instant buffer s a
    → Promised table instant buffer t b → (a ≡ b) × (s ≡ t)
one_row table instant buffer a b s t (e, v) (f, w) =
    let (answer, bytes) = one_result (call_of buffer (row_of table instant)) (answer_in a) (answer_in b) s t e f in
    (one_answer a b (row_ticks_of table instant) answer v w, bytes)

-- and for C
pub one_told_row : (call : Call) (ticks : ℕ) (a b : PhalandrixRowAnswer) (s t : List ℕ) → ToldRow a s call ticks → ToldRow b t call ticks → (a ≡ b) × (s ≡ t)
one_told_row call ticks a b s t e f = (e.answer ∙ sym f.answer, e.bytes ∙ sym f.bytes)
