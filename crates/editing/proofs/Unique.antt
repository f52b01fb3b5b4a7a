-- The promises of these calls admit one result: the answer and every byte of the buffer; the table in memory and the refusal.
use mathlib.Core.Path.{◌≡◌, sym, ap, ◌∙◌}
use mathlib.Core.List.{List}
use Prim.Native.Nat.{ℕ}
use Rattle.std.proofs.Common.{Result}
use Rattle.format.specs.declared.Refusal.{Refusal}
use Rattle.format.specs.Reading.{read_of}
use Rattle.rules.specs.Answers.{Answer, Call, call_of}
use Rattle.writer.specs.Judging.{write_of}
use Rattle.memory.specs.declared.plain.PhalandrixTable.{PhalandrixTable}
use Rattle.memory.specs.Plain.{table_in}
use Rattle.editing.specs.Calls.{called}
use Rattle.editing.specs.Editing.{read_table, rewrite_of}

one_result : (call : Call) (a b : Answer) (s t : List ℕ) → called a s ≡ call → called b t ≡ call → (a ≡ b) × (s ≡ t)
one_result call a b s t e f =
    let same : called a s ≡ called b t = e ∙ sym f in
    (ap (λ (k : Call). k.answer) same, ap (λ (k : Call). k.buffer) same)

pub one_write : (table : PhalandrixTable) (buffer : List ℕ) (a b : Answer) (s t : List ℕ)
    → called a s ≡ call_of buffer (write_of (table_in table)) → called b t ≡ call_of buffer (write_of (table_in table)) → (a ≡ b) × (s ≡ t)
one_write table buffer = one_result (call_of buffer (write_of (table_in table)))

pub one_rewrite : (table buffer : List ℕ) (a b : Answer) (s t : List ℕ)
    → called a s ≡ call_of buffer (rewrite_of table) → called b t ≡ call_of buffer (rewrite_of table) → (a ≡ b) × (s ≡ t)
one_rewrite table buffer = one_result (call_of buffer (rewrite_of table))

pub one_read : (table : List ℕ) (a b : Result PhalandrixTable Refusal) → a ≡ read_table (read_of table) → b ≡ read_table (read_of table) → a ≡ b
one_read table a b e f = e ∙ sym f
