-- What the call tells of several tables, and what it leaves in the buffer.
use Rattle.std.specs.Prelude.{◌≡◌, List, [], ◌++◌, map, ℕ, ◌-◌, ◌<◌, length, get_or, replicate}
use Rattle.schedule.specs.Limits as Limits
use Rattle.format.specs.declared.Refusal.{Refusal}
use Rattle.format.specs.Refusals.{number_of, line_of, column_of}
use Rattle.rules.specs.Answers.{report_of}
use Rattle.rules.specs.Demands.{TrueReport}
use Rattle.rules.specs.Batch.{Answered, answers, refuses, Batch, parted, share_length, calls_by, joined}
use Rattle.sheet.specs.declared.exports.PhalandrixAnswer.{PhalandrixAnswer}
use Rattle.sheet.specs.Exports.{told_of}
use Rattle.batch.specs.declared.exports.PhalandrixBatch.{PhalandrixBatch}

-- what stands past the last answer
abbrev pub no_answer : PhalandrixAnswer
no_answer = record { number = 0; line = 0; column = 0; length = 0 }

-- as many as the most tables of a call
abbrev pub filled_up : List PhalandrixAnswer → List PhalandrixAnswer
filled_up xs = xs ++ replicate ((Limits.tables).to - length xs) no_answer

abbrev pub refused_batch : Refusal → PhalandrixBatch
refused_batch r = record { number = number_of r; line = line_of r; column = column_of r; count = 0; answers = filled_up [] }

-- the documents' numbers, lines, columns and lengths for every case of what is answered
abbrev pub batch_told : Answered → PhalandrixBatch
batch_told (answers xs) = record { number = 0; line = 0; column = 0; count = length xs; answers = filled_up (map told_of xs) }
batch_told (refuses r) = refused_batch r

pub record Told (r : PhalandrixBatch) (buffer : List ℕ) (batch : Batch) : Type 0 where
  pub answer : r ≡ batch_told batch.answered
  pub bytes : buffer ≡ batch.buffer

-- the answers to tables whose lengths add up
abbrev pub together : List ℕ → List ℕ → List ℕ → Batch
together tables lengths buffer =
    joined (share_length lengths buffer) (calls_by report_of (share_length lengths buffer) (parted tables lengths) buffer) buffer

-- demand 3, for each table whose answer is 0
abbrev pub TrueReports : PhalandrixBatch → List ℕ → List ℕ → Type 0
TrueReports r tables lengths =
    (i : ℕ) → i < r.count → (get_or r.answers i no_answer).number ≡ 0 → TrueReport (get_or (parted tables lengths) i [])
