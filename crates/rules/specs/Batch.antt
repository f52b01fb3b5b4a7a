-- Several tables in one call (document 02, R-1): the tables end to end with a list of their lengths, and a lent buffer that is cut into equal
-- shares, one for each.
use Rattle.std.specs.Prelude.{Bool, ◌&&◌, cond, List, [], ◌∷◌, ◌++◌, map, ℕ, zero, suc, ◌*◌, ◌/◌, eqb, length, take, drop, get_or}
use Rattle.schedule.specs.Limits as Limits
use Rattle.schedule.specs.Lists.{sum}
use Rattle.schedule.specs.WellFormed.{within}
use Rattle.format.specs.declared.Refusal.{Refusal}
use Rattle.format.specs.declared.Refusal.TheVariants.{WrongLengths}
use Rattle.rules.specs.Answers.{Answer, Reply, answer_line, printed, report_of, Call, call_of}
use Rattle.rules.specs.Answers as Answers

-- what is answered: one answer for each table, or a refusal of all
pub data Answered : Type 0 where
  answers : List Answer → Answered
  refuses : Refusal → Answered

pub record Batch : Type 0 where
  pub answered : Answered
  pub buffer : List ℕ

-- the lengths add up as numbers, which do not wrap
abbrev pub total : List ℕ → ℕ
total lengths = sum (λ (l : ℕ). l) lengths

-- 1 to 16 tables, whose lengths add up to the bytes
unfoldable pub add_up : List ℕ → List ℕ → Bool
add_up tables lengths = within Limits.tables (length lengths) && eqb (total lengths) (length tables)

-- the tables, one after another
abbrev pub parted : List ℕ → List ℕ → List (List ℕ)
parted tables [] = []
parted tables (l ∷ ls) = take l tables ∷ parted (drop l tables) ls

-- how long a share is: the buffer's length by the count, rounded down
abbrev pub share_length : List ℕ → List ℕ → ℕ
share_length lengths buffer = length buffer / length lengths

-- each table's call with its share of `size` bytes; the next share begins where this one ends
module _ (reply : List ℕ → Reply) (size : ℕ) where
  abbrev pub calls_by : List (List ℕ) → List ℕ → List Call
  calls_by [] buffer = []
  calls_by (t ∷ ts) buffer = call_of (take size buffer) (reply t) ∷ calls_by ts (drop size buffer)

abbrev pub answers_in : List Call → List Answer
answers_in calls = map (λ (c : Call). c.answer) calls

-- the shares as the calls leave them, end to end
abbrev pub shares_in : List Call → List ℕ
shares_in [] = []
shares_in (c ∷ cs) = c.buffer ++ shares_in cs

-- the remainder behind the last share is unchanged
abbrev pub joined : ℕ → List Call → List ℕ → Batch
joined size calls buffer =
    record { answered = answers (answers_in calls); buffer = shares_in calls ++ drop (length calls * size) buffer }

-- by the reply to a table: refusal 11 before all others, and nothing is then written
unfoldable pub batch_by : (List ℕ → Reply) → List ℕ → List ℕ → List ℕ → Batch
batch_by reply tables lengths buffer =
    let size : ℕ = share_length lengths buffer in
    let all : Batch = joined size (calls_by reply size (parted tables lengths) buffer) buffer in
    cond (add_up tables lengths) all (record { answered = refuses WrongLengths; buffer = buffer })

-- each result and share are what the single report call gives for that table and share
unfoldable pub batch_of : List ℕ → List ℕ → List ℕ → Batch
batch_of = batch_by report_of

-- of the first tables: for each a line `table=` with its number, from 1, then what the program prints for that table alone
module _ (reply : List ℕ → Reply) (table : ℕ → List ℕ) where
  abbrev pub printed_of : ℕ → List ℕ
  printed_of zero = []
  printed_of (suc n) = printed_of n ++ (answer_line "table" (suc n) ++ printed (reply (table n)))

-- table i of those that stand end to end
abbrev pub table_at : List ℕ → List ℕ → ℕ → List ℕ
table_at tables lengths i = get_or (parted tables lengths) i []

-- what the program prints for several tables: refusal 11 alone, or all of them
unfoldable pub batch_printed_by : (List ℕ → Reply) → List ℕ → List ℕ → List ℕ
batch_printed_by reply tables lengths =
    let all : List ℕ = printed_of reply (table_at tables lengths) (length lengths) in
    cond (add_up tables lengths) all (printed (Answers.refuses WrongLengths))

unfoldable pub batch_printed : List ℕ → List ℕ → List ℕ
batch_printed = batch_printed_by report_of
