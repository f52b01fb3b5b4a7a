-- Worked cases of several tables in one call. They are computed in proofs/BatchCases.antt.
use Rattle.std.specs.Prelude.{List, [], ◌∷◌, ◌++◌, map, ℕ, suc, ◌+◌, ◌-◌, length, replicate, Ok, Err}
use Prim.Native.String.{String}
use Rattle.schedule.specs.Lists.{numbers}
use Rattle.format.specs.declared.Refusal.TheVariants.{TooLong, Misspelled, NotLoadable, ShortBuffer, WrongLengths}
use Rattle.format.specs.Bytes.{bytes, line_feed}
use Rattle.rules.specs.Answers.{Answer}
use Rattle.rules.specs.Batch.{Batch, answers, refuses}
use Rattle.rules.specs.Cases.{node_1_every_4, chain_3_2, two_graphs_lem}

-- n bytes of the lent buffer from place i on, as they were: no two are the same, and none is a byte of a text
abbrev pub was : ℕ → ℕ → List ℕ
was i n = numbers (1000 + i) n

pub record BatchCase : Type 0 where
  pub tables : List ℕ
  pub lengths : List ℕ
  pub room : ℕ
  pub gives : Batch

-- A and B answer with 36 bytes, C with 47
abbrev pub A : List ℕ
A = bytes node_1_every_4

abbrev pub B : List ℕ
B = bytes "processors=1\nrounds=2\ngraphs=1\nperiod=4\noffset=0\nnodes=2\nbudget=1\nlevel=1\nafter=none\nbudget=1\nlevel=1\nafter=1\n"

abbrev pub C : List ℕ
C = bytes two_graphs_lem

abbrev pub says_a : List ℕ
says_a = bytes "answer=0\nround=1\nticks=4\nresponse=1\n"

abbrev pub says_b : List ℕ
says_b = bytes "answer=0\nround=2\nticks=8\nresponse=6\n"

abbrev pub flat : List (List ℕ) → List ℕ
flat [] = []
flat (x ∷ xs) = x ++ flat xs

abbrev pub texts : ℕ → List (List ℕ)
texts n = replicate n A

-- tables with their own lengths: the answers, and the buffer as it is left
abbrev pub batch : List (List ℕ) → List Answer → List ℕ → BatchCase
batch ts given buffer =
    record { tables = flat ts; lengths = map length ts; room = length buffer; gives = record { answered = answers given; buffer = buffer } }

-- bytes with lengths of any kind, refused as 11 with nothing written
abbrev pub against : List ℕ → List ℕ → ℕ → BatchCase
against s lengths n = record { tables = s; lengths = lengths; room = n; gives = record { answered = refuses WrongLengths; buffer = was 0 n } }

-- 2^64 - 1
abbrev pub most_length : ℕ
most_length = 18446744073709551615

unfoldable pub batch_cases : List BatchCase
batch_cases =
    -- shares of 37 and 37: the second text begins at 37; the last byte is the remainder
    batch (A ∷ B ∷ []) (Ok 36 ∷ Ok 36 ∷ []) (says_a ++ (was 36 1 ++ (says_b ++ was 73 2)))
    -- texts that just fit their shares, and shares that are one byte short: the odd byte belongs to none
    ∷ batch (A ∷ B ∷ []) (Ok 36 ∷ Ok 36 ∷ []) (says_a ++ (says_b ++ was 72 1))
    ∷ batch (A ∷ B ∷ []) (Err ShortBuffer ∷ Err ShortBuffer ∷ []) (was 0 71)
    -- one legal and one refused, in either order: 2 × 40 + 1 bytes
    ∷ batch (A ∷ bytes chain_3_2 ∷ []) (Ok 36 ∷ Err NotLoadable ∷ []) (says_a ++ was 36 45)
    ∷ batch (bytes chain_3_2 ∷ A ∷ []) (Err NotLoadable ∷ Ok 36 ∷ []) (was 0 40 ++ (says_a ++ was 76 5))
    -- a share too short for one table alone
    ∷ batch (C ∷ A ∷ []) (Err ShortBuffer ∷ Ok 36 ∷ []) (was 0 40 ++ (says_a ++ was 76 5))
    -- a length of 0 is an empty table
    ∷ batch (A ∷ [] ∷ B ∷ []) (Ok 36 ∷ Err (Misspelled 1 1) ∷ Ok 36 ∷ []) (says_a ++ (was 36 36 ++ (says_b ++ was 108 2)))
    -- lengths are taken as given: the second table's lines follow the last line of the first
    ∷ batch ((A ++ B) ∷ [] ∷ []) (Err (Misspelled 10 1) ∷ Err (Misspelled 1 1) ∷ []) (was 0 80)
    -- the limit of 4,096 bytes is that of one table
    ∷ batch (replicate 4097 line_feed ∷ A ∷ []) (Err TooLong ∷ Ok 36 ∷ []) (was 0 36 ++ says_a)
    -- one table is the single call; 16 are the most. Of a share of 0 bytes a table's own refusal comes before 10
    ∷ batch (A ∷ []) (Ok 36 ∷ []) (says_a ++ was 36 3)
    ∷ batch (texts 15 ++ ([] ∷ [])) (replicate 15 (Err ShortBuffer) ++ (Err (Misspelled 1 1) ∷ [])) (was 0 15)
    -- none and 17; one short, one over; a sum that wraps at 64 bits to the right one
    ∷ against [] [] 9
    ∷ against (flat (texts 17)) (replicate 17 (length A)) 9
    ∷ against A ((length A - 1) ∷ []) 9
    ∷ against A (suc (length A) ∷ []) 9
    ∷ against A (suc (length A) ∷ most_length ∷ []) 100
    -- and before every other refusal
    ∷ against (bytes chain_3_2) (0 ∷ []) 0
    ∷ []

-- what the program prints for them
pub record PrintedCase : Type 0 where
  pub tables : List ℕ
  pub lengths : List ℕ
  pub prints : List ℕ

abbrev pub printing : List (List ℕ) → List ℕ → PrintedCase
printing ts text = record { tables = flat ts; lengths = map length ts; prints = text }

unfoldable pub printed_cases : List PrintedCase
printed_cases =
    printing (A ∷ bytes chain_3_2 ∷ [] ∷ B ∷ [])
    (bytes "table=1\n"
    ++ (says_a ++ (bytes "table=2\nanswer=6\nline=0\ncolumn=0\ntable=3\nanswer=2\nline=1\ncolumn=1\ntable=4\n" ++ says_b)))
    ∷ printing (A ∷ []) (bytes "table=1\n" ++ says_a)
    ∷ record { tables = A; lengths = []; prints = bytes "answer=11\nline=0\ncolumn=0\n" }
    ∷ record { tables = A; lengths = length A ∷ 1 ∷ []; prints = bytes "answer=11\nline=0\ncolumn=0\n" }
    ∷ []
