-- Worked cases of salvage: a text, what is left of it, and the list. They are computed in proofs/Cases.antt.
use Rattle.std.specs.Prelude.{List, [], ◌∷◌, ◌++◌, ℕ, ◌+◌, ◌-◌, length, replicate, Ok, Err}
use Prim.Native.String.{String}
use Rattle.schedule.specs.Limits as Limits
use Rattle.format.specs.Bytes.{bytes, line_feed}
use Rattle.format.specs.declared.Refusal.{Refusal}
use Rattle.format.specs.declared.Refusal.TheVariants.{TooLong, ShortBuffer}
use Rattle.salvaging.specs.Steps.{carriage_return}
use Rattle.salvaging.specs.Salvage.{SalvageCall}

pub record Mending : Type 0 where
  pub given : List ℕ
  pub text : List ℕ
  pub fixes : List ℕ

abbrev pub mends : String → String → String → Mending
mends s t f = record { given = bytes s; text = bytes t; fixes = bytes f }

abbrev pub unchanged : String → Mending
unchanged s = mends s s ""

abbrev pub most : ℕ
most = (Limits.table_bytes).to

abbrev pub letter_x : ℕ
letter_x = 120

unfoldable pub mendings : List Mending
mendings =
    -- nothing to mend
    unchanged ""
    ∷ unchanged "processors=1\nrounds=2\ngraphs=1\nperiod=4\noffset=0\nnodes=2\nbudget=1\nlevel=1\nafter=none\nbudget=1\nlevel=1\nafter=1\n"
    -- carriage returns, wherever they stand
    ∷ mends "\r" "" "fix=1,1\nfix=1,3\n"
    ∷ mends "\r\r\r" "" "fix=1,1\nfix=1,3\n"
    ∷ mends "a=1\r\nb=2\r\n" "a=1\nb=2\n" "fix=1,1\nfix=2,1\n"
    ∷ mends "\ra\r=\r\r1\n" "a=1\n" "fix=1,1\n"
    -- then the blanks at the end of a line; no other blanks, and no tab
    ∷ mends "a=1  \nb=2\n" "a=1\nb=2\n" "fix=1,2\n"
    ∷ mends "a=1 \r \n" "a=1\n" "fix=1,1\nfix=1,2\n"
    ∷ unchanged " a = 1\n"
    ∷ unchanged "a=1\t\n\t\n"
    ∷ mends "c\t \n" "c\t\n" "fix=1,2\n"
    -- then lines left with no byte
    ∷ mends "\n" "" "fix=1,3\n"
    ∷ mends "a=1\n\n\nb=2\n" "a=1\nb=2\n" "fix=2,3\nfix=3,3\n"
    ∷ mends "\r\n \na=1\n\n" "a=1\n" "fix=1,1\nfix=1,3\nfix=2,2\nfix=2,3\nfix=4,3\n"
    ∷ mends " \r\n" "" "fix=1,1\nfix=1,2\nfix=1,3\n"
    -- then zeros before another digit at the start of a run
    ∷ mends "a=007\n" "a=7\n" "fix=1,4\n"
    ∷ unchanged "a=0\n"
    ∷ mends "a=00\n" "a=0\n" "fix=1,4\n"
    ∷ unchanged "a=10\n"
    ∷ unchanged "a=100200\n"
    ∷ unchanged "a=90,0,10\n"
    ∷ mends "after=01,10,000\n" "after=1,10,0\n" "fix=1,4\n"
    ∷ mends "after=01,002\n" "after=1,2\n" "fix=1,4\n"
    ∷ mends "00x=000,0010,100,0a007=00\n" "00x=0,10,100,0a7=0\n" "fix=1,4\n"
    ∷ unchanged "007\n"
    ∷ unchanged "00=1\n"
    ∷ mends "a=1=01\n" "a=1=1\n" "fix=1,4\n"
    ∷ mends "a=09\nb=0/\nc=0:\n" "a=9\nb=0/\nc=0:\n" "fix=1,4\n"
    -- runs are those after the carriage returns are gone; a blank ends a run
    ∷ mends "a=0\r1\nb=0 1 2\nc\t \n" "a=1\nb=0 1 2\nc\t\n" "fix=1,1\nfix=1,4\nfix=3,2\n"
    ∷ mends "a=0 \n" "a=0\n" "fix=1,2\n"
    ∷ mends "a=0 01\n" "a=0 1\n" "fix=1,4\n"
    ∷ mends "a=01 \r\n" "a=1\n" "fix=1,1\nfix=1,2\nfix=1,4\n"
    -- and a missing last LF
    ∷ mends "a=1" "a=1\n" "fix=1,5\n"
    ∷ mends "a" "a\n" "fix=1,5\n"
    ∷ mends "a=1\n\nb=2" "a=1\nb=2\n" "fix=2,3\nfix=3,5\n"
    ∷ mends "a=1\n \r" "a=1\n" "fix=2,1\nfix=2,2\nfix=2,3\n"
    ∷ mends "a=1\n  " "a=1\n" "fix=2,2\nfix=2,3\n"
    ∷ mends "a=00 \r" "a=0\n" "fix=1,1\nfix=1,2\nfix=1,4\nfix=1,5\n"
    -- line numbers of two digits
    ∷ mends "\n\n\n\n\n\n\n\n\n\n" "" "fix=1,3\nfix=2,3\nfix=3,3\nfix=4,3\nfix=5,3\nfix=6,3\nfix=7,3\nfix=8,3\nfix=9,3\nfix=10,3\n"
    -- as many bytes as a table may have, before and after
    ∷ record { given = replicate (most - 1) letter_x ++ (carriage_return ∷ []); text = replicate (most - 1) letter_x ++ (line_feed ∷ []); fixes = bytes "fix=1,1\nfix=1,5\n" }
    ∷ []

-- refusal 1: one byte too many, left or given
unfoldable pub too_long : List (List ℕ)
too_long = replicate most letter_x ∷ replicate (most + 1) carriage_return ∷ []

-- calls with two lent buffers, whose bytes are all 255
pub record CallCase : Type 0 where
  pub given : List ℕ
  pub text_room : ℕ
  pub list_room : ℕ
  pub gives : SalvageCall

abbrev pub lent : ℕ → List ℕ
lent n = replicate n 255

-- the text and the list, and so many bytes of each buffer as they were
abbrev pub writes : String → String → ℕ → String → ℕ → CallCase
writes s t n f m =
    record {
      given = bytes s;
      text_room = length (bytes t ++ lent n);
      list_room = length (bytes f ++ lent m);
      gives = record { answer = Ok (record { text = length (bytes t); list = length (bytes f) }); text = bytes t ++ lent n; list = bytes f ++ lent m };
    }

-- a refusal, and both buffers as they were
abbrev pub leaves : List ℕ → ℕ → ℕ → Refusal → CallCase
leaves s n m r = record { given = s; text_room = n; list_room = m; gives = record { answer = Err r; text = lent n; list = lent m } }

unfoldable pub call_cases : List CallCase
call_cases =
    writes "" "" 0 "" 0
    ∷ writes "" "" 3 "" 2
    ∷ writes "a=01" "a=1\n" 0 "fix=1,4\nfix=1,5\n" 0
    ∷ writes "a=01" "a=1\n" 2 "fix=1,4\nfix=1,5\n" 3
    ∷ writes "a=1\n" "a=1\n" 2 "" 0
    ∷ writes "\r" "" 0 "fix=1,1\nfix=1,3\n" 1
    -- one output is too short: neither is written
    ∷ leaves (bytes "a=01") 3 16 ShortBuffer
    ∷ leaves (bytes "a=01") 4 15 ShortBuffer
    ∷ leaves (bytes "a=01") 3 15 ShortBuffer
    ∷ leaves (bytes "a=01") 0 0 ShortBuffer
    ∷ leaves (bytes "a=1\n") 3 0 ShortBuffer
    ∷ leaves (bytes "\r") 4 15 ShortBuffer
    -- 1 comes before 10
    ∷ leaves (replicate most letter_x) 0 0 TooLong
    ∷ leaves (replicate (most + 1) carriage_return) 0 0 TooLong
    ∷ []
