-- The question that the arguments ask.
use Rattle.std.specs.Prelude.{◌≡◌, Bool, false, cond, List, [], ◌∷◌, map, ℕ, suc, eqb, leb, length, take, drop, get_or, Result, Ok, Err}
use Rattle.schedule.specs.Lists.{all?}
use Rattle.format.specs.Spelling.{Scan, read, wrong, text}
use Rattle.asking.specs.declared.faults.Fault.{Fault}
use Rattle.asking.specs.declared.faults.Fault.TheVariants.{Misspelled}
use Rattle.asking.specs.declared.questions.Question.TheVariants.{Report, Row, Rewrite, PlainReport, PlainRow}
use Rattle.asking.specs.declared.questions.Account.{Account}
use Rattle.asking.specs.declared.questions.Asked.{Asked}
use Rattle.asking.specs.declared.lengths.Lengths.{Lengths}
use Rattle.asking.specs.declared.rooms.Word.{Word}
use Rattle.asking.specs.Instants.{at_end, instant_of}
use Rattle.asking.specs.Lengths.{is_number, no_lengths, spelled, lengths_by}
pub use Rattle.asking.specs.Words.{row, batch, salvage, fixes, rewrite, plain, margin, longest_word}

module _ {A : Type 0} where
  abbrev pub wholly : Scan A → Bool
  wholly (read a rest) = at_end rest
  wholly (wrong rest) = false

-- s is the word w
abbrev pub is_word : List ℕ → List ℕ → Bool
is_word w s = wholly (text w s)

abbrev pub row_asked : Result ℕ Fault → Result Asked Fault
row_asked (Ok t) = Ok (Asked.Answer (Row t))
row_asked (Err f) = Err f

abbrev pub batch_asked_by : Result (Unit {0}) Fault → Result Asked Fault
batch_asked_by (Ok u) = Ok Asked.Batch
batch_asked_by (Err f) = Err f

abbrev pub batch_asked : Lengths → Result Asked Fault
batch_asked s = batch_asked_by (spelled s)

abbrev pub plain_asked : List ℕ → Result Asked Fault
plain_asked w = cond (is_word plain w) (Ok (Asked.Answer PlainReport)) (Err Misspelled)

abbrev pub plain_row_asked : Result ℕ Fault → Result Asked Fault
plain_row_asked (Ok t) = Ok (Asked.Answer (PlainRow t))
plain_row_asked (Err f) = Err f

-- by `plain`, `row` and an instant
abbrev pub plain_asked_by : List ℕ → List ℕ → Result ℕ Fault → Result Asked Fault
plain_asked_by w second later = cond (is_word plain w) (cond (is_word row second) (plain_row_asked later) (Err Misspelled)) (Err Misspelled)

abbrev pub rewrite_asked : List ℕ → Result Asked Fault
rewrite_asked w = cond (is_word rewrite w) (Ok (Asked.Answer Rewrite)) (plain_asked w)

-- by a word that stands alone: `salvage` asks for what is left of a text, `fixes` for the list of what was changed, `rewrite` for the table read
-- and written again, `plain` for the report by the plain engine
abbrev pub output_asked : List ℕ → Result Asked Fault
output_asked w = cond (is_word salvage w) (Ok Asked.Salvage) (cond (is_word fixes w) (Ok Asked.Fixes) (rewrite_asked w))

-- by a word that a file's name follows: `margin` asks for the margins against the limits in the file
abbrev pub file_asked : List ℕ → Result Asked Fault
file_asked w = cond (is_word margin w) (Ok Asked.Margin) (Err Misspelled)

-- of one text: a word that stands alone; `row` and an instant, the row at it; `margin` and a file; `plain row` and an instant, that row by the
-- plain engine
abbrev pub text_question : List ℕ → List (List ℕ) → Result Asked Fault
text_question w [] = output_asked w
text_question w (t ∷ []) = cond (is_word row w) (row_asked (instant_of t)) (file_asked w)
text_question w (t ∷ u ∷ []) = plain_asked_by w t (instant_of u)
text_question w (t ∷ u ∷ v ∷ rest) = Err Misspelled

-- what the arguments behind the program's own name ask: none, the report; `batch` and any number of lengths, several tables; else what is asked
-- of one text; all others nothing
abbrev pub question_of : List (List ℕ) → Result Asked Fault
question_of [] = Ok (Asked.Answer Report)
question_of (w ∷ ts) = cond (is_word batch w) (cond (all? is_number ts) (Ok Asked.Batch) (Err Misspelled)) (text_question w ts)

-- the bytes of a word in its room
abbrev pub word_in : Word → List ℕ
word_in w = take w.end w.room.now

-- the same by what the system tells of the arguments: how many there are, with the program's own name; the first one, and the instant that the
-- second spells; the second one, and the instant that the third spells; and the lengths that all from the second on spell
abbrev pub text_asked_by : ℕ → List ℕ → Result ℕ Fault → List ℕ → Result ℕ Fault → Result Asked Fault
text_asked_by count word instant second later =
    cond (eqb count 2) (output_asked word)
    (cond (eqb count 3) (cond (is_word row word) (row_asked instant) (file_asked word)) (cond (eqb count 4) (plain_asked_by word second later) (Err Misspelled)))

abbrev pub asked : Account → Result Asked Fault
asked told =
    cond (eqb told.count 1) (Ok (Asked.Answer Report))
    (cond (is_word batch (word_in told.word)) (batch_asked told.lengths)
    (text_asked_by told.count (word_in told.word) told.instant (word_in told.second) told.later))

-- an argument in a room of its own: nothing, where it does not fit
abbrev pub fitting : ℕ → List ℕ → List ℕ
fitting room s = cond (leb (length s) room) s []

-- what the system told is true of the arguments: the first two as far as their rooms go
pub record Told (arguments : List (List ℕ)) (told : Account) : Type 0 where
  pub counted : told.count ≡ suc (length arguments)
  pub word : word_in told.word ≡ fitting (length told.word.room.now) (get_or arguments 0 [])
  pub spelled : told.instant ≡ instant_of (get_or arguments 1 [])
  pub word_behind : word_in told.second ≡ fitting (length told.second.room.now) (get_or arguments 1 [])
  pub spelled_behind : told.later ≡ instant_of (get_or arguments 2 [])
  pub measured : told.lengths ≡ lengths_by no_lengths (map instant_of (drop 1 arguments))
