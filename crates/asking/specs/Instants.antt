-- The instant that an argument spells: a number of any length, and nothing after it.
use Rattle.std.specs.Prelude.{Bool, true, false, cond, ℕ, ◌+◌, ◌*◌, eqb, Result, Ok, Err}
use Rattle.std.specs.List.{fold}
use mathlib.Core.List.{List, [], ◌∷◌}
use Rattle.format.specs.Bytes.{digit_zero, is_digit, value_of}
use Rattle.format.specs.Spelling.{Scan, read, wrong, number}
use Rattle.scanning.specs.Positions.{kept, capped}
use Rattle.asking.specs.declared.faults.Fault.{Fault}
use Rattle.asking.specs.declared.faults.Fault.TheVariants.{Misspelled}
use Rattle.asking.specs.declared.instants.Spelled.{Spelled}

abbrev pub at_end : List ℕ → Bool
at_end [] = true
at_end (c ∷ rest) = false

abbrev pub instant_by : Scan ℕ → Result ℕ Fault
instant_by (read v rest) = cond (at_end rest) (Ok v) (Err Misspelled)
instant_by (wrong rest) = Err Misspelled

-- what document 01's spelling of a number says of the whole argument
abbrev pub instant_of : List ℕ → Result ℕ Fault
instant_of s = instant_by (capped (number s))

-- the same byte by byte: what is spelled with one byte more, and with all bytes of a piece
abbrev pub spelled_on : Spelled → ℕ → Spelled
spelled_on Spelled.Nothing c = cond (is_digit c) (cond (eqb c digit_zero) Spelled.Zero (Spelled.Number (value_of c))) Spelled.Wrong
spelled_on Spelled.Zero c = Spelled.Wrong
spelled_on (Spelled.Number v) c = cond (is_digit c) (Spelled.Number (kept (v * 10 + value_of c))) Spelled.Wrong
spelled_on Spelled.Wrong c = Spelled.Wrong

abbrev pub spelled_by : Spelled → List ℕ → Spelled
spelled_by = fold spelled_on

abbrev pub instant_in : Spelled → Result ℕ Fault
instant_in Spelled.Nothing = Err Misspelled
instant_in Spelled.Zero = Ok 0
instant_in (Spelled.Number v) = Ok v
instant_in Spelled.Wrong = Err Misspelled
