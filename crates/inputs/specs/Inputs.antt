-- What a read leaves.
use Rattle.std.specs.Prelude.{cond, List, ℕ, zero, suc, ◌+◌, ◌≤◌, ◌<◌, ltb, min, length, get_or, Result, Ok, Err, Option, Some, None}
use Rattle.std.specs.declared.io.Error.{Error}
use Rattle.std.specs.declared.ops.ControlFlow.{ControlFlow}
use Rattle.std.specs.declared.ops.ControlFlow.TheVariants.{Continue, Break}
use Rattle.scanning.specs.Positions.{far}
use Rattle.inputs.specs.declared.reads.Lack.{Lack}
use Rattle.inputs.specs.declared.reads.Lack.TheVariants.{Wrong, Failed}

-- so many bytes: none is the end
abbrev pub counted : ℕ → Option ℕ
counted zero = None
counted (suc n) = Some (suc n)

-- a read into `size` bytes that returned an error has failed, and is not the end
abbrev pub after_read : Result ℕ Error → ℕ → Result (Option ℕ) Error
after_read (Err e) size = Err e
after_read (Ok k) size = Ok (counted (min k size))

-- a read that goes on has read a byte at least, and no more than `size`
abbrev pub Read : ℕ → Result (Option ℕ) Error → Type 0
Read size (Ok (Some n)) = (0 < n) × (n ≤ size)
Read size (Ok None) = Unit {0}
Read size (Err e) = Unit {0}

-- what a read behind `done` bytes makes of the input: at the end what is there, and after a failure none
abbrev pub input_after : ℕ → Result (Option ℕ) Error → Result (ControlFlow ℕ ℕ) Error
input_after done (Ok (Some n)) = Ok (Continue n)
input_after done (Ok None) = Ok (Break done)
input_after done (Err e) = Err e

abbrev pub Within : ℕ → Result ℕ Error → Type 0
Within room (Ok n) = n ≤ room
Within room (Err e) = Unit {0}

-- whether an input fills n bytes, and whether it has none
abbrev pub filled_by : Result ℕ Error → ℕ → Result (Unit {0}) Lack
filled_by (Ok m) n = cond (ltb m n) (Err Wrong) (Ok tt)
filled_by (Err e) n = Err (Failed e)

abbrev pub ended_by : Result ℕ Error → Result (Unit {0}) Lack
ended_by (Ok zero) = Ok tt
ended_by (Ok (suc n)) = Err Wrong
ended_by (Err e) = Err (Failed e)

-- behind `done` bytes: a byte more at least, and none past the room
abbrev pub Further : ℕ → ℕ → Result (ControlFlow ℕ ℕ) Error → Type 0
Further done room (Ok (Continue n)) = (0 < n) × (done + n ≤ room)
Further done room (Ok (Break all)) = all ≤ room
Further done room (Err e) = Unit {0}

-- a piece of an input
abbrev pub piece_bytes : ℕ
piece_bytes = 512

-- a table is taken whole only where its length is one: `far` stands for every length that is none
abbrev pub IsLength : ℕ → Result (Unit {0}) Lack → Type 0
IsLength bytes (Ok u) = bytes < far
IsLength bytes (Err e) = Unit {0}

-- and so of all of them
abbrev pub AreLengths : List ℕ → Result (Unit {0}) Lack → Type 0
AreLengths lengths (Ok u) = (i : ℕ) → i < length lengths → get_or lengths i 0 < far
AreLengths lengths (Err e) = Unit {0}
