-- The lengths that the arguments behind `batch` spell: how many they are, and the first of them, as many as the most tables of a call.
use Rattle.std.specs.Prelude.{Bool, true, false, cond, ℕ, ◌+◌, leb, ltb, set, replicate, Result, Ok, Err}
use Rattle.std.specs.List.{fold}
use mathlib.Core.List.{List}
use Rattle.schedule.specs.Limits as Limits
use Rattle.asking.specs.declared.faults.Fault.{Fault}
use Rattle.asking.specs.declared.faults.Fault.TheVariants.{Misspelled, Unread}
use Rattle.asking.specs.declared.lengths.Lengths.{Lengths}
use Rattle.asking.specs.Instants.{instant_of}

abbrev pub is_at : Result ℕ Fault → Bool
is_at (Ok v) = true
is_at (Err f) = false

-- an argument that is a number
abbrev pub is_number : List ℕ → Bool
is_number t = is_at (instant_of t)

-- the number that an argument spells, and 0 where it spells none
abbrev pub number_in : Result ℕ Fault → ℕ
number_in (Ok v) = v
number_in (Err f) = 0

abbrev pub no_lengths : Lengths
no_lengths = record { count = 0; misspelled = false; unread = false; list = replicate (Limits.tables).to 0 }

-- one more; one past the most tables of a call stands for all that are more
abbrev pub count_on : ℕ → ℕ
count_on n = cond (leb n (Limits.tables).to) (n + 1) n

-- the fault of one argument more: one that was not handed over is told before one that is misspelled
abbrev pub fault_on : Result (Unit {0}) Fault → Fault → Fault
fault_on (Ok u) f = f
fault_on (Err Misspelled) f = f
fault_on (Err Unread) f = Unread

-- whether all are numbers: where none was not handed over and none is misspelled
abbrev pub spelled : Lengths → Result (Unit {0}) Fault
spelled s = cond s.unread (Err Unread) (cond s.misspelled (Err Misspelled) (Ok tt))

-- with one argument more, and with all of a list
abbrev pub lengths_on : Lengths → Result ℕ Fault → Lengths
lengths_on s (Ok v) =
    let list : List ℕ = cond (ltb s.count (Limits.tables).to) (set s.list s.count v) s.list in
    record { count = count_on s.count; misspelled = s.misspelled; unread = s.unread; list = list }
lengths_on s (Err Misspelled) = record { count = count_on s.count; misspelled = true; unread = s.unread; list = s.list }
lengths_on s (Err Unread) = record { count = count_on s.count; misspelled = s.misspelled; unread = true; list = s.list }

abbrev pub lengths_by : Lengths → List (Result ℕ Fault) → Lengths
lengths_by = fold lengths_on
