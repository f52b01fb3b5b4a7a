-- The command line, and the instant that one of its arguments spells, read byte by byte.
use Rattle.std.specs.Prelude.{Bool, not, cond, ℕ, zero, suc, eqb, Result, Err}
use Rattle.std.specs.List.{fold}
use mathlib.Core.List.{List, [], ◌∷◌, ◌++◌}
use Rattle.schedule.specs.Lists.{all?}
use Rattle.asking.specs.declared.faults.Fault.{Fault}
use Rattle.asking.specs.declared.faults.Fault.TheVariants.{Unread}
use Rattle.asking.specs.declared.instants.Spelled.{Spelled}
use Rattle.asking.specs.declared.instants.Spelled.TheVariants.{Nothing}
use Rattle.asking.specs.declared.arguments.Passed.{Passed}
use Rattle.asking.specs.declared.arguments.Passed.TheVariants.{Before, Within, After}
use Rattle.asking.specs.Instants.{spelled_on, instant_in}

-- the arguments end to end, each ended by a zero byte; no argument has one within
abbrev pub command_line : List (List ℕ) → List ℕ
command_line [] = []
command_line (a ∷ rest) = a ++ (0 ∷ command_line rest)

abbrev pub unbroken : List ℕ → Bool
unbroken = all? (λ (c : ℕ). not (eqb c 0))

abbrev pub within_on : Spelled → ℕ → Passed
within_on s c = cond (eqb c 0) (After s) (Within (spelled_on s c))

abbrev pub before_on : ℕ → ℕ → Passed
before_on zero c = within_on Nothing c
before_on (suc n) c = cond (eqb c 0) (Before n) (Before (suc n))

-- one byte more, and all bytes of a piece
abbrev pub passed_on : Passed → ℕ → Passed
passed_on (Before n) c = before_on n c
passed_on (Within s) c = within_on s c
passed_on (After s) c = After s

abbrev pub passed_by : Passed → List ℕ → Passed
passed_by = fold passed_on

abbrev pub instant_told : Passed → Result ℕ Fault
instant_told (Before n) = Err Unread
instant_told (Within s) = Err Unread
instant_told (After s) = instant_in s
