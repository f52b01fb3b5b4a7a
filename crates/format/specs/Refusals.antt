-- The refusals: the number, line and column that documents 01 and 02 give, for every case of the enum. A column is counted in bytes from 1
-- in its line.
use Rattle.std.specs.Prelude.{ℕ}
use Rattle.format.specs.declared.Refusal.{Refusal}
use Rattle.format.specs.declared.Refusal.TheVariants.{TooLong, Misspelled, OutsideLimits, AgainstPredecessorRules, LongHyperperiod, NotLoadable, Backlog, Unsettled, PastTheStop, ShortBuffer, WrongLengths, CannotKeepUp}

abbrev pub number_of : Refusal → ℕ
number_of TooLong = 1
number_of (Misspelled l c) = 2
number_of (OutsideLimits l c) = 3
number_of (AgainstPredecessorRules l c) = 4
number_of LongHyperperiod = 5
number_of NotLoadable = 6
number_of Backlog = 7
number_of Unsettled = 8
number_of PastTheStop = 9
number_of ShortBuffer = 10
number_of WrongLengths = 11
number_of CannotKeepUp = 12

abbrev pub line_of : Refusal → ℕ
line_of TooLong = 0
line_of (Misspelled l c) = l
line_of (OutsideLimits l c) = l
line_of (AgainstPredecessorRules l c) = l
line_of LongHyperperiod = 0
line_of NotLoadable = 0
line_of Backlog = 0
line_of Unsettled = 0
line_of PastTheStop = 0
line_of ShortBuffer = 0
line_of WrongLengths = 0
line_of CannotKeepUp = 0

abbrev pub column_of : Refusal → ℕ
column_of TooLong = 0
column_of (Misspelled l c) = c
column_of (OutsideLimits l c) = c
column_of (AgainstPredecessorRules l c) = c
column_of LongHyperperiod = 0
column_of NotLoadable = 0
column_of Backlog = 0
column_of Unsettled = 0
column_of PastTheStop = 0
column_of ShortBuffer = 0
column_of WrongLengths = 0
column_of CannotKeepUp = 0
