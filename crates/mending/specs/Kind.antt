-- The kinds of change by their numbers in the list.
use Rattle.std.specs.Prelude.{ℕ}
use Rattle.mending.specs.declared.fixes.Kind.{Kind}
use Rattle.mending.specs.declared.fixes.Kind.TheVariants.{Returns, Blanks, Empty, Zeros, Unended}

abbrev pub number_of : Kind → ℕ
number_of Returns = 1
number_of Blanks = 2
number_of Empty = 3
number_of Zeros = 4
number_of Unended = 5
