-- What goes over bytes one by one goes over them in any pieces.
use mathlib.Core.Path.{◌≡◌}
use mathlib.Core.List.{List, ◌++◌}
use Prim.Native.Nat.{ℕ}
use Rattle.std.proofs.lemmas.List.Sums.{fold-append}
use Rattle.asking.specs.declared.arguments.Passed.{Passed}
use Rattle.asking.specs.Arguments.{passed_on, passed_by}

-- piece after piece
pub in_pieces : (p : Passed) (s t : List ℕ) → passed_by p (s ++ t) ≡ passed_by (passed_by p s) t
in_pieces = fold-append passed_on
