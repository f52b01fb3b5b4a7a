-- Rules of the key table, each at all of its entries by one test that antt computes.
use mathlib.Core.Path.{◌≡◌, refl}
use mathlib.Core.Bool.{Bool, true}
use mathlib.Core.List.{List, [], ◌∷◌}
use Prim.Native.Nat.{ℕ, zero, suc, ◌<◌, ◌≤◌}
use lib.Dec.{leb, ltb}
use lib.ListN.{length, get_or}
use borrow.Author.Tests.{leb-true, ltb-true}
use Rattle.format.specs.Keys.{Key, keys, no_key, key_at}
use Rattle.schedule.specs.Lists.{all?}
use Rattle.theorems.proofs.Formed.{first_of_lem, second_of}
use Rattle.scanning.specs.Positions.{far}

at_each : (f : Key → Bool) (l : List Key) (d : Key) → all? f l ≡ true → f d ≡ true → (k : ℕ) → f (get_or l k d) ≡ true
at_each f [] d e h k = h
at_each f (x ∷ xs) d e h zero = first_of_lem (f x) (all? f xs) e
at_each f (x ∷ xs) d e h (suc k) = at_each f xs d (second_of (f x) (all? f xs) e) h k

-- no name is longer than `processors`
pub name_fits : (k : ℕ) → length (key_at k).name ≤ 10
unfolding keys
name_fits k = leb-true _ _ (at_each (λ (K : Key). leb (length K.name) 10) keys no_key refl refl k)

-- no limit is as far as far
pub limit_near : (k : ℕ) → (key_at k).range.to < far
unfolding keys
limit_near k = ltb-true _ _ (at_each (λ (K : Key). ltb K.range.to far) keys no_key refl refl k)
