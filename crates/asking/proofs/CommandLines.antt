-- The instant out of the command line is the one that the argument spells, for every argument of every command line.
use mathlib.Core.Path.{◌≡◌, refl, ap, ◌∙◌}
use mathlib.Core.Bool.{Bool, true, false, not}
use mathlib.Core.List.{List, [], ◌∷◌, ◌++◌}
use Prim.Native.Nat.{ℕ, zero, suc, ◌<◌}
use native.Mathlib.Omega.{arith}
use lib.Dec.{T, eqb}
use lib.ListN.{length, get_or}
use Rattle.schedule.specs.Lists.{all?}
use Rattle.schedule.proofs.Tests.{and_l, and_r}
use Rattle.asking.specs.declared.instants.Spelled.{Spelled}
use Rattle.asking.specs.declared.instants.Spelled.TheVariants.{Nothing}
use Rattle.asking.specs.declared.arguments.Passed.{Passed}
use Rattle.asking.specs.declared.arguments.Passed.TheVariants.{Before, Within, After}
use Rattle.asking.specs.Instants.{instant_of, spelled_on, spelled_by}
use Rattle.asking.specs.Arguments.{command_line, unbroken, within_on, before_on, passed_by, instant_told}
use Rattle.asking.proofs.Spellings.{instant_spelled}

-- a byte that is no zero goes on with the argument that it stands in
module _ (c : ℕ) (a : List ℕ) (u : T (unbroken (c ∷ a))) where
  other : eqb c 0 ≡ false
  other = no (eqb c 0) (and_l (not (eqb c 0)) (unbroken a) u)
    where
      no : (b : Bool) → T (not b) → b ≡ false
      no true t = absurd t
      no false t = refl

  rest_unbroken : T (unbroken a)
  rest_unbroken = and_r (not (eqb c 0)) (unbroken a) u

  within_on_lem : (s : Spelled) → within_on s c ≡ Within (spelled_on s c)
  within_on_lem s = rw other

  before_on_lem : (n : ℕ) → before_on (suc n) c ≡ Before (suc n)
  before_on_lem n = rw other

-- behind the argument nothing changes
stays : (s : Spelled) (rest : List ℕ) → passed_by (After s) rest ≡ After s
stays s [] = refl
stays s (c ∷ rest) = stays s rest

within : (s : Spelled) (a rest : List ℕ) → T (unbroken a) → passed_by (Within s) (a ++ (0 ∷ rest)) ≡ After (spelled_by s a)
within s [] rest u = stays s rest
within s (c ∷ a) rest u =
    ap (λ (p : Passed). passed_by p (a ++ (0 ∷ rest))) (within_on_lem c a u s) ∙ within (spelled_on s c) a rest (rest_unbroken c a u)

-- the argument itself: its first byte, or its end, is met before it has begun
itself : (a rest : List ℕ) → T (unbroken a) → passed_by (Before 0) (a ++ (0 ∷ rest)) ≡ After (spelled_by Nothing a)
itself [] rest u = stays Nothing rest
itself (c ∷ a) rest u = within Nothing (c ∷ a) rest u

another : (n : ℕ) (a rest : List ℕ) → T (unbroken a) → passed_by (Before (suc n)) (a ++ (0 ∷ rest)) ≡ passed_by (Before n) rest
another n [] rest u = refl
another n (c ∷ a) rest u =
    ap (λ (p : Passed). passed_by p (a ++ (0 ∷ rest))) (before_on_lem c a u n) ∙ another n a rest (rest_unbroken c a u)

pub instant_told_lem : (arguments : List (List ℕ)) (i : ℕ) → T (all? unbroken arguments) → i < length arguments
    → instant_told (passed_by (Before i) (command_line arguments)) ≡ instant_of (get_or arguments i [])
instant_told_lem [] i u h = absurd (omega arith)
instant_told_lem (a ∷ rest) zero u h =
    ap instant_told (itself a (command_line rest) (and_l (unbroken a) (all? unbroken rest) u)) ∙ instant_spelled a
instant_told_lem (a ∷ rest) (suc i) u h =
    ap instant_told (another i a (command_line rest) (and_l (unbroken a) (all? unbroken rest) u))
    ∙ instant_told_lem rest i (and_r (unbroken a) (all? unbroken rest) u) (omega arith)
