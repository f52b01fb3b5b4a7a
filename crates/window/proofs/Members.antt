-- A number that stands in a list, as the test `any? (eqb i)`: what a test over the list says of it, and the other way round.
use mathlib.Core.Bool.{Bool}
use mathlib.Core.List.{List, [], ◌∷◌}
use Prim.Native.Nat.{ℕ, zero, suc, ◌<◌}
use native.Mathlib.Nat.{not-suc-le-zero}
use native.Mathlib.Omega.{arith}
use lib.Dec.{T, eqb, eqb→eq, eqb_refl}
use lib.ListN.{length, get_or}
use Rattle.schedule.specs.Lists.{any?, all?}
use Rattle.schedule.proofs.Tests.{and_l, and_r, and_i, or_l, or_r, or_e, either_way}

pub entry_member : (l : List ℕ) (g : ℕ) → g < length l → T (any? (eqb (get_or l g 0)) l)
entry_member [] g h = absurd (not-suc-le-zero h)
entry_member (x ∷ xs) zero h = or_l (eqb x x) (any? (eqb x) xs) (eqb_refl x)
entry_member (x ∷ xs) (suc g) h = or_r (eqb (get_or xs g 0) x) (any? (eqb (get_or xs g 0)) xs) (entry_member xs g (omega arith))

module _ (p : ℕ → Bool) where
  pub each_member : (l : List ℕ) (i : ℕ) → T (any? (eqb i) l) → T (all? p l) → T (p i)
  each_member [] i m t = absurd m
  each_member (x ∷ xs) i m t =
      either_way (or_e (eqb i x) (any? (eqb i) xs) (eqb→eq i x) (λ y. y) m) (λ e. rw e (and_l (p x) (all? p xs) t))
      (λ n. each_member xs i n (and_r (p x) (all? p xs) t))

  pub all_members : (l : List ℕ) → ((i : ℕ) → T (any? (eqb i) l) → T (p i)) → T (all? p l)
  all_members [] h = tt
  all_members (x ∷ xs) h =
      and_i (p x) (all? p xs) (h x (or_l (eqb x x) (any? (eqb x) xs) (eqb_refl x)))
      (all_members xs (λ i m. h i (or_r (eqb i x) (any? (eqb i) xs) m)))

  pub some_member : (l : List ℕ) → T (any? p l) → (i : ℕ) × T (any? (eqb i) l) × T (p i)
  some_member [] t = absurd t
  some_member (x ∷ xs) t =
      either_way (or_e (p x) (any? p xs) (λ y. y) (λ y. y) t) (λ y. (x, or_l (eqb x x) (any? (eqb x) xs) (eqb_refl x), y))
      (λ y. let (i, m, q) = some_member xs y in (i, or_r (eqb i x) (any? (eqb i) xs) m, q))

  pub member_some : (l : List ℕ) (i : ℕ) → T (any? (eqb i) l) → T (p i) → T (any? p l)
  member_some [] i m t = absurd m
  member_some (x ∷ xs) i m t =
      either_way (or_e (eqb i x) (any? (eqb i) xs) (eqb→eq i x) (λ y. y) m) (λ e. or_l (p x) (any? p xs) (rw e at t))
      (λ n. or_r (p x) (any? p xs) (member_some xs i n t))
