-- The budgets left of a window moved one place down, entry by entry; and a list that is changed at one place, or not.
use mathlib.Core.Path.{◌≡◌, refl, ◌∙◌}
use mathlib.Core.Bool.{Bool, true, false, cond}
use mathlib.Core.List.{List}
use Prim.Native.Nat.{ℕ, zero, suc, ◌+◌, ◌-◌, ◌≤◌, ◌<◌}
use native.Mathlib.Nat.{not-suc-le-zero}
use native.Mathlib.Omega.{arith}
use lib.ListN.{length, get_or, set, length-set}
use lib.Seq.{get_or-set_same, get_or-set_other}
use Rattle.schedule.proofs.Tests.{by_lt}
use Rattle.window.specs.Loops.{in_turn}
use Rattle.window.specs.Finishing.{moved_down}

module _ {A : Type 0} (l : List A) (i : ℕ) (v z : A) where
  pub if_length : (b : Bool) → length (cond b (set l i v) l) ≡ length l
  if_length true = length-set l i v
  if_length false = refl

  pub if_other : (b : Bool) (j : ℕ) → (j ≡ i → ⊥) → get_or (cond b (set l i v) l) j z ≡ get_or l j z
  if_other true j h = get_or-set_other l i j v z h
  if_other false j h = refl

  pub if_own : (b : Bool) → i < length l → get_or (cond b (set l i v) l) i z ≡ cond b v (get_or l i z)
  if_own true h = get_or-set_same l i v z h
  if_own false h = refl

module _ (left : List ℕ) (base : ℕ) where
  abbrev moved : ℕ → List ℕ
  moved m = in_turn (λ (l : List ℕ) (d : ℕ). set l (base + d) (get_or l (base + suc d) 0)) left m

  moved_length : (m : ℕ) → length (moved m) ≡ length left
  unfolding in_turn
  moved_length zero = refl
  moved_length (suc m) = length-set (moved m) (base + m) (get_or (moved m) (base + suc m) 0) ∙ moved_length m

  moved_other : (m j : ℕ) → ((d : ℕ) → d < m → j ≡ base + d → ⊥) → get_or (moved m) j 0 ≡ get_or left j 0
  unfolding in_turn
  moved_other zero j h = refl
  moved_other (suc m) j h =
      get_or-set_other (moved m) (base + m) j (get_or (moved m) (base + suc m) 0) 0 (h m (omega arith))
      ∙ moved_other m j (λ d l. h d (omega arith))

  moved_in : (m d : ℕ) → base + m ≤ length left → d < m → get_or (moved m) (base + d) 0 ≡ get_or left (base + suc d) 0
  unfolding in_turn
  moved_in zero d h l = absurd (not-suc-le-zero l)
  moved_in (suc m) d h l =
      let v = get_or (moved m) (base + suc m) 0 in
      by_lt d m (λ k. get_or-set_other (moved m) (base + m) (base + d) v 0 (λ e. omega arith) ∙ moved_in m d (omega arith) k)
      (λ k.
      let e : d ≡ m = omega arith in
      rw e
      (get_or-set_same (moved m) (base + m) v 0 (omega (arith, moved_length m))
      ∙ moved_other m (base + suc m) (λ d l e. omega arith)))

  pub moved_down_length : (n : ℕ) → length (moved_down left base n) ≡ length left
  moved_down_length n = moved_length (n - 1)

  pub moved_down_in : (n d : ℕ) → base + n ≤ length left → d < n - 1 → get_or (moved_down left base n) (base + d) 0 ≡ get_or left (base + suc d) 0
  moved_down_in n d h l = moved_in (n - 1) d (omega arith) l

  pub moved_down_other : (n j : ℕ) → ((d : ℕ) → d < n → j ≡ base + d → ⊥) → get_or (moved_down left base n) j 0 ≡ get_or left j 0
  moved_down_other n j h = moved_other (n - 1) j (λ d l. h d (omega arith))
