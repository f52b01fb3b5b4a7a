-- What a loop that writes numbers leaves: at a place that it wrote, the number written; elsewhere what was there. And where slots lie.
use mathlib.Core.Path.{◌≡◌, refl, ◌∙◌}
use mathlib.Core.Bool.{Bool, true, false, cond}
use mathlib.Core.List.{List}
use Prim.Native.Nat.{ℕ, zero, suc, ◌+◌, ◌*◌, ◌≤◌, ◌<◌}
use native.Mathlib.Nat.{not-suc-le-zero}
use native.Mathlib.Omega.{arith}
use lib.Dec.{T}
use lib.ListN.{length, get_or, set, length-set}
use lib.Seq.{get_or-set_same, get_or-set_other}
use Rattle.schedule.proofs.Tests.{by_lt, T_true}
use Rattle.window.specs.Entries.{places}
use Rattle.ledger.specs.Entries.{room, slots, slot_at}
use Rattle.ledger.specs.Loops.{changed, blocks}

module _ (p : ℕ → Bool) (at val : ℕ → ℕ) (xs : List ℕ) where
  pub changed_length : (n : ℕ) → length (changed p at val xs n) ≡ length xs
  unfolding changed
  changed_length zero = refl
  changed_length (suc n) = go (p n) (changed_length n)
    where
      go : (b : Bool) → length (changed p at val xs n) ≡ length xs
          → length (cond b (set (changed p at val xs n) (at n) (val n)) (changed p at val xs n)) ≡ length xs
      go true e = length-set (changed p at val xs n) (at n) (val n) ∙ e
      go false e = e

  -- a place that no index below n writes
  pub changed_other : (n x : ℕ) → ((i : ℕ) → i < n → T (p i) → x ≡ at i → ⊥) → get_or (changed p at val xs n) x 0 ≡ get_or xs x 0
  unfolding changed
  changed_other zero x h = refl
  changed_other (suc n) x h = go (p n) (λ w. h n (omega arith) w) (changed_other n x (λ i l w e. h i (omega arith) w e))
    where
      go : (b : Bool) → (T b → x ≡ at n → ⊥) → get_or (changed p at val xs n) x 0 ≡ get_or xs x 0
          → get_or (cond b (set (changed p at val xs n) (at n) (val n)) (changed p at val xs n)) x 0 ≡ get_or xs x 0
      go true f e = get_or-set_other (changed p at val xs n) (at n) x (val n) 0 (f tt) ∙ e
      go false f e = e

  -- the place that index i writes, and no other index does
  pub changed_at : (n i : ℕ) → i < n → T (p i) → ((j : ℕ) → j < n → T (p j) → at i ≡ at j → j ≡ i) → at i < length xs
      → get_or (changed p at val xs n) (at i) 0 ≡ val i
  unfolding changed
  changed_at zero i h w one l = absurd (not-suc-le-zero h)
  changed_at (suc n) i h w one l =
      by_lt i n
      (λ g. go (p n) (λ b e. let z : n ≡ i = one n (omega arith) b e in let x : ⊥ = omega arith in x) (changed_at n i g w (λ j k b e. one j (omega arith) b e) l))
      (λ g. last (omega arith))
    where
      go : (b : Bool) → (T b → at i ≡ at n → ⊥) → get_or (changed p at val xs n) (at i) 0 ≡ val i
          → get_or (cond b (set (changed p at val xs n) (at n) (val n)) (changed p at val xs n)) (at i) 0 ≡ val i
      go true f e = get_or-set_other (changed p at val xs n) (at n) (at i) (val n) 0 (f tt) ∙ e
      go false f e = e

      last : i ≡ n → get_or (cond (p n) (set (changed p at val xs n) (at n) (val n)) (changed p at val xs n)) (at i) 0 ≡ val i
      last e = rw (← e, T_true {b = p i} w) (get_or-set_same (changed p at val xs i) (at i) (val i) 0 (omega (arith, changed_length i)))

pub in_slots : (i k : ℕ) → i < places → slot_at i k < slots
in_slots i k h = omega arith

-- a slot says the place; and of `room` numbers in a row the number
pub slot_place : (i j k m : ℕ) → slot_at i k ≡ slot_at j m → i ≡ j
slot_place i j k m e = omega arith

pub slot_number : (i c k m : ℕ) → slot_at i k ≡ slot_at i m → c < k → k ≤ c + room → c < m → m ≤ c + room → k ≡ m
slot_number i c k m e a b d f = omega arith

-- blocks of entries
module _ (val : ℕ → ℕ → ℕ) (count : ℕ → ℕ) (xs : List ℕ) (few : (i : ℕ) → count i ≤ room) where
  pub blocks_length : (n : ℕ) → length (blocks val count xs n) ≡ length xs
  unfolding blocks
  blocks_length zero = refl
  blocks_length (suc i) = changed_length (λ (d : ℕ). true) (λ (d : ℕ). i * room + d) (val i) (blocks val count xs i) (count i) ∙ blocks_length i

  block_other : (j i d : ℕ) (u : List ℕ) → (i ≡ j → ⊥) → d < room
      → get_or (changed (λ (d : ℕ). true) (λ (d : ℕ). j * room + d) (val j) u (count j)) (i * room + d) 0 ≡ get_or u (i * room + d) 0
  block_other j i d u z h =
      changed_other (λ (d : ℕ). true) (λ (d : ℕ). j * room + d) (val j) u (count j) (i * room + d)
      (λ e g w q. z (let same : i ≡ j = omega (arith, few j) in same))

  pub blocks_at : (n i d : ℕ) → i < n → i < places → d < count i → length xs ≡ slots → get_or (blocks val count xs n) (i * room + d) 0 ≡ val i d
  unfolding blocks
  blocks_at zero i d h p l s = absurd (not-suc-le-zero h)
  blocks_at (suc n) i d h p l s =
      by_lt i n (λ g. block_other n i d (blocks val count xs n) (λ e. let x : ⊥ = omega arith in x) (omega (arith, few i)) ∙ blocks_at n i d g p l s)
      (λ g. last (omega arith))
    where
      last : n ≡ i → get_or (changed (λ (d : ℕ). true) (λ (d : ℕ). n * room + d) (val n) (blocks val count xs n) (count n)) (i * room + d) 0 ≡ val i d
      last e =
          rw e
          (changed_at (λ (d : ℕ). true) (λ (d : ℕ). i * room + d) (val i) (blocks val count xs i) (count i) d l tt (λ j g w q. let z : j ≡ d = omega arith in z)
          (omega (arith, blocks_length i, few i)))
