-- The numbers in a mask: which they are (`in_mask`), and when they may be a node's predecessors (`zero_orderly`, `mask_orderly`).
use mathlib.Core.Path.{◌≡◌, refl, sym, ap, ◌∙◌}
use mathlib.Core.Bool.{Bool, true, false, ◌&&◌, cond, false≢true}
use mathlib.Core.List.{List, [], ◌∷◌}
use Prim.Native.Nat.{ℕ, zero, suc, ◌+◌, ◌-◌, ◌/◌, ◌%◌, ◌^◌, ◌<◌, ◌≤◌}
use native.Mathlib.Nat.{lt_of_lt_of_le, lt_of_le_of_lt, one-mul, div-le_self, div-lt_iff_lt-mul, div-div-eq-div-mul}
use native.Mathlib.Omega.{arith}
use lib.Dec.{ltb, eqb}
use lib.Pow.{pow-add, pow_mono, pow_pos}
use borrow.Author.Tests.{lt-ltb, le-ltb, eq-eqb, ne_eqb, eqb-true, eqb-false}
use Rattle.schedule.specs.Lists.{any?, keep, numbers}
use Rattle.schedule.specs.WellFormed.{rising, orderly}
use Rattle.schedule.proofs.Tests.{by_lt, by_test}
use Rattle.numbers.specs.Masks.{width, bit, lowest}
use Rattle.numbers.proofs.MaskLaws.{no_bit, bit_past, bit_below, lowest_set, lowest_below}
use Rattle.memory.specs.Plain.{numbers_in}

-- the numbers of a mask among n numbers from suc a on
abbrev picked : ℕ → ℕ → ℕ → List ℕ
picked m a n = keep (λ (p : ℕ). bit m (p - 1)) (numbers (suc a) n)

-- a number stands among them where its bit is set
picked_before : (m j n a : ℕ) → j < a → any? (eqb (suc j)) (picked m a n) ≡ false
picked_before m j zero a h = refl
picked_before m j (suc n) a h =
    let e : suc a - 1 ≡ a = omega arith in
    let other : eqb (suc j) (suc a) ≡ false = ne_eqb (suc j) (suc a) (λ (f : suc j ≡ suc a). omega arith) in
    let rest = picked_before m j n (suc a) (omega arith) in
    rw e (by_test (bit m a) (λ b. rw (b, other) rest) (λ b. rw b rest))

picked_in : (m j n a : ℕ) → a ≤ j → j < a + n → any? (eqb (suc j)) (picked m a n) ≡ bit m j
picked_in m j zero a h l = absurd (omega arith)
picked_in m j (suc n) a h l = by_lt a j (λ g. later g (picked_in m j n (suc a) (omega arith) (omega arith))) (λ g. here (omega arith))
  where
    back : suc a - 1 ≡ a
    back = omega arith

    later : a < j → any? (eqb (suc j)) (picked m (suc a) n) ≡ bit m j → any? (eqb (suc j)) (picked m a (suc n)) ≡ bit m j
    later g rest =
        let other : eqb (suc j) (suc a) ≡ false = ne_eqb (suc j) (suc a) (λ (f : suc j ≡ suc a). omega arith) in
        rw back (by_test (bit m a) (λ b. rw (b, other) rest) (λ b. rw b rest))

    here : j ≡ a → any? (eqb (suc j)) (picked m a (suc n)) ≡ bit m j
    here e =
        let same : eqb (suc j) (suc a) ≡ true = eq-eqb (suc j) (suc a) (ap suc e) in
        let same_bit : bit m j ≡ bit m a = ap (bit m) e in
        rw back (by_test (bit m a) (λ b. rw (b, same) (sym (same_bit ∙ b))) (λ b. rw b (picked_before m j n (suc a) (omega arith) ∙ sym (same_bit ∙ b))))

pub in_mask : (m j : ℕ) → j < width → any? (eqb (suc j)) (numbers_in m) ≡ bit m j
unfolding numbers_in
in_mask m j h = picked_in m j width 0 (omega arith) (omega arith)

-- they rise, so only those at or above own are against the rules
module _ (own m : ℕ) where
  -- none of n numbers from suc a on that stand in the mask is
  unfoldable fair : ℕ → ℕ → Bool
  fair a zero = true
  fair a (suc n) = let rest : Bool = fair (suc a) n in cond (bit m a) (ltb (suc a) own && rest) rest

  picked_rising : (n a last : ℕ) → last ≤ a → rising own last (picked m a n) ≡ fair a n
  unfolding rising fair
  picked_rising zero a last h = refl
  picked_rising (suc n) a last h =
      let e : suc a - 1 ≡ a = omega arith in
      rw e (by_test (bit m a)
      (λ b. rw (b, lt-ltb last (suc a) (omega arith)) (ap (λ (t : Bool). ltb (suc a) own && t) (picked_rising n (suc a) (suc a) (omega arith))))
      (λ b. rw b (picked_rising n (suc a) last (omega arith))))

  all_fair : (n a : ℕ) → ((j : ℕ) → bit m j ≡ true → suc j < own) → fair a n ≡ true
  unfolding fair
  all_fair zero a h = refl
  all_fair (suc n) a h =
      let rest = all_fair n (suc a) h in
      by_test (bit m a) (λ b. rw (b, lt-ltb (suc a) own (h a b)) rest) (λ b. rw b rest)

  one_unfair : (n a j : ℕ) → bit m j ≡ true → own ≤ suc j → a ≤ j → j < a + n → fair a n ≡ false
  unfolding fair
  one_unfair zero a j b o h l = absurd (omega arith)
  one_unfair (suc n) a j b o h l =
      by_lt a j (λ g. later (one_unfair n (suc a) j b o (omega arith) (omega arith))) (λ g. here (omega arith))
    where
      later : fair (suc a) n ≡ false → fair a (suc n) ≡ false
      later rest = by_test (bit m a) (λ c. by_test (ltb (suc a) own) (λ d. rw (c, d) rest) (λ d. rw (c, d))) (λ c. rw c rest)

      here : j ≡ a → fair a (suc n) ≡ false
      here e =
          let c : bit m a ≡ true = ap (bit m) (sym e) ∙ b in
          rw (c, le-ltb (suc a) own (omega arith))

-- a list with a number in it is orderly where it rises
some_orderly : (own j : ℕ) (l : List ℕ) → any? (eqb j) l ≡ true → orderly own l ≡ rising own 0 l
unfolding orderly
some_orderly own j [] e = absurd (false≢true e)
some_orderly own j (x ∷ xs) e = refl

-- no number stands in 0
nothing : (n a : ℕ) → picked 0 a n ≡ []
nothing zero a = refl
nothing (suc n) a = rw (no_bit (suc a - 1)) (nothing n (suc a))

pub no_numbers : numbers_in 0 ≡ []
unfolding numbers_in
no_numbers = nothing width 0

none_orderly : (own : ℕ) → orderly own (numbers_in 0) ≡ eqb own 1
unfolding orderly
none_orderly own = rw no_numbers refl

module _ (own m : ℕ) (some : 0 < m) (wide : m < 2 ^ width) where
  orderly_is : orderly own (numbers_in m) ≡ fair own m 0 width
  unfolding numbers_in
  orderly_is =
      some_orderly own (suc (lowest m)) (numbers_in m) (in_mask m (lowest m) (lowest_below m some wide) ∙ lowest_set m (lowest_below m some wide))
      ∙ picked_rising own m width 0 0 (omega arith)

  below_orderly : 1 ≤ own → m / 2 ^ (own - 1) ≡ 0 → orderly own (numbers_in m) ≡ true
  below_orderly o z = orderly_is ∙ all_fair own m width 0 low
    where
      low : (j : ℕ) → bit m j ≡ true → suc j < own
      low j b =
          by_lt (suc j) own (λ h. h)
          (λ h. absurd (false≢true (sym (bit_past m j (lt_of_lt_of_le (small z) (pow_mono {i = own - 1} {j = j} (omega arith)))) ∙ b)))
        where
          small : m / 2 ^ (own - 1) ≡ 0 → m < 2 ^ (own - 1)
          small e = let l : m / 2 ^ (own - 1) < 1 = omega (arith, e) in rw (one-mul (2 ^ (own - 1))) at ((div-lt_iff_lt-mul (pow_pos (own - 1))).0 l)

  above_orderly : 1 ≤ own → (m / 2 ^ (own - 1) ≡ 0 → ⊥) → orderly own (numbers_in m) ≡ false
  above_orderly o z =
      let q = m / 2 ^ (own - 1) in
      let k = lowest q in
      let qs : 0 < q = omega (arith, z) in
      let qw : q < 2 ^ width = lt_of_le_of_lt (div-le_self m (2 ^ (own - 1))) wide in
      let set : bit q k ≡ true = lowest_set q (lowest_below q qs qw) in
      let j = own - 1 + k in
      let same : q / 2 ^ k ≡ m / 2 ^ j = div-div-eq-div-mul m (2 ^ (own - 1)) (2 ^ k) ∙ ap (λ (z : ℕ). m / z) (sym (pow-add 2 (own - 1) k)) in
      let b : bit m j ≡ true = sym (ap (λ (z : ℕ). eqb (z % 2) 1) same) ∙ set in
      orderly_is ∙ one_unfair own m width 0 j b (omega arith) (omega arith) (omega (arith, bit_below m j wide b))

-- what code looks at: the mask 0, or the bits from own - 1 on
pub zero_orderly : (own m : ℕ) → m ≡ 0 → eqb own 1 ≡ orderly own (numbers_in m)
zero_orderly own m e = sym (ap (λ (z : ℕ). orderly own (numbers_in z)) e ∙ none_orderly own)

pub mask_orderly : (own m : ℕ) → 0 < m → m < 2 ^ width → 1 ≤ own → eqb (m / 2 ^ (own - 1)) 0 ≡ orderly own (numbers_in m)
mask_orderly own m some wide o =
    by_test (eqb (m / 2 ^ (own - 1)) 0)
    (λ t. t ∙ sym (below_orderly own m some wide o (eqb-true (m / 2 ^ (own - 1)) 0 t)))
    (λ t. t ∙ sym (above_orderly own m some wide o (eqb-false (m / 2 ^ (own - 1)) 0 t)))
