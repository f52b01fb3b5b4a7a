-- The machine's counts of a mask's bits are those of the definitions; and a set bit taken off is one less.
use mathlib.Core.Path.{◌≡◌, refl, sym, ap, ◌∙◌}
use mathlib.Core.Bool.{Bool, true, false}
use Prim.Native.Nat.{ℕ, zero, suc, ◌+◌, ◌/◌, ◌%◌, ◌^◌, ◌<◌, ◌≤◌}
use native.Mathlib.Nat.{mod-lt, zero-lt-suc, div-one, div-lt_iff_lt-mul, pow-suc, add-suc}
use native.Mathlib.Numerals.{add-one}
use native.Mathlib.Omega.{arith}
use lib.Count as Machine
use lib.Dec.{eqb}
use lib.Pow.{shr-shr}
use borrow.Author.Tests.{eq-eqb, ne_eqb, eqb-true, eqb-false}
use Rattle.schedule.specs.Lists.{one?, count, numbers}
use Rattle.numbers.specs.Masks.{width, bit, without, ones, lowest_from, lowest}
use Rattle.numbers.proofs.Cases.{by_test, by_digit}
use Rattle.numbers.proofs.MaskLaws.{bit_without, lowest_set, lowest_below}

-- the bits from k + 1 on
next_bits : (m k : ℕ) → m / 2 ^ k / 2 ≡ m / 2 ^ suc k
next_bits m k = shr-shr m k 1 ∙ ap (λ (z : ℕ). m / 2 ^ z) (add-one k)

digit_counted : (x : ℕ) → x < 2 → one? (eqb x 1) ≡ x
digit_counted x h = by_digit x h (λ e. rw e) (λ e. rw e)

count_bits : (n a m : ℕ) → count (bit m) (numbers a n) ≡ Machine.ones_in n (m / 2 ^ a)
unfolding Machine.ones_in
count_bits zero a m = refl
count_bits (suc n) a m =
    ap (λ (z : ℕ). z + count (bit m) (numbers (suc a) n)) (digit_counted (m / 2 ^ a % 2) (mod-lt (m / 2 ^ a) (zero-lt-suc 1)))
    ∙ ap (λ (z : ℕ). m / 2 ^ a % 2 + z) (count_bits n (suc a) m ∙ ap (Machine.ones_in n) (sym (next_bits m a)))

all_ones : (n x : ℕ) → x < 2 ^ n → Machine.ones_in n x ≡ Machine.ones x
unfolding Machine.ones_in Machine.ones
all_ones zero x h = let e : x ≡ 0 = omega arith in rw e
all_ones (suc n) x h =
    ap (λ (z : ℕ). x % 2 + z) (all_ones n (x / 2) ((div-lt_iff_lt-mul (zero-lt-suc 1)).1 (rw (pow-suc 2 n) at h))) ∙ sym (Machine.ones_step x)

pub ones_counted : (m : ℕ) → m < 2 ^ width → Machine.ones m ≡ ones m
unfolding ones
ones_counted m h = sym (count_bits width 0 m ∙ ap (Machine.ones_in width) (div-one m) ∙ all_ones width m h)

first_counted : (n k m : ℕ) → lowest_from n k m ≡ k + Machine.count_trailing_zeros n (m / 2 ^ k)
unfolding lowest_from Machine.count_trailing_zeros
first_counted zero k m = omega arith
first_counted (suc n) k m =
    by_digit (m / 2 ^ k % 2) (mod-lt (m / 2 ^ k) (zero-lt-suc 1))
    (λ e. rw e (first_counted n (suc k) m ∙ ap (λ (z : ℕ). suc k + Machine.count_trailing_zeros n z) (sym (next_bits m k)) ∙ omega arith))
    (λ e. rw e (omega arith))

pub lowest_counted : (m : ℕ) → Machine.count_trailing_zeros width m ≡ lowest m
unfolding lowest
lowest_counted m = sym (first_counted width 0 m ∙ ap (λ (z : ℕ). 0 + Machine.count_trailing_zeros width z) (div-one m) ∙ omega arith)

module _ (m k : ℕ) (set : bit m k ≡ true) where
  others : (a : ℕ) → (a ≡ k → ⊥) → bit (without m k) a ≡ bit m a
  others a e = bit_without m k a ∙ rw (ne_eqb a k e)

  gone : (a : ℕ) → a ≡ k → bit (without m k) a ≡ false
  gone a e = bit_without m k a ∙ rw (eq-eqb a k e)

  -- past bit k nothing changes
  count_after : (n a : ℕ) → k < a → count (bit (without m k)) (numbers a n) ≡ count (bit m) (numbers a n)
  count_after zero a h = refl
  count_after (suc n) a h =
      ap (λ (b : Bool). one? b + count (bit (without m k)) (numbers (suc a) n)) (others a (λ (e : a ≡ k). omega arith))
      ∙ ap (λ (z : ℕ). one? (bit m a) + z) (count_after n (suc a) (omega arith))

  count_less : (n a : ℕ) → a ≤ k → k < a + n → count (bit m) (numbers a n) ≡ suc (count (bit (without m k)) (numbers a n))
  count_less zero a h l = absurd (omega arith)
  count_less (suc n) a h l = by_test (eqb a k) (λ e. here (eqb-true a k e)) (λ e. later (eqb-false a k e) (count_less n (suc a)))
    where
      here : a ≡ k → count (bit m) (numbers a (suc n)) ≡ suc (count (bit (without m k)) (numbers a (suc n)))
      here e =
          ap (λ (b : Bool). one? b + count (bit m) (numbers (suc a) n)) (ap (bit m) e ∙ set)
          ∙ ap (λ (z : ℕ). 1 + z) (sym (count_after n (suc a) (omega arith)))
          ∙ sym (ap (λ (b : Bool). suc (one? b + count (bit (without m k)) (numbers (suc a) n))) (gone a e) ∙ omega arith)

      later : (a ≡ k → ⊥) → (suc a ≤ k → k < suc a + n → count (bit m) (numbers (suc a) n) ≡ suc (count (bit (without m k)) (numbers (suc a) n)))
          → count (bit m) (numbers a (suc n)) ≡ suc (count (bit (without m k)) (numbers a (suc n)))
      later e ih =
          ap (λ (z : ℕ). one? (bit m a) + z) (ih (omega arith) (omega arith))
          ∙ add-suc (one? (bit m a)) (count (bit (without m k)) (numbers (suc a) n))
          ∙ sym (ap (λ (b : Bool). suc (one? b + count (bit (without m k)) (numbers (suc a) n))) (others a e))

  pub ones_without : k < width → ones m ≡ suc (ones (without m k))
  unfolding ones
  ones_without h = count_less width 0 (omega arith) (omega arith)

no_ones : ones 0 ≡ 0
unfolding ones
no_ones = refl

-- a mask that has a bit is not 0, and one that has none is
pub some_set : (m : ℕ) → 0 < ones m → m ≡ 0 → ⊥
some_set m h e = omega (arith, ap ones e ∙ no_ones)

pub none_set : (m : ℕ) → m < 2 ^ width → ones m ≡ 0 → m ≡ 0
none_set m h e = by_test (eqb m 0) (λ t. eqb-true m 0 t) (λ t. absurd (has_one (eqb-false m 0 t)))
  where
    has_one : (m ≡ 0 → ⊥) → ⊥
    has_one some =
        let low = lowest_below m (omega arith) h in
        let f = ones_without m (lowest m) (lowest_set m low) low in
        omega arith
