-- The laws of masks by place: the bits of a mask that is made of a test; a mask is its bits, and moves bit by bit to its places.
use mathlib.Core.Path.{◌≡◌, sym, ap, ◌∙◌}
use mathlib.Core.Bool.{Bool, true, false, ◌&&◌, ◌||◌, not, cond, or-false, or-true, false≢true}
use Prim.Native.Nat.{ℕ, zero, suc, ◌+◌, ◌-◌, ◌/◌, ◌%◌, ◌^◌, ◌<◌, ◌≤◌}
use native.Mathlib.Nat.{mod-lt, zero-lt-suc, mod-eq_of_lt, mod-one}
use native.Mathlib.Omega.{arith}
use lib.Bits.{or_lt, xor_lt}
use lib.Dec.{leb, ltb, eqb}
use lib.Pow.{pow-lt, pow_pos, mod-pow-add}
use borrow.Author.Tests.{eq-eqb, ne_eqb, ltb-true, ltb-false, eqb-true, eqb-false, leb-true, lt-ltb, le-ltb, le-leb, lt-leb}
use Rattle.numbers.specs.Masks.{width, bit, with, without}
use Rattle.numbers.proofs.Cases.{by_test, by_digit}
use Rattle.numbers.proofs.MaskLaws.{no_bit, bit_below, bit_with, bit_without}
use Rattle.planning.specs.Places.{mask_below, at_places}

-- a mask keeps within its width as a bit is set
pub with_fits : (m k : ℕ) → m < 2 ^ width → with m k < 2 ^ width
with_fits m k h =
    by_test (ltb k width)
    (λ t. rw t (or_lt width m (2 ^ k) h (pow-lt {i = k} {j = width} (ltb-true k width t))))
    (λ t. rw t h)

-- and as a bit that is set is taken off
pub without_fits : (m k : ℕ) → m < 2 ^ width → bit m k ≡ true → without m k < 2 ^ width
without_fits m k h t = rw t (xor_lt width m (2 ^ k) h (pow-lt {i = k} {j = width} (bit_below m k h t)))

-- what is below the width is in the set after k was put into it if it is k, or was there before
bit_with_any : (m k p : ℕ) → p < width → bit (with m k) p ≡ eqb p k || bit m p
bit_with_any m k p h =
    by_test (ltb k width)
    (λ t. bit_with m k p (ltb-true k width t))
    (λ t. let l = ltb-false k width t in rw (t, ne_eqb p k (λ (e : p ≡ k). omega arith)))

module _ (test : ℕ → Bool) where
  mask_fits : (n : ℕ) → mask_below test n < 2 ^ width
  unfolding mask_below
  mask_fits zero = pow_pos width
  mask_fits (suc n) = by_test (test n) (λ t. rw t (with_fits (mask_below test n) n (mask_fits n))) (λ t. rw t (mask_fits n))

  mask_bit : (n p : ℕ) → n ≤ width → bit (mask_below test n) p ≡ ltb p n && test p
  unfolding mask_below
  mask_bit zero p h = no_bit p ∙ sym (rw (le-ltb p 0 (omega arith)))
  mask_bit (suc n) p h = by_test (test n) (λ t. here t (mask_bit n p (omega arith))) (λ t. rw t (missing t (mask_bit n p (omega arith))))
    where
      same : (p ≡ n → ⊥) → ltb p n ≡ ltb p (suc n)
      same e =
          by_test (ltb p n)
          (λ t. let l = ltb-true p n t in t ∙ sym (lt-ltb p (suc n) (omega arith)))
          (λ t. let l = ltb-false p n t in t ∙ sym (le-ltb p (suc n) (omega arith)))

      here : test n ≡ true → bit (mask_below test n) p ≡ ltb p n && test p → bit (cond (test n) (with (mask_below test n) n) (mask_below test n)) p ≡ ltb p (suc n) && test p
      here t ih =
          rw t
          (bit_with (mask_below test n) n p h
          ∙ ap (λ (b : Bool). eqb p n || b) ih
          ∙ by_test (eqb p n)
          (λ e. let f = eqb-true p n e in rw (e, lt-ltb p (suc n) (omega arith)) (sym (ap test f ∙ t)))
          (λ e. rw (e, same (eqb-false p n e))))

      missing : test n ≡ false → bit (mask_below test n) p ≡ ltb p n && test p → bit (mask_below test n) p ≡ ltb p (suc n) && test p
      missing t ih =
          ih ∙ by_test (eqb p n)
          (λ e. let f = eqb-true p n e in rw (le-ltb p n (omega arith), lt-ltb p (suc n) (omega arith)) (sym (ap test f ∙ t)))
          (λ e. rw (same (eqb-false p n e)))

-- two masks with the same bits are equal
same_below : (k m n : ℕ) → ((p : ℕ) → p < k → bit m p ≡ bit n p) → m % 2 ^ k ≡ n % 2 ^ k
same_below zero m n h = mod-one m ∙ sym (mod-one n)
same_below (suc k) m n h =
    let e : suc k ≡ 1 + k = omega arith in
    let d : m / 2 ^ k % 2 ≡ n / 2 ^ k % 2 = digits (m / 2 ^ k % 2) (n / 2 ^ k % 2) (mod-lt (m / 2 ^ k) (zero-lt-suc 1)) (mod-lt (n / 2 ^ k) (zero-lt-suc 1)) (h k (omega arith)) in
    rw (e, mod-pow-add m 1 k, mod-pow-add n 1 k, d, same_below k m n (λ p l. h p (omega arith)))
  where
    digits : (x y : ℕ) → x < 2 → y < 2 → eqb x 1 ≡ eqb y 1 → x ≡ y
    digits x y h k e =
        by_digit x h
        (λ f. by_digit y k (λ g. f ∙ sym g) (λ g. absurd (false≢true (sym (ap (λ (z : ℕ). eqb z 1) f) ∙ e ∙ ap (λ (z : ℕ). eqb z 1) g))))
        (λ f. by_digit y k (λ g. absurd (false≢true (sym (ap (λ (z : ℕ). eqb z 1) g) ∙ sym e ∙ ap (λ (z : ℕ). eqb z 1) f))) (λ g. f ∙ sym g))

same_bits : (m n : ℕ) → m < 2 ^ width → n < 2 ^ width → ((p : ℕ) → p < width → bit m p ≡ bit n p) → m ≡ n
same_bits m n h l same = sym (mod-eq_of_lt h) ∙ same_below width m n same ∙ mod-eq_of_lt l

-- bit p of what a mask comes to at its places
abbrev pub placed_bit : ℕ → ℕ → ℕ → Bool
placed_bit mask first p = leb first p && bit mask (p - first)

module _ (mask first : ℕ) where
  pub at_places_bit : (p : ℕ) → p < width → bit (at_places mask first) p ≡ placed_bit mask first p
  at_places_bit p h = mask_bit (placed_bit mask first) width p (omega arith) ∙ rw (lt-ltb p width h)

  pub places_same : (m : ℕ) → m < 2 ^ width → ((p : ℕ) → p < width → bit m p ≡ placed_bit mask first p) → m ≡ at_places mask first
  places_same m h same = same_bits m (at_places mask first) h (mask_fits (placed_bit mask first) width) (λ p l. same p l ∙ sym (at_places_bit p l))

  pub places_none : width ≤ first → 0 ≡ at_places mask first
  places_none h = places_same 0 (pow_pos width) (λ p l. no_bit p ∙ sym (rw (lt-leb first p (omega arith))))

  -- the loop: of the mask's bits, those of `placed` are at their places, and those of `rest` are left
  abbrev pub Halfway : ℕ → ℕ → Type 0
  Halfway placed rest = (p : ℕ) → p < width → bit placed p || placed_bit rest first p ≡ placed_bit mask first p

  pub one_placed : (placed rest q : ℕ) → bit rest q ≡ true → Halfway placed rest → Halfway (with placed (first + q)) (without rest q)
  one_placed placed rest q there half p h =
      ap (λ (b : Bool). b || placed_bit (without rest q) first p) (bit_with_any placed (first + q) p h)
      ∙ ap (λ (b : Bool). (eqb p (first + q) || bit placed p) || (leb first p && b)) (bit_without rest q (p - first))
      ∙ by_test (eqb p (first + q)) (λ t. now (eqb-true p (first + q) t)) (λ t. others (eqb-false p (first + q) t))
      ∙ half p h
    where
      now : p ≡ first + q
          → (eqb p (first + q) || bit placed p) || (leb first p && (not (eqb (p - first) q) && bit rest (p - first))) ≡ bit placed p || placed_bit rest first p
      now e =
          let f : p - first ≡ q = omega arith in
          rw (eq-eqb p (first + q) e, le-leb first p (omega arith), f, there) (sym (or-true (bit placed p)))

      others : (p ≡ first + q → ⊥)
          → (eqb p (first + q) || bit placed p) || (leb first p && (not (eqb (p - first) q) && bit rest (p - first))) ≡ bit placed p || placed_bit rest first p
      others e =
          by_test (leb first p)
          (λ t. let l = leb-true first p t in rw (ne_eqb p (first + q) e, t, ne_eqb (p - first) q (λ (f : p - first ≡ q). e (omega arith))))
          (λ t. rw (ne_eqb p (first + q) e, t))

  pub all_placed : (placed : ℕ) → placed < 2 ^ width → Halfway placed 0 → placed ≡ at_places mask first
  all_placed placed h half =
      places_same placed h
      (λ p l. sym (or-false (bit placed p)) ∙ ap (λ (b : Bool). bit placed p || b) (sym (none p)) ∙ half p l)
    where
      none : (p : ℕ) → placed_bit 0 first p ≡ false
      none p = rw (no_bit (p - first)) (by_test (leb first p) (λ t. rw t) (λ t. rw t))
