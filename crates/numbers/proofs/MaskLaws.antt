-- The laws of masks: which bits are set after one is set or taken off, of two masks together, of a power of 2; the lowest set bit is set
-- and none below it is; and no bit below k is left unset exactly where the unset ones make 0.
use mathlib.Core.Path.{◌≡◌, sym, ap, ◌∙◌}
use mathlib.Core.Bool.{Bool, true, false, ◌&&◌, ◌||◌, not, cond, and-true, and-false, or_comm, false≢true}
use Prim.Native.Nat.{ℕ, zero, suc, ◌+◌, ◌-◌, ◌*◌, ◌/◌, ◌%◌, ◌^◌, ◌<◌, ◌≤◌, max}
use native.Mathlib.Nat.{div-eq_of_lt, mul-mod_left, mod-lt, pow-suc, zero-lt-suc, one-mul, mod-eq_of_lt, mod-one, zero-mul, lt_of_lt_of_le}
use native.Mathlib.Omega.{arith}
use lib.Arith.{digits_mod, lt_of_le-ne}
use lib.Bits.{bit_or, bit_xor, differ, or_shr, or_step, xor_shr, xor_step, and_mask}
use lib.Dec.{ltb, eqb}
use lib.Pow.{shl-shr, pow-add, pow-lt, pow_mono, pow_pos, mod-pow-add}
use borrow.Author.Tests.{eq-eqb, ne_eqb, ltb-true, ltb-false, eqb-true, eqb-false, lt-ltb}
use Rattle.numbers.specs.Masks.{width, bit, with, without, lowest_from, lowest, unset_below}
use Rattle.numbers.proofs.Cases.{by_test, by_digit}

-- no bit of 0 is set, and none from a mask's width on
pub bit_past : (m k : ℕ) → m < 2 ^ k → bit m k ≡ false
bit_past m k h = ap (λ (z : ℕ). eqb (z % 2) 1) (div-eq_of_lt h)

pub no_bit : (k : ℕ) → bit 0 k ≡ false
no_bit k = bit_past 0 k (pow_pos k)

pub bit_wide : (m k : ℕ) → m < 2 ^ width → width ≤ k → bit m k ≡ false
bit_wide m k h l = bit_past m k (lt_of_lt_of_le h (pow_mono {i = width} {j = k} l))

pub bit_below : (m k : ℕ) → m < 2 ^ width → bit m k ≡ true → k < width
bit_below m k h e = by_test (ltb k width) (λ t. ltb-true k width t) (λ t. absurd (false≢true (sym (bit_wide m k h (ltb-false k width t)) ∙ e)))

-- the code's 1 << k
pub shifted_one : (k : ℕ) → k < width → 1 * 2 ^ k % 2 ^ width ≡ 2 ^ k
shifted_one k h = rw (one-mul (2 ^ k)) (mod-eq_of_lt (pow-lt {i = k} {j = width} h))

-- two masks together
pub bit_or_lem : (a b k : ℕ) → bit (bit_or a b) k ≡ bit a k || bit b k
bit_or_lem a b k =
    let x = a / 2 ^ k in
    let y = b / 2 ^ k in
    let h = mod-lt x (zero-lt-suc 1) in
    let i = mod-lt y (zero-lt-suc 1) in
    ap (λ (z : ℕ). eqb (z % 2) 1) (or_shr a b k ∙ or_step x y)
    ∙ ap (λ (z : ℕ). eqb z 1) (digits_mod (bit_or (x / 2) (y / 2)) (max_lt (x % 2) (y % 2) h i)) ∙ either (x % 2) (y % 2) h i
  where
    max_lt : (x y : ℕ) → x < 2 → y < 2 → max x y < 2
    max_lt x y h k = omega arith

    either : (x y : ℕ) → x < 2 → y < 2 → eqb (max x y) 1 ≡ eqb x 1 || eqb y 1
    either x y h k =
        by_digit x h
        (λ e. by_digit y k (λ f. rw (e, f)) (λ f. rw (e, f)))
        (λ e. by_digit y k (λ f. rw (e, f)) (λ f. rw (e, f)))

-- what stands in just one of two masks
bit_xor_lem : (a b k : ℕ) → bit (bit_xor a b) k ≡ cond (bit b k) (not (bit a k)) (bit a k)
bit_xor_lem a b k =
    let x = a / 2 ^ k in
    let y = b / 2 ^ k in
    let h = mod-lt x (zero-lt-suc 1) in
    let i = mod-lt y (zero-lt-suc 1) in
    ap (λ (z : ℕ). eqb (z % 2) 1) (xor_shr a b k ∙ xor_step x y)
    ∙ ap (λ (z : ℕ). eqb z 1) (digits_mod (bit_xor (x / 2) (y / 2)) (differ_lt (x % 2) (y % 2) h i)) ∙ one (x % 2) (y % 2) h i
  where
    differ_lt : (x y : ℕ) → x < 2 → y < 2 → differ x y < 2
    differ_lt x y h k =
        by_digit x h
        (λ e. by_digit y k (λ f. rw (e, f) (omega arith)) (λ f. rw (e, f) (omega arith)))
        (λ e. by_digit y k (λ f. rw (e, f) (omega arith)) (λ f. rw (e, f) (omega arith)))

    one : (x y : ℕ) → x < 2 → y < 2 → eqb (differ x y) 1 ≡ cond (eqb y 1) (not (eqb x 1)) (eqb x 1)
    one x y h k =
        by_digit x h
        (λ e. by_digit y k (λ f. rw (e, f)) (λ f. rw (e, f)))
        (λ e. by_digit y k (λ f. rw (e, f)) (λ f. rw (e, f)))

-- a power of 2 has its one bit
pub bit_pow : (x k : ℕ) → bit (2 ^ x) k ≡ eqb k x
bit_pow x k =
    by_test (ltb k x)
    (λ t. below (ltb-true k x t))
    (λ t. by_test (eqb k x) (λ u. same (eqb-true k x u)) (λ u. above (ltb-false k x t) (eqb-false k x u)))
  where
    split : k ≤ x → 2 ^ x / 2 ^ k ≡ 2 ^ (x - k)
    split h =
        let e : x ≡ x - k + k = omega arith in
        ap (λ (z : ℕ). 2 ^ z / 2 ^ k) e ∙ ap (λ (z : ℕ). z / 2 ^ k) (pow-add 2 (x - k) k) ∙ shl-shr (2 ^ (x - k)) k

    below : k < x → bit (2 ^ x) k ≡ eqb k x
    below h =
        let e : x - k ≡ suc (x - k - 1) = omega arith in
        ap (λ (z : ℕ). eqb (z % 2) 1) (split (omega arith) ∙ ap (λ (z : ℕ). 2 ^ z) e ∙ pow-suc 2 (x - k - 1))
        ∙ ap (λ (z : ℕ). eqb z 1) (mul-mod_left (2 ^ (x - k - 1)) 2) ∙ sym (ne_eqb k x (λ f. omega arith))

    same : k ≡ x → bit (2 ^ x) k ≡ eqb k x
    same h =
        let e : x - k ≡ 0 = omega arith in
        ap (λ (z : ℕ). eqb (z % 2) 1) (split (omega arith) ∙ ap (λ (z : ℕ). 2 ^ z) e) ∙ sym (eq-eqb k x h)

    above : x ≤ k → (k ≡ x → ⊥) → bit (2 ^ x) k ≡ eqb k x
    above h n = bit_past (2 ^ x) k (pow-lt {i = x} {j = k} (lt_of_le-ne h (λ e. n (sym e)))) ∙ sym (ne_eqb k x n)

-- membership after setting: k, and what was in the set
pub bit_with : (m k j : ℕ) → k < width → bit (with m k) j ≡ eqb j k || bit m j
bit_with m k j h =
    rw (lt-ltb k width h) (bit_or_lem m (2 ^ k) j ∙ ap (λ (b : Bool). bit m j || b) (bit_pow k j) ∙ or_comm (bit m j) (eqb j k))

-- taking a bit off leaves the others
pub bit_without : (m k j : ℕ) → bit (without m k) j ≡ not (eqb j k) && bit m j
bit_without m k j = by_test (bit m k) there missing
  where
    there : bit m k ≡ true → bit (without m k) j ≡ not (eqb j k) && bit m j
    there e =
        rw e (bit_xor_lem m (2 ^ k) j ∙ ap (λ (b : Bool). cond b (not (bit m j)) (bit m j)) (bit_pow k j)
        ∙ by_test (eqb j k) (λ f. rw f (ap (λ (i : ℕ). not (bit m i)) (eqb-true j k f) ∙ ap not e)) (λ f. rw f))

    missing : bit m k ≡ false → bit (without m k) j ≡ not (eqb j k) && bit m j
    missing e =
        rw e (by_test (eqb j k) (λ f. rw f (ap (bit m) (eqb-true j k f) ∙ e)) (λ f. rw f))

-- the lowest set bit: none of n bits from k on is set below it, and it is set or past the n bits
below_first : (n k m j : ℕ) → k ≤ j → j < lowest_from n k m → bit m j ≡ false
unfolding lowest_from
below_first zero k m j h l = absurd (omega arith)
below_first (suc n) k m j h l =
    by_test (bit m k)
    (λ e. absurd (let z : j < k = rw e at l in omega arith))
    (λ e. by_test (eqb j k)
    (λ f. ap (bit m) (eqb-true j k f) ∙ e)
    (λ f. step (lt_of_le-ne h (λ g. eqb-false j k f (sym g))) (rw e at l) (below_first n (suc k) m j)))
  where
    step : k < j → j < lowest_from n (suc k) m → (suc k ≤ j → j < lowest_from n (suc k) m → bit m j ≡ false) → bit m j ≡ false
    step g i ih = ih g i

first_set : (n k m : ℕ) → lowest_from n k m < k + n → bit m (lowest_from n k m) ≡ true
unfolding lowest_from
first_set zero k m h = absurd (omega arith)
first_set (suc n) k m h =
    by_test (bit m k)
    (λ e. rw e e)
    (λ e. let l : lowest_from n (suc k) m < k + suc n = rw e at h in rw e (first_set n (suc k) m (omega arith)))

pub below_lowest : (m j : ℕ) → j < lowest m → bit m j ≡ false
unfolding lowest
below_lowest m j h = below_first width 0 m j (omega arith) h

pub lowest_set : (m : ℕ) → lowest m < width → bit m (lowest m) ≡ true
unfolding lowest
lowest_set m h = first_set width 0 m (omega arith)

-- a mask of which no bit below k is set is a multiple of 2 ^ k; so a mask above 0 has a lowest set bit
no_bits_below : (k m : ℕ) → ((j : ℕ) → j < k → bit m j ≡ false) → m % 2 ^ k ≡ 0
no_bits_below zero m h = mod-one m
no_bits_below (suc k) m h =
    let z : m / 2 ^ k % 2 ≡ 0 = by_digit (m / 2 ^ k % 2) (mod-lt (m / 2 ^ k) (zero-lt-suc 1)) (λ e. e) (λ e. absurd (eqb-false _ _ (h k (omega arith)) e)) in
    let e : suc k ≡ 1 + k = omega arith in
    rw (e, mod-pow-add m 1 k, z, no_bits_below k m (λ j l. h j (omega arith)), zero-mul (2 ^ k))

pub lowest_below : (m : ℕ) → 0 < m → m < 2 ^ width → lowest m < width
lowest_below m p h =
    by_test (ltb (lowest m) width)
    (λ t. ltb-true (lowest m) width t)
    (λ t. absurd (none (no_bits_below width m (λ j l. below_lowest m j (lt_of_lt_of_le l (ltb-false (lowest m) width t))))))
  where
    none : m % 2 ^ width ≡ 0 → ⊥
    none e = let z : m ≡ 0 = sym (mod-eq_of_lt h) ∙ e in omega arith

-- nothing below k + 1 is unset exactly where nothing below k is, and bit k is set
pub unset_more : (k m : ℕ) → eqb (unset_below (suc k) m) 0 ≡ eqb (unset_below k m) 0 && bit m k
unset_more k m =
    let e : unset_below (suc k) m ≡ 2 ^ k * 2 - 1 - ((m / 2 ^ k % 2) * 2 ^ k + m % 2 ^ k) =
    ap (λ (z : ℕ). 2 ^ suc k - 1 - z) (and_mask m (suc k) ∙ ap (λ (z : ℕ). m % 2 ^ z) (suc_one k) ∙ mod-pow-add m 1 k)
    ∙ ap (λ (z : ℕ). z - 1 - ((m / 2 ^ k % 2) * 2 ^ k + m % 2 ^ k)) (pow-suc 2 k) in
    let g : unset_below k m ≡ 2 ^ k - 1 - m % 2 ^ k = ap (λ (z : ℕ). 2 ^ k - 1 - z) (and_mask m k) in
    ap (λ (z : ℕ). eqb z 0) e
    ∙ by_digit (m / 2 ^ k % 2) (mod-lt (m / 2 ^ k) (zero-lt-suc 1))
    (λ z. rw z (gap (2 ^ k) (m % 2 ^ k) (pow_pos k) (mod-lt m (pow_pos k)) ∙ sym (and-false (eqb (unset_below k m) 0))))
    (λ z. rw z (kept (2 ^ k) (m % 2 ^ k) (pow_pos k) (mod-lt m (pow_pos k)) ∙ sym (ap (λ (y : ℕ). eqb y 0) g) ∙ sym (and-true (eqb (unset_below k m) 0))))
  where
    suc_one : (k : ℕ) → suc k ≡ 1 + k
    suc_one k = omega arith

    gap : (p r : ℕ) → 0 < p → r < p → eqb (p * 2 - 1 - (0 * p + r)) 0 ≡ false
    gap p r h l = ne_eqb (p * 2 - 1 - (0 * p + r)) 0 (λ (e : p * 2 - 1 - (0 * p + r) ≡ 0). omega arith)

    kept : (p r : ℕ) → 0 < p → r < p → eqb (p * 2 - 1 - (1 * p + r)) 0 ≡ eqb (p - 1 - r) 0
    kept p r h l = let e : p * 2 - 1 - (1 * p + r) ≡ p - 1 - r = omega arith in ap (λ (z : ℕ). eqb z 0) e

pub unset_none : (m : ℕ) → eqb (unset_below 0 m) 0 ≡ true
unset_none m = eq-eqb (unset_below 0 m) 0 (omega arith)
