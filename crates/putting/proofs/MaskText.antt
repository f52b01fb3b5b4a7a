-- The text of the numbers in a mask: `none` for 0; else that of the lowest, and of the mask without it.
use mathlib.Core.Path.{◌≡◌, refl, sym, ap, subst, ◌∙◌}
use mathlib.Core.Bool.{Bool, true, false, ◌&&◌, not, cond, and-false, false≢true}
use mathlib.Core.List.{List, [], ◌∷◌, ◌++◌}
use Prim.Native.Nat.{ℕ, zero, suc, ◌+◌, ◌-◌, ◌^◌, ◌<◌, ◌≤◌}
use native.Mathlib.Numerals.{add-one}
use native.Mathlib.Omega.{arith}
use lib.Arith.{lt_of_le-ne}
use lib.Dec.{eqb}
use lib.Seq.{append_snoc}
use borrow.Author.Tests.{eq-eqb, ne_eqb, eqb-true, eqb-false}
use Rattle.schedule.specs.Lists.{keep, numbers}
use Rattle.schedule.proofs.Tests.{by_lt, by_test}
use Rattle.format.specs.Bytes.{bytes, line_feed, comma, decimal}
use Rattle.numbers.specs.Masks.{width, bit, without, lowest}
use Rattle.numbers.proofs.MaskLaws.{bit_without, below_lowest, lowest_set, lowest_below}
use Rattle.writer.specs.Writing.{numbers_text, list_text}
use Rattle.memory.specs.Plain.{numbers_in}
use Rattle.memory.proofs.MaskNumbers.{no_numbers}
use Rattle.writing.specs.Line.{ended}
use Rattle.putting.specs.Texts.{list_ended}

abbrev picked : ℕ → ℕ → ℕ → List ℕ
picked m a n = keep (λ (p : ℕ). bit m (p - 1)) (numbers (suc a) n)

-- with the same bits the same numbers
picked_alike : (m o n a : ℕ) → ((j : ℕ) → a ≤ j → bit m j ≡ bit o j) → picked m a n ≡ picked o a n
picked_alike m o zero a h = refl
picked_alike m o (suc n) a h =
    let e : suc a - 1 ≡ a = omega arith in
    let rest = picked_alike m o n (suc a) (λ j l. h j (omega arith)) in
    rw (e, h a (omega arith)) (ap (λ (l : List ℕ). cond (bit o a) (suc a ∷ l) l) rest)

-- the lowest is the first of them: k is at or past a, its bit is set, and none from a up to k is
module _ (m k : ℕ) (set : bit m k ≡ true) where
  same_bit : (j : ℕ) → (j ≡ k → ⊥) → bit (without m k) j ≡ bit m j
  same_bit j h = bit_without m k j ∙ rw (ne_eqb j k h) refl

  gone : bit (without m k) k ≡ false
  gone = bit_without m k k ∙ rw (eq-eqb k k refl) refl

  first_picked : (n a : ℕ) → a ≤ k → k < a + n → ((j : ℕ) → a ≤ j → j < k → bit m j ≡ false) → picked m a n ≡ suc k ∷ picked (without m k) a n
  first_picked zero a h l none = absurd (omega arith)
  first_picked (suc n) a h l none =
      by_test (eqb a k) (λ t. here (eqb-true a k t)) (λ t. later (eqb-false a k t) (first_picked n (suc a)))
    where
      back : suc a - 1 ≡ a
      back = omega arith

      here : a ≡ k → picked m a (suc n) ≡ suc k ∷ picked (without m k) a (suc n)
      here e =
          let s : bit m a ≡ true = ap (bit m) e ∙ set in
          let g : bit (without m k) a ≡ false = ap (bit (without m k)) e ∙ gone in
          rw (back, s, g) (ap (λ (z : ℕ). suc z ∷ picked m (suc a) n) e
          ∙ ap (λ (z : List ℕ). suc k ∷ z) (picked_alike m (without m k) n (suc a) (λ j i. sym (same_bit j (λ (f : j ≡ k). omega arith)))))

      later : (a ≡ k → ⊥) → (suc a ≤ k → k < suc a + n → ((j : ℕ) → suc a ≤ j → j < k → bit m j ≡ false) → picked m (suc a) n ≡ suc k ∷ picked (without m k) (suc a) n)
          → picked m a (suc n) ≡ suc k ∷ picked (without m k) a (suc n)
      later d ih =
          let c : bit m a ≡ false = none a (omega arith) (omega (arith, d)) in
          let g : bit (without m k) a ≡ false = same_bit a d ∙ c in
          rw (back, c, g) (ih (omega (arith, d)) (omega arith) (λ j i b. none j (omega arith) b))

-- taking the lowest off leaves less
module _ (m : ℕ) (some : 0 < m) (wide : m < 2 ^ width) where
  inside : lowest m < width
  inside = lowest_below m some wide

  pub lowest_first : numbers_in m ≡ suc (lowest m) ∷ numbers_in (without m (lowest m))
  unfolding numbers_in
  lowest_first =
      first_picked m (lowest m) (lowest_set m inside) width 0 (omega arith) (omega (arith, inside)) (λ j i b. below_lowest m j b)

  pub last_text : without m (lowest m) ≡ 0 → ended (lowest m + 1) line_feed ≡ list_ended m
  unfolding list_text numbers_text
  last_text e =
      ap (λ (z : ℕ). decimal z ++ (line_feed ∷ [])) (add-one (lowest m))
      ∙ sym (ap (λ (l : List ℕ). list_text l (line_feed ∷ [])) (lowest_first ∙ ap (λ (z : ℕ). suc (lowest m) ∷ numbers_in z) e ∙ ap (λ (l : List ℕ). suc (lowest m) ∷ l) no_numbers))

pub more_text : (m : ℕ) → 0 < m → m < 2 ^ width → 0 < without m (lowest m) → without m (lowest m) < 2 ^ width
    → ended (lowest m + 1) comma ++ list_ended (without m (lowest m)) ≡ list_ended m
unfolding list_text numbers_text
more_text m some wide h w =
    let r = without m (lowest m) in
    let f = lowest_first r h w in
    append_snoc (decimal (lowest m + 1)) comma (list_ended r)
    ∙ ap (λ (z : ℕ). decimal z ++ (comma ∷ list_ended r)) (add-one (lowest m))
    ∙ ap (λ (l : List ℕ). decimal (suc (lowest m)) ++ (comma ∷ list_text l (line_feed ∷ []))) f
    ∙ sym (ap (λ (l : List ℕ). list_text l (line_feed ∷ [])) (lowest_first m some wide ∙ ap (λ (l : List ℕ). suc (lowest m) ∷ l) f))

none_text : bytes "none\n" ≡ list_ended 0
unfolding list_text
none_text = sym (ap (λ (l : List ℕ). list_text l (line_feed ∷ [])) no_numbers)

pub none_is : (m : ℕ) → m ≡ 0 → bytes "none\n" ≡ list_ended m
none_is m e = none_text ∙ ap list_ended (sym e)

-- by what code finds: the lowest bit k, and the mask r without it
pub lowest_inside : (m : ℕ) → 0 < m → m < 2 ^ width → lowest m < width
lowest_inside m some wide = lowest_below m some wide

module _ (m k r : ℕ) (some : 0 < m) (wide : m < 2 ^ width) (e : k ≡ lowest m) (f : r ≡ without m k) where
  rest_is : r ≡ without m (lowest m)
  rest_is = f ∙ ap (without m) e

  pub last_number : r ≡ 0 → ended (k + 1) line_feed ≡ list_ended m
  last_number z = ap (λ (j : ℕ). ended (j + 1) line_feed) e ∙ last_text m some wide (sym rest_is ∙ z)

  pub more_numbers : 0 < r → r < 2 ^ width → ended (k + 1) comma ++ list_ended r ≡ list_ended m
  more_numbers h w =
      ap (λ (j : ℕ). ended (j + 1) comma ++ list_ended r) e
      ∙ ap (λ (x : ℕ). ended (lowest m + 1) comma ++ list_ended x) rest_is
      ∙ more_text m some wide (subst (λ (x : ℕ). 0 < x) rest_is h) (subst (λ (x : ℕ). x < 2 ^ width) rest_is w)

  -- no bit up to the lowest is left
  none_left : (j : ℕ) → j ≤ lowest m → bit r j ≡ false
  none_left j h =
      ap (λ (x : ℕ). bit x j) rest_is
      ∙ bit_without m (lowest m) j
      ∙ by_test (eqb j (lowest m)) (λ t. rw t refl)
      (λ t. ap (λ (b : Bool). not (eqb j (lowest m)) && b) (below_lowest m j (lt_of_le-ne h (eqb-false j (lowest m) t))) ∙ and-false (not (eqb j (lowest m))))

  pub next_lowest : 0 < r → r < 2 ^ width → lowest m < lowest r
  next_lowest h w =
      by_lt (lowest m) (lowest r) (λ g. g)
      (λ g. absurd (false≢true (sym (none_left (lowest r) g) ∙ lowest_set r (lowest_below r h w))))
