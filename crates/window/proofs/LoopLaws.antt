-- What a loop comes to at one index more, and at an index that decides it.
use mathlib.Core.Path.{◌≡◌, refl, sym, ap, ◌∙◌}
use mathlib.Core.Bool.{Bool, true, false, ◌||◌, and-true, and-false, or-true, or-false}
use mathlib.Core.List.{List}
use Prim.Native.Nat.{ℕ, zero, suc, ◌+◌, ◌<◌}
use native.Mathlib.Numerals.{add-one}
use native.Mathlib.Omega.{arith}
use lib.ListN.{get_or, set, length, take}
use Rattle.std.proofs.lemmas.List.{get_or-take, length-take}
use Rattle.schedule.proofs.Tests.{by_lt}
use Rattle.window.specs.Loops.{some_below, all_below, replaced, in_turn}

module _ (p : ℕ → Bool) where
  -- some index passes
  pub some_more : (i : ℕ) {a b : Bool} → a ≡ some_below p i → b ≡ p i → (a || b) ≡ some_below p (i + 1)
  unfolding some_below
  some_more i e f = rw (add-one i, e, f)

  pub some_yes : (i : ℕ) → p i ≡ true → true ≡ some_below p (i + 1)
  unfolding some_below
  some_yes i e = rw (add-one i, e) (sym (or-true (some_below p i)))

  pub some_no : (i : ℕ) → p i ≡ false → some_below p i ≡ some_below p (i + 1)
  unfolding some_below
  some_no i e = rw (add-one i, e) (sym (or-false (some_below p i)))

  pub some_found : (n i : ℕ) → i < n → p i ≡ true → true ≡ some_below p n
  unfolding some_below
  some_found zero i h e = absurd (omega arith)
  some_found (suc n) i h e =
      by_lt i n
      (λ l. rw (← some_found n i l e))
      (λ l. let g : n ≡ i = omega arith in rw (g, e) (sym (or-true (some_below p i))))

  -- each index passes
  pub all_yes : (i : ℕ) → p i ≡ true → all_below p i ≡ all_below p (i + 1)
  unfolding all_below
  all_yes i e = rw (add-one i, e) (sym (and-true (all_below p i)))

  pub all_missed : (n i : ℕ) → i < n → p i ≡ false → false ≡ all_below p n
  unfolding all_below
  all_missed zero i h e = absurd (omega arith)
  all_missed (suc n) i h e =
      by_lt i n
      (λ l. rw (← all_missed n i l e))
      (λ l. let g : n ≡ i = omega arith in rw (g, e) (sym (and-false (all_below p i))))

  pub all_true : (n : ℕ) → ((i : ℕ) → i < n → p i ≡ true) → true ≡ all_below p n
  unfolding all_below
  all_true zero h = refl
  all_true (suc n) h = rw (← all_true n (λ i l. h i (omega arith)), h n (omega arith))

  -- two tests that agree
  pub all_same : (q : ℕ → Bool) (n : ℕ) → ((i : ℕ) → i < n → p i ≡ q i) → all_below p n ≡ all_below q n
  unfolding all_below
  all_same q zero h = refl
  all_same q (suc n) h = rw (all_same q n (λ i l. h i (omega arith)), h n (omega arith))

module _ {A : Type 0} where
  pub replaced_more : (f : ℕ → A) (xs : List A) (i : ℕ) {u : List A} {x : A} → u ≡ replaced f xs i → x ≡ f i → set u i x ≡ replaced f xs (i + 1)
  unfolding replaced
  replaced_more f xs i e g = rw (add-one i, e, g)

  pub turn_more : (f : A → ℕ → A) (a : A) (i : ℕ) {u v : A} → u ≡ in_turn f a i → v ≡ f u i → v ≡ in_turn f a (i + 1)
  unfolding in_turn
  turn_more f a i e g = rw (add-one i) (g ∙ ap (λ (w : A). f w i) e)

-- an item of the first n
pub first_item : {A : Type 0} (n : ℕ) (xs : List A) (i : ℕ) (d : A) → i < length (take n xs) → get_or (take n xs) i d ≡ get_or xs i d
first_item n xs i d h = let l : i < n = omega (arith, length-take n xs) in get_or-take n xs i d l
