-- A test of each index below a number, as std's ranges and slices say it; and the first entries of a list copied.
use mathlib.Core.Path.{◌≡◌, refl, sym, ap, ◌∙◌}
use mathlib.Core.Bool.{Bool, ◌&&◌, and-true}
use mathlib.Core.List.{List, [], ◌∷◌, ◌++◌}
use Prim.Native.Nat.{ℕ, zero, suc, ◌+◌, ◌-◌, ◌≤◌}
use native.Mathlib.Omega.{arith}
use lib.ListN.{get_or, length, take, drop, length-append, length-drop}
use lib.Pointwise.{pointwise}
use Rattle.std.specs.List.{range_with_len, list_all}
use Rattle.std.proofs.Math.Bool.{and_assoc}
use Rattle.std.proofs.Math.ListN.{get_or-append}
use Rattle.std.proofs.lemmas.List.{get_or-take, get_or-drop, get_or-append_right, length-take-le}
use Rattle.window.specs.Loops.{all_below, replaced}
use Rattle.window.proofs.LoopLaws.{all_same}
use Rattle.window.proofs.Loops.{first_replaced}

-- the test of index 0 first
all_front : (p : ℕ → Bool) (n : ℕ) → all_below p (suc n) ≡ (p 0 && all_below (λ (i : ℕ). p (suc i)) n)
unfolding all_below
all_front p zero = sym (and-true (p 0))
all_front p (suc n) = ap (λ (b : Bool). b && p (suc n)) (all_front p n) ∙ and_assoc (p 0) (all_below (λ (i : ℕ). p (suc i)) n) (p (suc n))

all_from : (p : ℕ → Bool) (a n : ℕ) → list_all p (range_with_len a n) ≡ all_below (λ (i : ℕ). p (a + i)) n
unfolding all_below
all_from p a zero = refl
all_from p a (suc n) =
    let at : a + 0 ≡ a = omega arith in
    ap (λ (b : Bool). p a && b) (all_from p (a + 1) n ∙ all_same (λ (i : ℕ). p (a + 1 + i)) (λ (i : ℕ). p (a + suc i)) n (λ i l. ap p (omega arith)))
    ∙ sym (all_front (λ (i : ℕ). p (a + i)) n ∙ ap (λ (k : ℕ). p k && all_below (λ (i : ℕ). p (a + suc i)) n) at)

pub all_range : (p : ℕ → Bool) (n : ℕ) → list_all p (range_with_len 0 n) ≡ all_below p n
all_range p n = all_from p 0 n ∙ all_same (λ (i : ℕ). p (0 + i)) p n (λ i l. ap p (omega arith))

-- two lists that are the same in their first n entries
module _ {A : Type 0} (same : A → A → Bool) (d : A) where
  pub first_same : (n : ℕ) (xs ys : List A) → n ≤ length xs → n ≤ length ys
      → pointwise same (take n xs) (take n ys) ≡ all_below (λ (i : ℕ). same (get_or xs i d) (get_or ys i d)) n
  unfolding all_below
  first_same zero xs ys h l = refl
  first_same (suc n) [] ys h l = absurd (omega arith)
  first_same (suc n) (x ∷ xs) [] h l = absurd (omega arith)
  first_same (suc n) (x ∷ xs) (y ∷ ys) h l =
      ap (λ (b : Bool). same x y && b) (first_same n xs ys (omega arith) (omega arith))
      ∙ sym (all_front (λ (i : ℕ). same (get_or (x ∷ xs) i d) (get_or (y ∷ ys) i d)) n)

  -- and in n entries from `base` on
  pub middle_same : (base n : ℕ) (xs ys : List A) → base + n ≤ length xs → base + n ≤ length ys
      → pointwise same (take (base + n - base) (drop base xs)) (take (base + n - base) (drop base ys))
      ≡ all_below (λ (i : ℕ). same (get_or xs (base + i) d) (get_or ys (base + i) d)) n
  middle_same base n xs ys h l =
      let e : base + n - base ≡ n = omega arith in
      rw e (first_same n (drop base xs) (drop base ys) (omega (arith, length-drop base xs)) (omega (arith, length-drop base ys))
      ∙ all_same (λ (i : ℕ). same (get_or (drop base xs) i d) (get_or (drop base ys) i d)) (λ (i : ℕ). same (get_or xs (base + i) d) (get_or ys (base + i) d)) n
      (λ i q. rw (get_or-drop base xs i d, get_or-drop base ys i d)))

-- the first entries of a list copied over those of another
pub copied : {A : Type 0} (d : A) (n : ℕ) (to from u : List A) → n ≤ length to → n ≤ length from → u ≡ take n from
    → u ++ drop n to ≡ replaced (λ (i : ℕ). get_or from i d) to n
copied d n to from u h l e =
    let long : length u ≡ n = ap (λ (x : List _). length x) e ∙ length-take-le n from l in
    first_replaced (λ (i : ℕ). get_or from i d) to (u ++ drop n to) n d (omega (arith, length-append u (drop n to), length-drop n to)) h
    (λ i q. get_or-append u (drop n to) d i (omega arith) ∙ ap (λ (x : List _). get_or x i d) e ∙ get_or-take n from i d q)
    (λ i q. get_or-append_right u (drop n to) n i d long q ∙ get_or-drop n to (i - n) d ∙ ap (λ (k : ℕ). get_or to k d) (omega arith))
