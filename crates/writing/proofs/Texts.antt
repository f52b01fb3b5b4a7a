-- The text of a list, entry by entry: one more entry, and that the text so far with one more entry fits where the whole fits.
use mathlib.Core.Path.{◌≡◌, refl, sym, ap, ◌∙◌}
use mathlib.Core.List.{List, [], ◌∷◌, ◌++◌, append_assoc, append-nil}
use Prim.Native.Nat.{ℕ, ◌+◌, ◌-◌, ◌≤◌, ◌<◌}
use native.Mathlib.Numerals.{add-one}
use native.Mathlib.Omega.{arith}
use lib.ListN.{length, take, drop, get_or, length-append}
use lib.Seq.{take-suc, take-add}

abbrev pub texts : {A : Type 0} → (A → List ℕ) → List A → List ℕ
texts f [] = []
texts f (x ∷ xs) = f x ++ texts f xs

texts_append : {A : Type 0} (f : A → List ℕ) (xs ys : List A) → texts f (xs ++ ys) ≡ texts f xs ++ texts f ys
texts_append f [] ys = refl
texts_append f (x ∷ xs) ys = ap (λ (l : List ℕ). f x ++ l) (texts_append f xs ys) ∙ sym (append_assoc (f x) (texts f xs) (texts f ys))

module _ {A : Type 0} (f : A → List ℕ) (l : List A) (i : ℕ) (d : A) (inside : i < length l) where
  pub one_more_lem : texts f (take (i + 1) l) ≡ texts f (take i l) ++ f (get_or l i d)
  one_more_lem =
      ap (λ (k : ℕ). texts f (take k l)) (add-one i)
      ∙ ap (texts f) (take-suc l i d inside)
      ∙ texts_append f (take i l) (get_or l i d ∷ [])
      ∙ ap (λ (t : List ℕ). texts f (take i l) ++ t) (append-nil (f (get_or l i d)))

  pub fits : (n : ℕ) → i < n → length (texts f (take i l)) + length (f (get_or l i d)) ≤ length (texts f (take n l))
  fits n h =
      let k : ℕ = i + 1 in
      let m : ℕ = n - k in
      let whole : texts f (take n l) ≡ texts f (take k l) ++ texts f (take m (drop k l)) =
      ap (λ (j : ℕ). texts f (take j l)) {x = n} {y = k + m} (omega arith) ∙ ap (texts f) (take-add k m l) ∙ texts_append f (take k l) (take m (drop k l)) in
      omega (
        arith,
        ap length whole ∙ length-append (texts f (take k l)) (texts f (take m (drop k l))),
        ap length one_more_lem ∙ length-append (texts f (take i l)) (f (get_or l i d)),
      )
