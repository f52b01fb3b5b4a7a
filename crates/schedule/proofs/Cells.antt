-- A table of numbers that is written out is the function that it was written from, and 0 outside; and an entry of a mapped list.
use mathlib.Core.Path.{◌≡◌, refl, ap, ◌∙◌}
use mathlib.Core.List.{List, [], ◌∷◌, map}
use Prim.Native.Nat.{ℕ, zero, suc, ◌+◌, ◌≤◌, ◌<◌}
use native.Mathlib.Nat.{add-zero, zero-add, le_of_suc-le-suc, not-suc-le-zero}
use native.Mathlib.Omega.{arith}
use lib.ListN.{length, get_or}
use Rattle.schedule.specs.Lists.{tab, nth, cell, written}
use Rattle.schedule.proofs.Tests.{by_lt}

module _ {B : Type 0} where
  pub get_or_tab : (f : ℕ → B) (a n i : ℕ) (d : B) → i < n → get_or (tab f a n) i d ≡ f (a + i)
  get_or_tab f a zero i d h = absurd (not-suc-le-zero h)
  get_or_tab f a (suc n) zero d h = rw add-zero
  get_or_tab f a (suc n) (suc i) d h = get_or_tab f (suc a) n i d (le_of_suc-le-suc h) ∙ ap f (omega arith)

  get_or_tab_out : (f : ℕ → B) (a n i : ℕ) (d : B) → n ≤ i → get_or (tab f a n) i d ≡ d
  get_or_tab_out f a zero i d h = refl
  get_or_tab_out f a (suc n) zero d h = absurd (not-suc-le-zero h)
  get_or_tab_out f a (suc n) (suc i) d h = get_or_tab_out f (suc a) n i d (le_of_suc-le-suc h)

-- an entry of a list whose entries were all mapped
pub get_d_map : {A B : Type 0} (f : A → B) (l : List A) (k : ℕ) (d : A) (e : B) → k < length l → get_or (map f l) k e ≡ f (get_or l k d)
get_d_map f [] k d e h = absurd (not-suc-le-zero h)
get_d_map f (x ∷ xs) zero d e h = refl
get_d_map f (x ∷ xs) (suc k) d e h = get_d_map f xs k d e (omega arith)

nth_tab : (f : ℕ → ℕ) (n k : ℕ) → 1 ≤ k → k ≤ n → nth (tab f 1 n) k ≡ f k
nth_tab f n zero h u = absurd (not-suc-le-zero h)
nth_tab f n (suc k) h u = get_or_tab f 1 n k 0 u ∙ ap f (omega arith)

nth_tab_out : (f : ℕ → ℕ) (n k : ℕ) → n < k → nth (tab f 1 n) k ≡ 0
nth_tab_out f n zero h = refl
nth_tab_out f n (suc k) h = get_or_tab_out f 1 n k 0 (le_of_suc-le-suc h)

pub nth_nil : (k : ℕ) → nth [] k ≡ 0
nth_nil zero = refl
nth_nil (suc k) = refl

module _ (n : ℕ) (w : ℕ → ℕ) (f : ℕ → ℕ → ℕ) where
  abbrev row : ℕ → List ℕ
  row i = tab (f i) 1 (w i)

  cell_row : (i k : ℕ) → i < n → cell (written n w f) i k ≡ nth (row i) k
  cell_row i k h = ap (λ (l : List ℕ). nth l k) (get_or_tab row 0 n i [] h ∙ ap row (zero-add i))

  pub cell_no_row : (i k : ℕ) → n ≤ i → cell (written n w f) i k ≡ 0
  cell_no_row i k h = ap (λ (l : List ℕ). nth l k) (get_or_tab_out row 0 n i [] h) ∙ nth_nil k

  pub cell_out : (i k : ℕ) → w i < k → cell (written n w f) i k ≡ 0
  cell_out i k b = by_lt i n (λ h. cell_row i k h ∙ nth_tab_out (f i) (w i) k b) (λ h. cell_no_row i k h)

  pub cell_in : (i k : ℕ) → i < n → 1 ≤ k → k ≤ w i → cell (written n w f) i k ≡ f i k
  cell_in i k h a b = cell_row i k h ∙ nth_tab (f i) (w i) k a b
