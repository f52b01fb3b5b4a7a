-- Counting, tests over lists, and tables of numbers that are written out once.
use Rattle.std.specs.Prelude.{Bool, true, false, ◌&&◌, ◌||◌, cond, List, [], ◌∷◌, ◌++◌, ℕ, zero, suc, ◌+◌, max, eqb, get_or}
use Rattle.std.proofs.Math.Option.{Option, none, some}

-- 1 for a test that passes, 0 for one that fails
abbrev pub one? : Bool → ℕ
one? true = 1
one? false = 0

module _ {A : Type 0} where
  -- how many entries pass the test
  abbrev pub count : (A → Bool) → List A → ℕ
  count p [] = 0
  count p (x ∷ xs) = one? (p x) + count p xs

  abbrev pub any? : (A → Bool) → List A → Bool
  any? p [] = false
  any? p (x ∷ xs) = p x || any? p xs

  abbrev pub all? : (A → Bool) → List A → Bool
  all? p [] = true
  all? p (x ∷ xs) = p x && all? p xs

  -- the entries that pass, in their order
  abbrev pub keep : (A → Bool) → List A → List A
  keep p [] = []
  keep p (x ∷ xs) = cond (p x) (x ∷ keep p xs) (keep p xs)

  -- the sum, and the largest (0 where there is none), of a number of each entry
  abbrev pub sum : (A → ℕ) → List A → ℕ
  sum f [] = 0
  sum f (x ∷ xs) = f x + sum f xs

  abbrev pub largest : (A → ℕ) → List A → ℕ
  largest f [] = 0
  largest f (x ∷ xs) = max (f x) (largest f xs)

  -- two lists whose entries agree, one by one, by a test on two entries
  abbrev pub alike : (A → A → Bool) → List A → List A → Bool
  alike same [] [] = true
  alike same [] (y ∷ ys) = false
  alike same (x ∷ xs) [] = false
  alike same (x ∷ xs) (y ∷ ys) = same x y && alike same xs ys

module _ {B : Type 0} where
  -- f a, f (a + 1), .., n entries; and such lists one after the other
  abbrev pub tab : (ℕ → B) → ℕ → ℕ → List B
  tab f a zero = []
  tab f a (suc n) = f a ∷ tab f (suc a) n

  abbrev pub joined : (ℕ → List B) → ℕ → ℕ → List B
  joined f a zero = []
  joined f a (suc n) = f a ++ joined f (suc a) n

-- n numbers from a on; and 1 to n
abbrev pub numbers : ℕ → ℕ → List ℕ
numbers a n = tab (λ (k : ℕ). k) a n

abbrev pub up_to : ℕ → List ℕ
up_to n = numbers 1 n

-- entry k of a list, counted from 1; 0 where there is none
abbrev pub nth : List ℕ → ℕ → ℕ
nth l zero = 0
nth l (suc k) = get_or l k 0

-- row i (from 0), entry k (from 1) of a table of numbers; 0 where there is none
abbrev pub cell : List (List ℕ) → ℕ → ℕ → ℕ
cell σ i k = nth (get_or σ i []) k

-- f i k for each row i below n and each k from 1 to w i, written out
abbrev pub written : ℕ → (ℕ → ℕ) → (ℕ → ℕ → ℕ) → List (List ℕ)
written n w f = tab (λ (i : ℕ). tab (f i) 1 (w i)) 0 n

abbrev pub same_option : Option ℕ → Option ℕ → Bool
same_option none none = true
same_option none (some y) = false
same_option (some x) none = false
same_option (some x) (some y) = eqb x y
