-- What a loop over the indexes below n comes to, by recursion on n as the loop goes.
use Rattle.std.specs.Prelude.{Bool, true, false, ◌&&◌, ◌||◌, List, ℕ, zero, suc, set}

-- some, or each, index passes a test
unfoldable pub some_below : (ℕ → Bool) → ℕ → Bool
some_below p zero = false
some_below p (suc n) = some_below p n || p n

unfoldable pub all_below : (ℕ → Bool) → ℕ → Bool
all_below p zero = true
all_below p (suc n) = all_below p n && p n

module _ {A : Type 0} where
  -- the first n entries of a list replaced by f 0, f 1, ..
  unfoldable pub replaced : (ℕ → A) → List A → ℕ → List A
  replaced f xs zero = xs
  replaced f xs (suc n) = set (replaced f xs n) n (f n)

  -- a value changed at each index in turn
  unfoldable pub in_turn : (A → ℕ → A) → A → ℕ → A
  in_turn f a zero = a
  in_turn f a (suc n) = f (in_turn f a n) n
