-- A list in which `one` has taken the place of as many entries from `start` on: what stands before its end, and what stands behind.
use mathlib.Core.Path.{◌≡◌, sym, ap, ◌∙◌}
use mathlib.Core.List.{List, [], ◌∷◌, ◌++◌, append_assoc}
use Prim.Native.Nat.{ℕ, suc, ◌+◌, ◌≤◌, ◌<◌}
use native.Mathlib.Omega.{arith}
use lib.ListN.{length, take, drop, set, length-append, length-drop}
use lib.Seq.{length-take-le, take_at, drop_at, drop-drop, set_split}

module _ {A : Type 0} where
  abbrev pub placed : ℕ → List A → List A → List A
  placed start one xs = take start xs ++ (one ++ drop (length one) (drop start xs))

  -- a list whose part from `start` on, m entries, is `part`
  abbrev pub with_part : ℕ → List A → ℕ → List A → List A
  with_part start part m xs = take start xs ++ (part ++ drop (start + m) xs)

  module _ (start : ℕ) (one xs : List A) (room : start + length one ≤ length xs) where
    head_length : length (take start xs ++ one) ≡ start + length one
    head_length = rw (length-append (take start xs) one, length-take-le start xs (omega arith))

    parted_at : placed start one xs ≡ (take start xs ++ one) ++ drop (length one) (drop start xs)
    parted_at = sym (append_assoc (take start xs) one (drop (length one) (drop start xs)))

    pub taken : take (start + length one) (placed start one xs) ≡ take start xs ++ one
    taken = ap (take (start + length one)) parted_at ∙ take_at (take start xs ++ one) _ (start + length one) head_length

    pub dropped : drop (start + length one) (placed start one xs) ≡ drop (length one) (drop start xs)
    dropped = ap (drop (start + length one)) parted_at ∙ drop_at (take start xs ++ one) _ (start + length one) head_length

    pub length_placed : length (placed start one xs) ≡ length xs
    length_placed =
        ap length parted_at ∙ length-append (take start xs ++ one) _
        ∙ rw (head_length, length-drop (length one) (drop start xs), length-drop start xs) (omega arith)

    pub behind : (m : ℕ) → drop (start + length one + m) (placed start one xs) ≡ drop (start + length one + m) xs
    behind m =
        sym (drop-drop m (start + length one) (placed start one xs)) ∙ ap (drop m) (dropped ∙ drop-drop (length one) start xs)
        ∙ drop-drop m (start + length one) xs

    -- the part goes on behind `one`
    pub goes_on : (more : List A) (m : ℕ) → with_part start (one ++ more) (length one + m) xs ≡ with_part (start + length one) more m (placed start one xs)
    goes_on more m =
        let e : start + (length one + m) ≡ start + length one + m = omega arith in
        rw (e, taken, behind m, append_assoc one more (drop (start + length one + m) xs), append_assoc (take start xs) one (more ++ drop (start + length one + m) xs))

  -- an entry that is set is placed
  pub set_placed : (xs : List A) (i : ℕ) (x : A) → i < length xs → set xs i x ≡ placed i (x ∷ []) xs
  set_placed xs i x h = let e : i + 1 ≡ suc i = omega arith in set_split xs i x h ∙ rw (drop-drop 1 i xs, e)
