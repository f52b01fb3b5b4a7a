-- Spelling, judged byte after byte: each scanner goes over the bytes from the left, and stops at the first byte that no text of its form
-- has after the bytes before it.
use Rattle.std.specs.Prelude.{Bool, false, cond, ℕ, zero, suc, ◌+◌, ◌*◌, eqb, length}
use mathlib.Core.List.{List, [], ◌∷◌, tail}
use Rattle.format.specs.Bytes.{bytes, line_feed, equals, comma, digit_zero, is_digit, value_of}

-- what a scanner finds: a value and the bytes after it; or that the spelling goes wrong, and the bytes from there on
pub data Scan (A : Type 0) : Type 0 where
  read : A → List ℕ → Scan A
  wrong : List ℕ → Scan A

module _ {A B : Type 0} where
  infixl 20 ◌⟫◌
  -- one scanner after the other
  abbrev pub ◌⟫◌ : Scan A → (A → List ℕ → Scan B) → Scan B
  (read a rest) ⟫ f = f a rest
  (wrong rest) ⟫ f = wrong rest

-- the bytes t, and no others
unfoldable pub text : List ℕ → List ℕ → Scan (Unit {0})
text [] s = read tt s
text (t ∷ ts) [] = wrong []
text (t ∷ ts) (c ∷ rest) = let r : Scan (Unit {0}) = text ts rest in cond (eqb c t) r (wrong (c ∷ rest))

-- the digits that follow a number of value v, taken into it. A value is a natural number of any size: nothing wraps
unfoldable pub digits : ℕ → List ℕ → Scan ℕ
digits v [] = read v []
digits v (c ∷ rest) = let r : Scan ℕ = digits (v * 10 + value_of c) rest in cond (is_digit c) r (read v (c ∷ rest))

-- a number: `0`, or digits the first of which is no 0; of any length
unfoldable pub number : List ℕ → Scan ℕ
number [] = wrong []
number (c ∷ rest) =
    let r : Scan ℕ = digits (value_of c) rest in
    cond (is_digit c) (cond (eqb c digit_zero) (read 0 rest) r) (wrong (c ∷ rest))

-- the next byte is c
abbrev pub next? : ℕ → List ℕ → Bool
next? c [] = false
next? c (x ∷ rest) = eqb x c

-- one or more numbers parted by single commas; `most` bounds how many
unfoldable pub numbers_by : ℕ → List ℕ → Scan (List ℕ)
numbers_by zero s = wrong s
numbers_by (suc most) s =
    number s ⟫ λ v rest.
    let more : Scan (List ℕ) = numbers_by most (tail rest) ⟫ (λ vs end. read (v ∷ vs) end) in
    cond (next? comma rest) more (read (v ∷ []) rest)

-- each number takes a byte, so there are at most as many as bytes
unfoldable pub numbers : List ℕ → Scan (List ℕ)
numbers s = numbers_by (suc (length s)) s

-- what stands after `after=`: `none`, or one or more numbers
abbrev pub letter_n : ℕ
letter_n = 110

unfoldable pub list : List ℕ → Scan (List ℕ)
list s =
    let empty : Scan (List ℕ) = text (bytes "none") s ⟫ (λ u rest. read [] rest) in
    let some : Scan (List ℕ) = numbers s in
    cond (next? letter_n s) empty some

-- how a line begins: the key's name and `=`
abbrev pub heading : List ℕ → List ℕ → Scan (Unit {0})
heading name s = text name s ⟫ λ u rest. text (equals ∷ []) rest

-- a line: its heading, a value, LF
module _ {A : Type 0} where
  abbrev pub line : List ℕ → (List ℕ → Scan A) → List ℕ → Scan A
  line name value s =
      heading name s ⟫ λ u s.
      value s ⟫ λ v s.
      text (line_feed ∷ []) s ⟫ λ u s.
      read v s
