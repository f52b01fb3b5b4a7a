-- Bytes of text: quoted text as bytes, and a number in decimal.
use Rattle.std.specs.Prelude.{Bool, ◌&&◌, cond, List, [], ◌∷◌, ◌++◌, ℕ, zero, suc, ◌+◌, ◌-◌, ◌/◌, ◌%◌, leb, ltb}
use Prim.Native.Char.{code}
use Prim.Native.String as Quoted
use Prim.Native.String.{String}

abbrev pub bytes : String → List ℕ
bytes Quoted.[] = []
bytes (Quoted.◌∷◌ c s) = code c ∷ bytes s

-- LF, `=`, `,` and `0`
abbrev pub line_feed : ℕ
line_feed = 10

abbrev pub equals : ℕ
equals = 61

abbrev pub comma : ℕ
comma = 44

abbrev pub digit_zero : ℕ
digit_zero = 48

-- a byte 0 to 9, and its value
abbrev pub is_digit : ℕ → Bool
is_digit c = leb digit_zero c && leb c (digit_zero + 9)

abbrev pub value_of : ℕ → ℕ
value_of c = c - digit_zero

-- the decimal digits of n with no leading zero. Each step takes a digit off, so n + 1 steps are enough
unfoldable pub decimal_by : ℕ → ℕ → List ℕ
decimal_by zero n = []
decimal_by (suc steps) n =
    let front : List ℕ = decimal_by steps (n / 10) ++ ((digit_zero + n % 10) ∷ []) in
    cond (ltb n 10) ((digit_zero + n) ∷ []) front

unfoldable pub decimal : ℕ → List ℕ
decimal n = decimal_by (suc n) n
