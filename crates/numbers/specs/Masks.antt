-- A set of numbers below 32 as one number, its mask: bit k is set where k is in the set.
use Rattle.std.specs.Prelude.{Bool, cond, ℕ, zero, suc, ◌-◌, ◌/◌, ◌%◌, ◌^◌, ltb, eqb}
use Rattle.std.specs.Int.Bits.{bit_and, bit_or, bit_xor}
use Rattle.schedule.specs.Lists.{count, numbers}

abbrev pub width : ℕ
width = 32

abbrev pub bit : ℕ → ℕ → Bool
bit m k = eqb (m / 2 ^ k % 2) 1

-- k put into the set, where there is room for it, and taken out of it
abbrev pub with : ℕ → ℕ → ℕ
with m k = cond (ltb k width) (bit_or m (2 ^ k)) m

abbrev pub without : ℕ → ℕ → ℕ
without m k = cond (bit m k) (bit_xor m (2 ^ k)) m

-- how many bits are set
unfoldable pub ones : ℕ → ℕ
ones m = count (bit m) (numbers 0 width)

-- the first of n bits from bit k on that is set; the bit after them where none is
unfoldable pub lowest_from : ℕ → ℕ → ℕ → ℕ
lowest_from zero k m = k
lowest_from (suc n) k m = let later : ℕ = lowest_from n (suc k) m in cond (bit m k) k later

unfoldable pub lowest : ℕ → ℕ
lowest m = lowest_from width 0 m

-- the bits below k that are not set
abbrev pub unset_below : ℕ → ℕ → ℕ
unset_below k m = 2 ^ k - 1 - bit_and m (2 ^ k - 1)
