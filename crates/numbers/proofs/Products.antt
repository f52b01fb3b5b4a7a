-- The product of two numbers of 32 bits fits 64.
use Prim.Native.Nat.{ℕ, ◌*◌, ◌^◌, ◌<◌}
use native.Mathlib.Nat.{le_of_lt, lt_of_le_of_lt, mul-le-mul_left, mul-lt-mul_of_pos_right}
use lib.Pow.{pow_pos}

pub product_fits : {a b : ℕ} → a < 2 ^ 32 → b < 2 ^ 32 → a * b < 2 ^ 64
product_fits {a} {b} h l = lt_of_le_of_lt (mul-le-mul_left a (le_of_lt l)) (mul-lt-mul_of_pos_right h (pow_pos 32))
