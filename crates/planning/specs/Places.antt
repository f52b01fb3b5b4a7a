-- Masks by places. For the proof, not for belief.
use Rattle.std.specs.Prelude.{Bool, ◌&&◌, cond, ℕ, zero, suc, ◌-◌, leb}
use Rattle.numbers.specs.Masks.{width, bit, with}

-- the mask of those of n bits that pass a test
unfoldable pub mask_below : (ℕ → Bool) → ℕ → ℕ
mask_below test zero = 0
mask_below test (suc n) = cond (test n) (with (mask_below test n) n) (mask_below test n)

-- bit first + q for each bit q of a mask
abbrev pub at_places : ℕ → ℕ → ℕ
at_places mask first = mask_below (λ (p : ℕ). leb first p && bit mask (p - first)) width
