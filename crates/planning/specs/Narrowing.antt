-- The largest numbers of 16 and of 8 bits. These definitions, and all of this crate's, are for the proof and not for belief: they recurse as
-- the code's loops do, and what a reader believes is the rules.
use Rattle.std.specs.Prelude.{ℕ, ◌-◌, ◌^◌}

abbrev pub most16 : ℕ
most16 = 2 ^ 16 - 1

abbrev pub most8 : ℕ
most8 = 2 ^ 8 - 1
