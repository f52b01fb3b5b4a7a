-- Where a byte of a line stands, as the code keeps it: for the proof, and proved to be the rules' own (proofs/Unpadding.antt).
use Rattle.std.specs.Prelude.{Bool, true, false, ◌&&◌, cond, ℕ, eqb}
use Rattle.format.specs.Bytes.{equals, digit_zero, is_digit}
use Rattle.mending.specs.declared.place.Place.{Place}
use Rattle.mending.specs.declared.place.Place.TheVariants.{Key, Outside, Run, Zero}

abbrev pub is_zero : Place → Bool
is_zero Key = false
is_zero Outside = false
is_zero Run = false
is_zero Zero = true

abbrev pub opens : Place → Bool
opens Key = false
opens Outside = true
opens Run = false
opens Zero = true

abbrev pub broken : Place → Place
broken Key = Key
broken Outside = Outside
broken Run = Outside
broken Zero = Outside

abbrev pub settled : Place → ℕ → Place
settled p n = cond (eqb n 0) p (broken p)

abbrev pub begins : ℕ → Place
begins c = cond (eqb c digit_zero) Zero (cond (is_digit c) Run Outside)

abbrev pub in_key : ℕ → Place
in_key c = cond (eqb c equals) Outside Key

abbrev pub in_run : ℕ → Place
in_run c = cond (is_digit c) Run Outside

abbrev pub next : Place → ℕ → Place
next Key c = in_key c
next Outside c = begins c
next Run c = in_run c
next Zero c = begins c

abbrev pub goes : Place → ℕ → Bool
goes p c = is_zero p && is_digit c

abbrev pub holds : Place → ℕ → Bool
holds p c = opens p && eqb c digit_zero
