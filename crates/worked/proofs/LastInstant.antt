-- R-10 at the last instant: the 1 and 1 chain, from its bytes to the text of its row. The schedule itself cannot be computed so far; its row
-- past the stop is that of `far_row` (crate theorems), and that is computed.
use mathlib.Core.Path.{◌≡◌, refl, ap, subst}
use mathlib.Core.List.{[], ◌∷◌}
use Prim.Native.Nat.{ℕ}
use native.Mathlib.Omega.{arith}
use Rattle.schedule.specs.Table.{Table}
use Rattle.schedule.specs.Described.{alone, chain}
use Rattle.schedule.specs.Servers.{Box, box_of, whole}
use Rattle.schedule.specs.Walk.{Walked, settled, walked, whole_walk, row_at}
use Rattle.schedule.specs.FarRows.{matching, passed, far_row}
use Rattle.schedule.proofs.Walking.{one_pass_walk, same_walk}
use Rattle.format.specs.Bytes.{bytes}
use Rattle.rules.specs.Admission.{admitted, admission_of}
use Rattle.rules.specs.Answers.{says, row_text, has_row, row_on, row_of}
use Rattle.rules.specs.Cases.{chain_1_1}
use Rattle.rules.proofs.Computing.{answering}
use Rattle.rules.proofs.ReadWellFormed.{admitted_well_formed}
use Rattle.theorems.proofs.LeastTrue.{walk_of}
use Rattle.theorems.proofs.TableRows.{row_past_stop}

abbrev T : Table
T = alone 1 64 4 (chain 1 1)

abbrev last : ℕ
last = 4000000000

is_admitted : admission_of (bytes chain_1_1) ≡ admitted T
unfolding answering
is_admitted = refl

abbrev stops : Walked
stops = record { how = settled 2; ticks = 8; figures = 6 ∷ [] }

walk_computed : one_pass_walk (box_of T) ≡ stops
unfolding answering
walk_computed = refl

walk_is : whole_walk (box_of T) ≡ stops
walk_is = subst (λ (walk : Box → Walked). walk (box_of T) ≡ stops) same_walk walk_computed

how_is : (walk_of T).how ≡ settled 2
unfolding walked
how_is = ap (λ (w : Walked). w.how) walk_is

ticks_are : (walk_of T).ticks ≡ 8
unfolding walked
ticks_are = ap (λ (w : Walked). w.ticks) walk_is

text_computed : row_text (far_row T 8 last) ≡ bytes "run=1,1,1000000001,1000000001\n"
unfolding answering matching passed far_row
text_computed = refl

row_is : row_at (box_of T) (whole (box_of T).servers) last ≡ far_row T 8 last
row_is =
    rw ticks_are at
    (row_past_stop T (admitted_well_formed (bytes chain_1_1) T is_admitted).0 2 how_is last (let e = ticks_are in omega arith))

pub row_at_the_last_instant : row_of (bytes chain_1_1) last ≡ says (bytes "run=1,1,1000000001,1000000001\n")
unfolding row_of row_on has_row
row_at_the_last_instant = rw (is_admitted, walk_is, row_is, text_computed)
