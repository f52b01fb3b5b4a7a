-- The worked tables hold, by one computed test over their list: for the walk in one pass, and so for that of the definitions.
use mathlib.Core.Path.{◌≡◌, refl, subst}
use Prim.Native.Nat.{ℕ}
use lib.Dec.{T}
use Rattle.schedule.specs.Lists.{all?}
use Rattle.schedule.specs.Described.{alone, one}
use Rattle.schedule.specs.Servers.{Box}
use Rattle.schedule.specs.Walk.{Walked, whole_walk}
use Rattle.format.specs.declared.Refusal.TheVariants.{CannotKeepUp}
use Rattle.rules.specs.Admission.{refused, admit}
use Rattle.worked.specs.Worked.{linked_in, holds, worked_tables}
use Rattle.schedule.proofs.Walking.{one_pass_walk, same_walk}
use Rattle.rules.proofs.Computing.{answering}

computed : T (all? (holds one_pass_walk) worked_tables)
unfolding answering linked_in worked_tables
computed = tt

pub worked_tables_hold : T (all? (holds whole_walk) worked_tables)
worked_tables_hold = subst (λ (walk : Box → Walked). T (all? (holds walk) worked_tables)) same_walk computed

-- budget 3, level 1, period 2 on two processors: the number of rounds is no matter
pub level_1_for_any_rounds : (rounds : ℕ) → admit (alone 2 rounds 2 (one 3 1)) ≡ refused CannotKeepUp
unfolding answering
level_1_for_any_rounds rounds = refl
