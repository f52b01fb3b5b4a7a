-- The worked cases of several tables in one call hold, by computation: for the walk in one pass, and so for that of the definitions.
use mathlib.Core.Path.{◌≡◌, refl, subst}
use mathlib.Core.List.{List, map}
use Prim.Native.Nat.{ℕ}
use Rattle.schedule.specs.Servers.{Box}
use Rattle.schedule.specs.Walk.{Walked, whole_walk}
use Rattle.schedule.proofs.Walking.{one_pass_walk, same_walk}
use Rattle.rules.specs.Admission.{admission_of}
use Rattle.rules.specs.Answers.{report_admitted, report_of}
use Rattle.rules.specs.Batch.{add_up, batch_by, batch_of, batch_printed_by, batch_printed}
use Rattle.rules.specs.BatchCases.{was, BatchCase, batch_cases, PrintedCase, printed_cases}
use Rattle.rules.proofs.Computing.{answering}

-- by the walk of a box
abbrev Held : (Box → Walked) → Type 0
Held walk =
    map (λ (c : BatchCase). batch_by (λ (s : List ℕ). report_admitted walk (admission_of s)) c.tables c.lengths (was 0 c.room)) batch_cases
    ≡ map (λ (c : BatchCase). c.gives) batch_cases

computed : Held one_pass_walk
unfolding answering add_up batch_by batch_cases
computed = refl

held : Held whole_walk
held = subst Held same_walk computed

pub batches_hold : map (λ (c : BatchCase). batch_of c.tables c.lengths (was 0 c.room)) batch_cases ≡ map (λ (c : BatchCase). c.gives) batch_cases
unfolding batch_of report_of
batches_hold = held

-- and what the program prints for them
abbrev Printed : (Box → Walked) → Type 0
Printed walk =
    map (λ (c : PrintedCase). batch_printed_by (λ (s : List ℕ). report_admitted walk (admission_of s)) c.tables c.lengths) printed_cases
    ≡ map (λ (c : PrintedCase). c.prints) printed_cases

printed_computed : Printed one_pass_walk
unfolding answering add_up batch_printed_by printed_cases
printed_computed = refl

printed_held : Printed whole_walk
printed_held = subst Printed same_walk printed_computed

pub printed_batches_hold : map (λ (c : PrintedCase). batch_printed c.tables c.lengths) printed_cases ≡ map (λ (c : PrintedCase). c.prints) printed_cases
unfolding batch_printed report_of
printed_batches_hold = printed_held
