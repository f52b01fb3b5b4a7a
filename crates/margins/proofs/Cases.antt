-- The worked cases hold, by computation: for the walk in one pass, and so for that of the definitions.
use mathlib.Core.Path.{◌≡◌, refl, subst}
use mathlib.Core.List.{List, [], ◌∷◌, map}
use Prim.Native.Nat.{ℕ}
use Rattle.schedule.specs.Servers.{Box}
use Rattle.schedule.specs.Walk.{Stop, Walked, whole_walk}
use Rattle.schedule.proofs.Walking.{one_pass_walk, same_walk}
use Rattle.format.specs.declared.Refusal.TheVariants.{Misspelled}
use Rattle.format.specs.Bytes.{bytes}
use Rattle.format.specs.Reading.{refused}
use Rattle.rules.specs.Admission.{admission_of}
use Rattle.rules.specs.Answers.{printed, call_of}
use Rattle.rules.specs.Cases.{lent}
use Rattle.rules.proofs.Computing.{answering}
use Rattle.margins.specs.Margins.{Margin, limits_from, limits_of, margin_line, margin_lines, margin_text, margin_on, margin_admitted}
use Rattle.margins.specs.Cases.{MarginCase, margin_cases, stop_cases, CallCase, call_cases}

unfoldable margining : Unit {0}
unfolding answering limits_from limits_of margin_line margin_lines margin_text
margining = tt

abbrev told : (Box → Walked) → MarginCase → Margin
told walk c = margin_admitted walk c.limits (admission_of (bytes c.table))

abbrev Printed : (Box → Walked) → Type 0
Printed walk =
    map (λ (c : MarginCase). printed (told walk c).reply) margin_cases ≡ map (λ (c : MarginCase). bytes c.prints) margin_cases

abbrev Placed : (Box → Walked) → Type 0
Placed walk = map (λ (c : MarginCase). (told walk c).in_limits) margin_cases ≡ map (λ (c : MarginCase). c.in_limits) margin_cases

abbrev Called : (Box → Walked) → Type 0
Called walk =
    map (λ (c : CallCase). call_of (lent c.room) (margin_admitted walk (bytes c.limits) (admission_of (bytes c.table))).reply) call_cases
    ≡ map (λ (c : CallCase). c.gives) call_cases

printed_computed : Printed one_pass_walk
unfolding margining margin_cases
printed_computed = refl

placed_computed : Placed one_pass_walk
unfolding margining margin_cases
placed_computed = refl

called_computed : Called one_pass_walk
unfolding margining call_cases
called_computed = refl

pub margins_hold : Printed whole_walk
margins_hold = subst Printed same_walk printed_computed

-- in which text a refusal stands
pub places_hold : Placed whole_walk
places_hold = subst Placed same_walk placed_computed

pub calls_hold : Called whole_walk
calls_hold = subst Called same_walk called_computed

-- 7 and 8 come before what is wrong in the limit text
pub stops_first : map (λ (how : Stop). printed (margin_on how 8 (6 ∷ []) (refused (Misspelled 1 1))).reply) stop_cases
    ≡ map bytes ("answer=7\nline=0\ncolumn=0\n" ∷ "answer=8\nline=0\ncolumn=0\n" ∷ [])
unfolding answering stop_cases
stops_first = refl
