-- The worked cases hold, by computation: for the walk in one pass, and so for that of the definitions.
use mathlib.Core.Path.{◌≡◌, refl, subst}
use mathlib.Core.List.{[], ◌∷◌, map}
use Rattle.schedule.specs.Servers.{Box, box_of}
use Rattle.schedule.specs.Walk.{Walked, whole_walk}
use Rattle.schedule.proofs.Walking.{one_pass_walk, same_walk}
use Rattle.format.specs.declared.Refusal.TheVariants.{CannotKeepUp}
use Rattle.format.specs.Bytes.{bytes}
use Rattle.rules.specs.Admission.{Admission, refused, admit, admission_of}
use Rattle.rules.specs.Answers.{report_on, printed, call_of, has_row, row_admitted, ticks_admitted, ticks_told}
use Rattle.rules.specs.AnswerNumbers.{answer_number, answer_line_number, answer_column, answer_length}
use Rattle.rules.specs.Cases.{AdmissionCase, admissions, Overtaken, overtakes, overtaken, reply_to, PrintCase, print_cases, StopCase, stop_cases, CallCase, call_cases, lent, AnswerCase, told, answer_cases, TicksCase, ticks_cases, HasCase, has, has_cases}
use Rattle.rules.proofs.Computing.{answering}

pub admissions_hold : map (λ (c : AdmissionCase). admit c.table) admissions ≡ map (λ (c : AdmissionCase). c.gives c.table) admissions
unfolding answering admissions
admissions_hold = refl

-- what both hold of: 12 is given, and the walk would stop so
pub overtaken_refused : map (λ (c : Overtaken). admit c.table) overtaken ≡ map (λ (c : Overtaken). refused CannotKeepUp) overtaken
unfolding answering overtaken
overtaken_refused = refl

-- by the walk of a box
abbrev Stopping : (Box → Walked) → Type 0
Stopping walk =
    map (λ (c : Overtaken). let w : Walked = walk (box_of c.table) in overtakes c.table w.how w.ticks) overtaken ≡ overtaken

abbrev Printed : (Box → Walked) → Type 0
Printed walk =
    map (λ (c : PrintCase). printed (reply_to walk c.asked (admission_of (bytes c.table)))) print_cases ≡ map (λ (c : PrintCase). bytes c.prints) print_cases

abbrev Called : (Box → Walked) → Type 0
Called walk =
    map (λ (c : CallCase). call_of (lent c.room) (reply_to walk c.asked (admission_of (bytes c.table)))) call_cases
    ≡ map (λ (c : CallCase). c.gives) call_cases

abbrev Ticks : (Box → Walked) → Type 0
Ticks walk =
    map (λ (c : TicksCase). let a : Admission = admission_of (bytes c.table) in ticks_told (call_of (lent c.room) (row_admitted walk c.at a)).answer (ticks_admitted walk c.at a)) ticks_cases
    ≡ map (λ (c : TicksCase). c.ticks) ticks_cases

stopping_computed : Stopping one_pass_walk
unfolding answering overtaken
stopping_computed = refl

printed_computed : Printed one_pass_walk
unfolding answering print_cases
printed_computed = refl

called_computed : Called one_pass_walk
unfolding answering call_cases
called_computed = refl

ticks_computed : Ticks one_pass_walk
unfolding answering ticks_cases
ticks_computed = refl

pub overtaken_stop : Stopping whole_walk
overtaken_stop = subst Stopping same_walk stopping_computed

pub answers_hold : Printed whole_walk
answers_hold = subst Printed same_walk printed_computed

pub calls_hold : Called whole_walk
calls_hold = subst Called same_walk called_computed

pub ticks_hold : Ticks whole_walk
ticks_hold = subst Ticks same_walk ticks_computed

pub stops_reported : map (λ (c : StopCase). printed (report_on c.how 8 (6 ∷ []))) stop_cases ≡ map (λ (c : StopCase). bytes c.prints) stop_cases
unfolding answering stop_cases
stops_reported = refl

pub numbers_hold : map (λ (c : AnswerCase). told c.answer (answer_number c.answer) (answer_line_number c.answer) (answer_column c.answer) (answer_length c.answer)) answer_cases ≡ answer_cases
unfolding answer_cases
numbers_hold = refl

pub rows_there : map (λ (c : HasCase). has c.how c.ticks c.at (has_row c.how c.ticks c.at)) has_cases ≡ has_cases
unfolding answering has_cases
rows_there = refl
