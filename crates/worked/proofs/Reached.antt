-- Each refusal but 7 is reached: a list of questions, refused in the order in which tables are judged. By computation, for the walk in one pass
-- and so for that of the definitions. A table that keeps up and still comes to 7 takes some hundred ticks, too many to compute from these
-- definitions: the program of worked tables (crate answers) and tables/ have some.
use mathlib.Core.Path.{subst}
use mathlib.Core.List.{List, [], ◌∷◌, ◌++◌, map}
use Prim.Native.Nat.{ℕ, suc}
use lib.Dec.{T, eqb}
use lib.ListN.{replicate}
use Rattle.schedule.specs.Limits as Limits
use Rattle.schedule.specs.Lists.{alike, up_to}
use Rattle.format.specs.Bytes.{bytes}
use Rattle.schedule.specs.Servers.{Box}
use Rattle.rules.specs.AnswerNumbers.{answer_number}
use Rattle.rules.specs.Admission.{admission_of}
use Rattle.rules.specs.Answers.{call_of, report_admitted, row_admitted}
use Rattle.schedule.specs.Walk.{Walked, whole_walk}
use Rattle.rules.specs.Cases.{node_1_every_4, chain_1_1, chain_1_1_in_1_round, chain_3_2, eight_every_1, long_hyperperiod}
use Rattle.worked.specs.Worked.{period_2¹⁶+4}
use Rattle.schedule.proofs.Walking.{one_pass_walk, same_walk}
use Rattle.rules.proofs.Computing.{answering}

-- a question: the report of a table, or its row at an instant, with a lent buffer of some length
pub data Question : Type 0 where
  report : List ℕ → ℕ → Question
  row : List ℕ → ℕ → ℕ → Question

-- more than the length of any text below
abbrev pub enough : ℕ
enough = 100

unfoldable pub questions : List Question
questions =
    report (replicate (suc (Limits.table_bytes).to) 0) enough
    ∷ report [] enough
    ∷ report (bytes period_2¹⁶+4) enough
    ∷ report (bytes "processors=1\nrounds=1\ngraphs=1\nperiod=4\noffset=0\nnodes=1\nbudget=1\nlevel=1\nafter=1\n") enough
    ∷ report (bytes long_hyperperiod) enough
    ∷ report (bytes chain_3_2) enough
    ∷ report (bytes eight_every_1) enough
    ∷ report (bytes chain_1_1_in_1_round) enough
    ∷ row (bytes chain_1_1) 4000000001 enough
    ∷ report (bytes node_1_every_4) 1
    ∷ []

-- their numbers
abbrev pub numbers : List ℕ
numbers = up_to 6 ++ (12 ∷ 8 ∷ 9 ∷ 10 ∷ [])

module _ (walk : Box → Walked) where
  unfoldable pub number_answered : Question → ℕ
  number_answered (report s n) = answer_number (call_of (replicate n 0) (report_admitted walk (admission_of s))).answer
  number_answered (row s t n) = answer_number (call_of (replicate n 0) (row_admitted walk t (admission_of s))).answer

computed : T (alike eqb (map (number_answered one_pass_walk) questions) numbers)
unfolding answering questions number_answered
computed = tt

pub refusals_are_reached : T (alike eqb (map (number_answered whole_walk) questions) numbers)
refusals_are_reached = subst (λ (walk : Box → Walked). T (alike eqb (map (number_answered walk) questions) numbers)) same_walk computed
