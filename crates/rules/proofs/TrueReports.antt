-- A report that is given is true: from the bytes of a table to its text, each `response=` is the least true figure of its graph.
use mathlib.Core.Path.{◌≡◌, refl, sym, ap, ◌∙◌}
use mathlib.Core.List.{List}
use Prim.Native.Nat.{ℕ}
use native.Mathlib.Omega.{arith}
use lib.ListN.{length-map}
use Rattle.format.specs.declared.Refusal.{Refusal}
use Rattle.format.specs.declared.Refusal.TheVariants.{TooLong, Misspelled, OutsideLimits, AgainstPredecessorRules, LongHyperperiod, NotLoadable}
use Rattle.format.specs.declared.Refusal.TheVariants.{Backlog, Unsettled, PastTheStop, ShortBuffer, WrongLengths, CannotKeepUp}
use Rattle.format.specs.Refusals.{number_of}
use Rattle.rules.specs.AnswerNumbers.{answer_number}
use Rattle.schedule.specs.Table.{Table}
use Rattle.schedule.specs.Servers.{box_of}
use Rattle.schedule.specs.Walk.{Stop, settled, unsettled, backlog, figures, walked, whole_walk}
use Rattle.rules.specs.Admission.{Admission, admitted, refused, admission_of}
use Rattle.rules.specs.Answers.{Reply, says, refuses, report_text, report_on, report_admitted, report_of, fitted, left, call_of}
use Rattle.rules.specs.Demands.{TrueReport}
use Rattle.rules.proofs.Printed.{report_text_tells}
use Rattle.rules.proofs.ReadWellFormed.{admitted_well_formed}
use Rattle.theorems.proofs.TableBox.{length_sinks}
use Rattle.theorems.proofs.LeastTrue.{figures_are_least_true}

-- no refusal has the number 0
pub number_some : (r : Refusal) → number_of r ≡ 0 → ⊥
number_some TooLong e = omega arith
number_some (Misspelled l c) e = omega arith
number_some (OutsideLimits l c) e = omega arith
number_some (AgainstPredecessorRules l c) e = omega arith
number_some LongHyperperiod e = omega arith
number_some NotLoadable e = omega arith
number_some Backlog e = omega arith
number_some Unsettled e = omega arith
number_some PastTheStop e = omega arith
number_some ShortBuffer e = omega arith
number_some WrongLengths e = omega arith
number_some CannotKeepUp e = omega arith

module _ (bytes : List ℕ) where
  report_is : (U : Table) → admission_of bytes ≡ admitted U → (how : Stop) → (whole_walk (box_of U)).how ≡ how
      → report_of bytes ≡ report_on how (whole_walk (box_of U)).ticks (whole_walk (box_of U)).figures
  unfolding report_of
  report_is U e how h = rw (e, h)

  -- the numbers of a text are told by it
  numbers_told : (k l t u : ℕ) (fs gs : List ℕ) → report_of bytes ≡ says (report_text k t fs) → report_of bytes ≡ says (report_text l u gs)
      → (l ≡ k) × (u ≡ t) × (gs ≡ fs)
  numbers_told k l t u fs gs p q = report_text_tells l k u t gs fs (let e : report_text l u gs ≡ report_text k t fs = cc in e)

  settled_report : (U : Table) (k : ℕ) → admission_of bytes ≡ admitted U → (whole_walk (box_of U)).how ≡ settled k → TrueReport bytes
  unfolding walked figures
  settled_report U k e h =
      let w = whole_walk (box_of U) in
      record {
        table = U;
        is_admitted = e;
        round = k;
        ticks = w.ticks;
        figures = w.figures;
        text = report_is U e (settled k) h;
        no_others = λ r t fs q. numbers_told k r w.ticks t w.figures fs (report_is U e (settled k) h) q;
        many = length-map (box_of U).sinks _ ∙ length_sinks 0 U.graphs;
        least_true = λ g l. figures_are_least_true U (admitted_well_formed bytes U e).0 k h g l;
      }

  of_walk : (U : Table) → admission_of bytes ≡ admitted U → (s : List ℕ) → (how : Stop) → (whole_walk (box_of U)).how ≡ how → report_of bytes ≡ says s
      → TrueReport bytes
  of_walk U e s (settled k) h r = settled_report U k e h
  of_walk U e s unsettled h r = let q = sym (report_is U e unsettled h) ∙ r in let z : ◌≡◌ {A = ℕ} 0 1 = cc in absurd (let x : ⊥ = omega arith in x)
  of_walk U e s backlog h r = let q = sym (report_is U e backlog h) ∙ r in let z : ◌≡◌ {A = ℕ} 0 1 = cc in absurd (let x : ⊥ = omega arith in x)

  of_admission : (s : List ℕ) (a : Admission) → admission_of bytes ≡ a → report_of bytes ≡ says s → TrueReport bytes
  unfolding report_of
  of_admission s (admitted U) e r = of_walk U e s (whole_walk (box_of U)).how refl r
  of_admission s (refused f) e r =
      let q : refuses f ≡ says s = ap (report_admitted whole_walk) (sym e) ∙ r in
      let z : ◌≡◌ {A = ℕ} 0 1 = cc in
      absurd (let x : ⊥ = omega arith in x)

  pub a_report_is_true : (s : List ℕ) → report_of bytes ≡ says s → TrueReport bytes
  a_report_is_true s r = of_admission s (admission_of bytes) refl r

  of_reply : (buffer : List ℕ) (r : Reply) → report_of bytes ≡ r → answer_number (call_of buffer r).answer ≡ 0 → TrueReport bytes
  unfolding call_of fitted left
  of_reply buffer (says s) e z = a_report_is_true s e
  of_reply buffer (refuses f) e z = absurd (number_some f z)

  -- of what a call returns
  pub an_answered_report_is_true : (buffer : List ℕ) → answer_number (call_of buffer (report_of bytes)).answer ≡ 0 → TrueReport bytes
  an_answered_report_is_true buffer z = of_reply buffer (report_of bytes) refl z
