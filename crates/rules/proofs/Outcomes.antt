-- What holds of the value and the place that reading comes to, line after line.
use mathlib.Core.Path.{◌≡◌, refl, subst}
use mathlib.Core.Bool.{Bool, true}
use Prim.Native.Nat.{ℕ, suc}
use Rattle.format.specs.declared.Refusal.{Refusal}
use Rattle.format.specs.declared.Refusal.TheVariants.{OutsideLimits, AgainstPredecessorRules}
use Rattle.format.specs.Keys.{key_at}
use Rattle.format.specs.Keys as Keys
use Rattle.format.specs.Spelling.{Scan, read, wrong, number, list, line}
use Rattle.schedule.specs.WellFormed.{within, orderly}
use Rattle.format.specs.Reading.{Place, Outcome, refused, done, ◌and_then◌, column_at, judged, value_column, value_in, number_line, offending, after_line}
use Rattle.schedule.proofs.Tests.{by_test}

module _ {A : Type 0} where
  -- P holds of the value and the place, where there are any
  abbrev pub Holds : (A → Place → Type 0) → Outcome A → Type 0
  Holds P (done a p) = P a p
  Holds P (refused r) = Unit {0}

  pub told : (P : A → Place → Type 0) {x : Outcome A} {a : A} {p : Place} → x ≡ done a p → Holds P x → P a p
  told P e h = subst (Holds P) e h

  pub judged_holds : (unfair : ℕ → ℕ → Refusal) (fault : ℕ) (fair : A → Bool) (p : Place) (x : Scan A)
      → Holds (λ a q. (fair a ≡ true) × (q.line ≡ suc p.line)) (judged unfair fault fair p x)
  judged_holds unfair fault fair p (wrong rest) = tt
  judged_holds unfair fault fair p (read v rest) = by_test (fair v) (λ e. rw e (e, refl)) (λ e. rw e tt)

module _ {A B : Type 0} where
  pub then_holds : (P : A → Place → Type 0) (Q : B → Place → Type 0) (x : Outcome A) (f : A → Place → Outcome B)
      → Holds P x → ((a : A) (p : Place) → P a p → Holds Q (f a p)) → Holds Q (x and_then f)
  then_holds P Q (done a p) f h g = g a p h
  then_holds P Q (refused r) f h g = tt

-- a line that passes is fair, and the next line follows it
pub number_line_holds : (k : ℕ) (p : Place) → Holds (λ v q. (within (key_at k).range v ≡ true) × (q.line ≡ suc p.line)) (number_line k p)
unfolding number_line
number_line_holds k p = judged_holds OutsideLimits (value_column k) (within (key_at k).range) p (line (key_at k).name number p.bytes)

pub after_line_holds : (own : ℕ) (p : Place) → Holds (λ v q. (orderly own v ≡ true) × (q.line ≡ suc p.line)) (after_line own p)
unfolding after_line
after_line_holds own p = judged_holds AgainstPredecessorRules (column_at p.bytes (offending own (value_in Keys.after p.bytes))) (orderly own) p (line (key_at Keys.after).name list p.bytes)
