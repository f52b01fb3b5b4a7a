-- What an admission in memory says of the bytes: passed, or refused.
use mathlib.Core.Path.{◌≡◌, refl, ◌∙◌}
use mathlib.Core.List.{List}
use Prim.Native.Nat.{ℕ}
use native.Mathlib.Omega.{arith}
use Rattle.std.specs.Prelude.{Ok, Err}
use Rattle.schedule.specs.Table.{Table}
use Rattle.rules.specs.Admission.{Admission, admitted, refused, admission_of}
use Rattle.format.specs.declared.Refusal.{Refusal}
use Rattle.admission.specs.Admission.{coded_admission}
use Rattle.admission.specs.declared.admitting.Admitted.{Admitted}
use Rattle.sheet.specs.Walks.{admitted_of}

pub record Passes (bytes : List ℕ) (a : Admitted) : Type 0 where
  pub table : Table
  pub is_admitted : admission_of bytes ≡ admitted table
  pub is : a ≡ admitted_of table

passes_by : (bytes : List ℕ) (a : Admitted) (x : Admission) → admission_of bytes ≡ x → Ok a ≡ coded_admission x → Passes bytes a
passes_by bytes a (admitted U) q e = let same : a ≡ admitted_of U = cc in record { table = U; is_admitted = q; is = same }
passes_by bytes a (refused f) q e = let z : ◌≡◌ {A = ℕ} 0 1 = cc in absurd (let x : ⊥ = omega arith in x)

refused_by : (bytes : List ℕ) (f : Refusal) (x : Admission) → admission_of bytes ≡ x → Err f ≡ coded_admission x → admission_of bytes ≡ refused f
refused_by bytes f (admitted U) q e = let z : ◌≡◌ {A = ℕ} 0 1 = cc in absurd (let x : ⊥ = omega arith in x)
refused_by bytes f (refused g) q e = let same : g ≡ f = cc in q ∙ rw same

pub passes : (bytes : List ℕ) (a : Admitted) → Ok a ≡ coded_admission (admission_of bytes) → Passes bytes a
passes bytes a e = passes_by bytes a (admission_of bytes) refl e

pub is_refused : (bytes : List ℕ) (f : Refusal) → Err f ≡ coded_admission (admission_of bytes) → admission_of bytes ≡ refused f
is_refused bytes f e = refused_by bytes f (admission_of bytes) refl e
