-- An instant above the limit stands for all that are later: the row at the number that reading keeps is the row at the number that was read.
use mathlib.Core.Path.{◌≡◌, refl, sym, ◌∙◌}
use mathlib.Core.List.{List}
use Prim.Native.Nat.{ℕ, ◌≤◌, ◌<◌}
use native.Mathlib.Omega.{arith}
use Rattle.format.specs.declared.Refusal.TheVariants.{PastTheStop}
use Rattle.schedule.specs.Table.{Table}
use Rattle.rules.specs.Admission.{Admission, admitted, refused, admission_of}
use Rattle.rules.specs.Answers.{refuses, row_of}
use Rattle.schedule.proofs.Tests.{by_lt}
use Rattle.scanning.specs.Positions.{far, kept}
use Rattle.sheet.proofs.RowCalls.{above, refused_row}

past_every_row : (bytes : List ℕ) (U : Table) → admission_of bytes ≡ admitted U → (t : ℕ) → far ≤ t → row_of bytes t ≡ refuses PastTheStop
past_every_row bytes U e t h = above bytes U e t (omega arith)

of_admission : (bytes : List ℕ) (v : ℕ) (a : Admission) → admission_of bytes ≡ a → far < v → row_of bytes far ≡ row_of bytes v
of_admission bytes v (admitted U) e h = past_every_row bytes U e far (omega arith) ∙ sym (past_every_row bytes U e v (omega arith))
of_admission bytes v (refused f) e h = refused_row bytes far f e ∙ sym (refused_row bytes v f e)

pub far_row_lem : (bytes : List ℕ) (v : ℕ) → row_of bytes (kept v) ≡ row_of bytes v
far_row_lem bytes v =
    by_lt far v (λ h. let is : kept v ≡ far = omega arith in rw is (of_admission bytes v (admission_of bytes) refl h))
    (λ h. let is : kept v ≡ v = omega arith in rw is)
