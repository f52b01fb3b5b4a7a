-- A table that is too long is refused for its length alone: one that was cut past the limit is answered as the whole one. So a reader of an
-- input may stop one byte past the limit.
use mathlib.Core.Path.{◌≡◌, sym, ap, ◌∙◌}
use mathlib.Core.List.{List}
use Prim.Native.Nat.{ℕ, ◌<◌}
use native.Mathlib.Omega.{arith}
use lib.ListN.{length, take}
use lib.Seq.{take_all, length-take-le}
use borrow.Author.Tests.{lt-leb}
use Rattle.format.specs.declared.Refusal.TheVariants.{TooLong}
use Rattle.schedule.specs.Limits as Limits
use Rattle.format.specs.Reading.{read_of, refused}
use Rattle.rules.specs.Admission.{admit_read, admission_of}
use Rattle.schedule.specs.Walk.{whole_walk}
use Rattle.rules.specs.Answers.{report_of, row_of, report_admitted, row_admitted}
use Rattle.schedule.proofs.Tests.{by_lt}

too_long : (s : List ℕ) → (Limits.table_bytes).to < length s → read_of s ≡ refused TooLong
unfolding read_of
too_long s h = rw (lt-leb (length s) (Limits.table_bytes).to h)

module _ (room : ℕ) (past : (Limits.table_bytes).to < room) (s : List ℕ) where
  read_of_cut : read_of (take room s) ≡ read_of s
  read_of_cut =
      by_lt room (length s)
      (λ h. let is : length (take room s) ≡ room = length-take-le room s (omega arith) in
      too_long (take room s) (omega arith) ∙ sym (too_long s (omega arith)))
      (λ h. ap read_of (take_all room s h))

  admission_of_cut : admission_of (take room s) ≡ admission_of s
  unfolding admission_of
  admission_of_cut = ap admit_read read_of_cut

  pub report_of_cut : report_of (take room s) ≡ report_of s
  unfolding report_of
  report_of_cut = ap (report_admitted whole_walk) admission_of_cut

  pub row_of_cut : (t : ℕ) → row_of (take room s) t ≡ row_of s t
  unfolding row_of
  row_of_cut t = ap (row_admitted whole_walk t) admission_of_cut
