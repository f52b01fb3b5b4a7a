-- What the program needs of `rewrite`: no text is longer than `longest_written`, and a table cut past the limit of its bytes is answered as the
-- whole one.
use mathlib.Core.Path.{◌≡◌, refl, sym, ap, ◌∙◌}
use mathlib.Core.List.{List}
use Prim.Native.Nat.{ℕ, ◌≤◌, ◌<◌}
use native.Mathlib.Omega.{arith}
use lib.ListN.{length, take}
use lib.Seq.{take_all, length-take-le}
use borrow.Author.Tests.{lt-leb}
use Rattle.schedule.specs.Limits as Limits
use Rattle.schedule.specs.Table as Rules
use Rattle.schedule.proofs.Tests.{by_lt}
use Rattle.format.specs.declared.Refusal.TheVariants.{TooLong}
use Rattle.format.specs.Reading.{Outcome, refused, done, read_of}
use Rattle.rules.specs.Answers.{says, refuses}
use Rattle.writer.specs.Lengths.{longest_written}
use Rattle.writer.proofs.WrittenLength.{written_within}
use Rattle.writer.proofs.WriterAnswers.{write_formed}
use Rattle.editing.specs.Editing.{rewritten, rewrite_of}

fits_by : (x : Outcome Rules.Table) (t : List ℕ) → rewritten x ≡ says t → length t ≤ longest_written
fits_by (refused r) t e = absurd (let z : ◌≡◌ {A = ℕ} 0 1 = cc in omega arith)
fits_by (done T p) t e = let h = write_formed T t e in rw (sym h.1) (written_within T h.0)

pub every_rewrite_fits : (s t : List ℕ) → rewrite_of s ≡ says t → length t ≤ longest_written
unfolding rewrite_of
every_rewrite_fits s t e = fits_by (read_of s) t e

too_long : (s : List ℕ) → (Limits.table_bytes).to < length s → rewrite_of s ≡ refuses TooLong
unfolding rewrite_of read_of
too_long s h = rw (lt-leb (length s) (Limits.table_bytes).to h) refl

pub rewrite_of_cut : (room : ℕ) → (Limits.table_bytes).to < room → (s : List ℕ) → rewrite_of (take room s) ≡ rewrite_of s
rewrite_of_cut room past s =
    by_lt room (length s)
    (λ h. let is : length (take room s) ≡ room = length-take-le room s (omega arith) in
    too_long (take room s) (omega arith) ∙ sym (too_long s (omega arith)))
    (λ h. ap rewrite_of (take_all room s h))
