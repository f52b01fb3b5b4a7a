-- A table or a limit text that is too long is refused for its length alone: one that was cut past the limit is answered as the whole one. So a
-- reader of either may stop one byte past the limit.
use mathlib.Core.Path.{◌≡◌, refl, sym, ap, ◌∙◌}
use mathlib.Core.List.{List}
use Prim.Native.Nat.{ℕ, ◌<◌}
use native.Mathlib.Omega.{arith}
use lib.ListN.{length, take}
use lib.Seq.{take_all, length-take-le}
use borrow.Author.Tests.{lt-leb}
use Rattle.format.specs.declared.Refusal.TheVariants.{TooLong}
use Rattle.format.specs.Reading.{Outcome, refused, read_of}
use Rattle.schedule.specs.Limits as Limits
use Rattle.schedule.specs.Servers.{box_of}
use Rattle.schedule.specs.Walk.{Walked, whole_walk}
use Rattle.schedule.proofs.Tests.{by_lt}
use Rattle.rules.specs.Admission as Admission
use Rattle.rules.specs.Admission.{Admission, admitted, admission_of}
use Rattle.margins.specs.Margins.{Margin, of_table, limits_of, margin_on, margin_admitted, margin_of}

-- what depends on a text's length alone, once it is past a limit, is the same of the text cut past it
of_cut : {A : Type 0} (f : List ℕ → A) (a : A) (most room : ℕ) → most < room → ((s : List ℕ) → most < length s → f s ≡ a) → (s : List ℕ) → f (take room s) ≡ f s
of_cut f a most room past long s =
    by_lt room (length s)
    (λ h. let is : length (take room s) ≡ room = length-take-le room s (omega arith) in long (take room s) (omega arith) ∙ sym (long s (omega arith)))
    (λ h. ap f (take_all room s h))

long_table : (l s : List ℕ) → (Limits.table_bytes).to < length s → margin_of s l ≡ of_table TooLong
unfolding margin_of admission_of read_of
long_table l s h = rw (lt-leb (length s) (Limits.table_bytes).to h)

long_limits : (n : ℕ) (l : List ℕ) → (Limits.limit_bytes).to < length l → limits_of n l ≡ refused TooLong
unfolding limits_of
long_limits n l h = rw (lt-leb (length l) (Limits.limit_bytes).to h)

module _ (room : ℕ) (past : (Limits.limit_bytes).to < room) (l : List ℕ) where
  limits_of_cut : (n : ℕ) → limits_of n (take room l) ≡ limits_of n l
  limits_of_cut n = of_cut (limits_of n) (refused TooLong) (Limits.limit_bytes).to room past (long_limits n) l

  by_admission : (a : Admission) → margin_admitted whole_walk (take room l) a ≡ margin_admitted whole_walk l a
  by_admission (Admission.refused f) = refl
  by_admission (admitted T) =
      let w : Walked = whole_walk (box_of T) in
      ap (λ (x : Outcome (List ℕ)). margin_on w.how w.ticks w.figures x) (limits_of_cut (length T.graphs))

pub margin_of_cut : (room : ℕ) → (Limits.table_bytes).to < room → (other : ℕ) → (Limits.limit_bytes).to < other → (s l : List ℕ)
    → margin_of (take room s) (take other l) ≡ margin_of s l
unfolding margin_of
margin_of_cut room past other past' s l =
    of_cut (λ s. margin_of s (take other l)) (of_table TooLong) (Limits.table_bytes).to room past (long_table (take other l)) s
    ∙ by_admission other past' l (admission_of s)
