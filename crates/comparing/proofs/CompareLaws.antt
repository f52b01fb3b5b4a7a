-- Comparing: two pending server jobs, and two windows.
use mathlib.Core.Path.{◌≡◌, refl, ap, ◌∙◌}
use Prim.Native.Nat.{ℕ, ◌≤◌, min}
use lib.Dec.{eqb}
use lib.ListN.{length, take}
use lib.Pointwise.{pointwise}
use Rattle.std.specs.Prelude.{Option, Some, None}
use Rattle.std.specs.Option.{option_eq}
use Rattle.table.specs.declared.Pending.{Pending}
use Rattle.table.specs.contracts.PendingPartialEq.TheImpl.{eq-value}
use Rattle.table.specs.declared.Server.{Server}
use Rattle.window.specs.Entries.{window, no_job, slot_of}
use Rattle.window.specs.Comparing.{same_pending, same_window}
use Rattle.window.specs.Loops.{all_below}
use Rattle.window.proofs.LoopLaws.{all_same}
use Rattle.window.proofs.Chains.{first_same}

-- two pending server jobs that are the same, by the derived test
derived_same : (x y : Pending) → eq-value.it x y ≡ same_pending x y
derived_same x y = by_behind x.behind y.behind
  where
    by_behind : (a b : Option ℕ) → option_eq eqb a b ≡ same_pending (record { behind = a }) (record { behind = b })
    by_behind None None = refl
    by_behind None (Some b) = refl
    by_behind (Some a) None = refl
    by_behind (Some a) (Some b) = refl

pub window_same : (s r : Server) (n m : ℕ) → m ≡ min n window → m ≤ length s.jobs → m ≤ length r.jobs
    → pointwise eq-value.it (take m s.jobs) (take m r.jobs) ≡ same_window s r n
window_same s r n m e h l =
    first_same eq-value.it no_job m s.jobs r.jobs h l
    ∙ all_same (λ (d : ℕ). eq-value.it (slot_of s d) (slot_of r d)) (λ (d : ℕ). same_pending (slot_of s d) (slot_of r d)) m
    (λ d q. derived_same (slot_of s d) (slot_of r d))
    ∙ ap (all_below (λ (d : ℕ). same_pending (slot_of s d) (slot_of r d))) e
