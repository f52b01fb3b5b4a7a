-- Both outputs fit buffers of a fixed length: what is left is no longer than a table, the list no longer than `longest_list`. So a caller who
-- lends that much is never refused as 10.
use mathlib.Core.Path.{◌≡◌, refl}
use mathlib.Core.List.{List}
use Prim.Native.Nat.{ℕ, ◌≤◌}
use native.Mathlib.Omega.{arith}
use lib.Dec.{leb}
use lib.ListN.{length}
use borrow.Author.Tests.{le-leb, leb-true}
use Rattle.schedule.specs.Limits as Limits
use Rattle.schedule.proofs.Tests.{by_test}
use Rattle.salvaging.specs.Steps.{salvaged}
use Rattle.salvaging.specs.Fixes.{fixes_of}
use Rattle.salvaging.specs.Salvage.{salvage_of, fitted, longest_list}
use Rattle.salvaging.proofs.Longest.{list_most}

pub every_salvage_fits : (s : List ℕ) (n m : ℕ) → (Limits.table_bytes).to ≤ n → longest_list ≤ m → fitted n m (salvage_of s) ≡ salvage_of s
unfolding salvage_of fitted
every_salvage_fits s n m a b =
    by_test (leb (length s) (Limits.table_bytes).to)
    (λ e. rw e (by_test (leb (length (salvaged s)) (Limits.table_bytes).to)
    (λ f. rw (
      f,
      le-leb (length (salvaged s)) n (omega (arith, leb-true (length (salvaged s)) (Limits.table_bytes).to f)),
      le-leb (length (fixes_of s)) m (omega (arith, list_most s (leb-true (length s) (Limits.table_bytes).to e))),
    ) refl)
    (λ f. rw f refl)))
    (λ e. rw e refl)

-- as include/phalandrix.h says
pub text_bytes : (Limits.table_bytes).to ≡ 4096
text_bytes = refl

pub list_bytes : longest_list ≡ 45067
list_bytes = refl
