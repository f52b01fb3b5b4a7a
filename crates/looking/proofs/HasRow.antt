-- Where there is a row: the rules' test by how the walk stopped.
use mathlib.Core.Path.{◌≡◌}
use mathlib.Core.Bool.{true, false}
use Prim.Native.Nat.{ℕ, ◌≤◌, ◌<◌}
use borrow.Author.Tests.{le-leb, lt-leb, lt-ltb, le-ltb}
use Rattle.schedule.specs.Limits as Limits
use Rattle.schedule.specs.Walk.{Stop, settled, unsettled, backlog}
use Rattle.rules.specs.Answers.{has_row}

pub has_before : (how : Stop) (u t : ℕ) → t ≤ (Limits.instant).to → t < u → has_row how u t ≡ true
unfolding has_row
has_before (settled k) u t n l = rw (le-leb t (Limits.instant).to n)
has_before unsettled u t n l = rw (le-leb t (Limits.instant).to n, lt-ltb t u l)
has_before backlog u t n l = rw (le-leb t (Limits.instant).to n, lt-ltb t u l)

pub has_settled : (k u t : ℕ) → t ≤ (Limits.instant).to → has_row (settled k) u t ≡ true
unfolding has_row
has_settled k u t n = rw (le-leb t (Limits.instant).to n)

pub has_none_unsettled : (u t : ℕ) → t ≤ (Limits.instant).to → u ≤ t → has_row unsettled u t ≡ false
unfolding has_row
has_none_unsettled u t n l = rw (le-leb t (Limits.instant).to n, le-ltb t u l)

pub has_none_backlog : (u t : ℕ) → t ≤ (Limits.instant).to → u ≤ t → has_row backlog u t ≡ false
unfolding has_row
has_none_backlog u t n l = rw (le-leb t (Limits.instant).to n, le-ltb t u l)

pub has_none_above : (how : Stop) (u t : ℕ) → (Limits.instant).to < t → has_row how u t ≡ false
unfolding has_row
has_none_above how u t l = rw (lt-leb t (Limits.instant).to l)
