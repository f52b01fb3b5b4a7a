-- What the functions of moving.rt rest on: one entry more is moved on; and a row moved on has as many entries.
use mathlib.Core.Path.{◌≡◌}
use Prim.Native.Nat.{ℕ, ◌+◌, ◌≤◌}
use native.Mathlib.Numerals.{add-one}
use mathlib.Core.List.{List}
use lib.ListN.{get_or, set}
use Rattle.schedule.specs.Limits as Limits
use Rattle.table.specs.declared.Graph.{Graph}
use Rattle.window.specs.Loops.{replaced}
use Rattle.writing.specs.declared.row.Run.{Run}
use Rattle.writing.specs.declared.row.Row.{Row}
use Rattle.repeating.specs.Moving.{no_run, moved_run, moved_to, far_row}

-- one turn of the loop
pub moved_more : (periods : List ℕ) (passed : ℕ) (row : Row) (r : ℕ) {moved : Row} {x : Run} → moved ≡ moved_to periods passed row r
    → x ≡ moved_run periods passed (get_or row.run r no_run)
    → ◌≡◌ {A = Row} (record { run = set moved.run r x; count = moved.count }) (moved_to periods passed row (r + 1))
unfolding moved_to replaced
moved_more periods passed row r e f = rw (add-one r, e, f)

-- the row moved on has as many entries
pub far_few : (graph : List Graph) (hyper stop t : ℕ) (there : Row) → there.count ≤ (Limits.processors).to
    → (far_row graph hyper stop t there).count ≤ (Limits.processors).to
unfolding far_row moved_to
far_few graph hyper stop t there h = h
