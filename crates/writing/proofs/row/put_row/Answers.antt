-- `put_row` meets its contract. The loop's invariant: the lines passed are written.
use mathlib.Core.Path.{◌≡◌, ap}
use mathlib.Core.List.{List, map}
use Prim.Native.Nat.{ℕ, ◌+◌, ◌≤◌, ◌<◌}
use native.Mathlib.Omega.{arith}
use lib.ListN.{length, take, get_or}
use lib.Seq.{take_all}
use Rattle.rules.specs.Answers.{row_text}
use Rattle.writing.specs.declared.row.Run.{Run}
use Rattle.writing.specs.Row.{running_of}
use Rattle.writing.proofs.Writing.{nothing, named, room, both}
use Rattle.writing.proofs.Rows.{no_run, run, run_more, run_fits}
use Rattle.writing.proofs.row.put_row.Goals as goal

-- what runs in the row is the list that is gone through
fit : (xs row : List Run) (buf : List ℕ) (i : ℕ) → xs ≡ row → i < length xs → length (row_text (map running_of row)) ≤ length buf
    → length (row_text (map running_of (take i xs))) + length (run (get_or xs i no_run)) ≤ length buf
fit xs row buf i same inside h =
    omega (
      arith,
      run_fits xs i inside (length xs) inside,
      ap (λ (l : List Run). length (row_text (map running_of l))) (take_all (length xs) xs (omega arith)),
      ap (λ (l : List Run). length (row_text (map running_of l))) same,
    )

pub loop-x-init : goal.loop-x-init
unfolding row_text
loop-x-init c = nothing c.args.buf.now

pub put_run-at-requires : goal.put_run-at-requires
put_run-at-requires c =
    let l = c.loop-x in
    let xs = c.running-x-items.result.now in
    room (run (get_or xs l.x-index no_run)) l.invariant
    (fit xs (take c.args.row.count c.args.row.run) c.args.buf.now l.x-index c.running-x-items.ensures (omega arith) c.requires.row_in_bounds)

pub loop-x-preserved : goal.loop-x-preserved
loop-x-preserved c =
    let l = c.loop-x in
    let xs = c.running-x-items.result.now in
    named (run_more xs l.x-index (omega arith))
    (both (run (get_or xs l.x-index no_run)) l.invariant
    (fit xs (take c.args.row.count c.args.row.run) c.args.buf.now l.x-index c.running-x-items.ensures (omega arith) c.requires.row_in_bounds) c.put_run-at.ensures)
