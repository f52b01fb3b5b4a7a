-- A row as it is filled: there is room for each line.
use mathlib.Core.Path.{◌≡◌, sym, ◌∙◌}
use Rattle.std.specs.Prelude.{Option, Some, None}
use mathlib.Core.List.{List}
use Prim.Native.Nat.{ℕ, zero, suc, ◌+◌, ◌≤◌, min}
use native.Mathlib.Numerals.{add-one}
use native.Mathlib.Omega.{arith}
use lib.ListN.{length, get_or, set, length-set, length-replicate}
use Rattle.schedule.specs.Limits as Limits
use Rattle.window.specs.declared.Plan.{Plan}
use Rattle.window.specs.Entries.{nodes_of}
use Rattle.ledger.specs.declared.Ledger.{Ledger}
use Rattle.ledger.specs.declared.Found.{Found}
use Rattle.ledger.specs.Entries.{slot_at}
use Rattle.ledger.specs.Ranks.{found}
use Rattle.writing.specs.declared.row.Run.{Run}
use Rattle.writing.specs.declared.row.Row.{Row}
use Rattle.ledger.specs.Showing.{run_of, blank, of_rank, line_of, with_found, row_to, row_of}

module _ (plan : Plan) (offsets : List ℕ) (l : Ledger) where
  pub run_length : (n : ℕ) → length (row_to plan offsets l n).run ≡ (Limits.processors).to
  unfolding row_to
  run_length zero = length-replicate {A = Run} (Limits.processors).to (run_of 0 0 0 0)
  run_length (suc n) = go (of_rank plan offsets l n) (run_length n)
    where
      go : (x : Option Found) → length (row_to plan offsets l n).run ≡ (Limits.processors).to
          → length (with_found plan offsets l (row_to plan offsets l n) x).run ≡ (Limits.processors).to
      go (Some x) e = length-set (row_to plan offsets l n).run (row_to plan offsets l n).count (line_of plan offsets l x) ∙ e
      go None e = e

  pub few_lines : (n : ℕ) → (row_to plan offsets l n).count ≤ n
  unfolding row_to
  few_lines zero = omega arith
  few_lines (suc n) = go (of_rank plan offsets l n) (few_lines n)
    where
      go : (x : Option Found) → (row_to plan offsets l n).count ≤ n → (with_found plan offsets l (row_to plan offsets l n) x).count ≤ suc n
      go (Some x) e = omega arith
      go None e = omega arith

  pub row_few : (row_of plan offsets l).count ≤ (Limits.processors).to
  unfolding row_of
  row_few = omega (arith, few_lines (min plan.processors (Limits.processors).to))

  -- one rank more
  module _ (r : ℕ) {row : Row} (so_far : row ≡ row_to plan offsets l r) {n : ℕ} (nodes : n ≡ nodes_of plan) {o : Option Found}
      (found-is : o ≡ found offsets plan.period plan.level l.complete l.released n r) where
    rank_is : o ≡ of_rank plan offsets l r
    rank_is = rw nodes at found-is

    pub row_more : (x : Found) → o ≡ Some x → {s : ℕ} {line : Run} → s ≡ slot_at x.place x.number
        → line ≡ run_of (get_or plan.graph x.place 0) (get_or plan.node x.place 0) x.number (get_or l.link s 0)
        → ◌≡◌ {A = Row} (record { run = set row.run row.count line; count = row.count + 1 }) (row_to plan offsets l (r + 1))
    unfolding row_to
    row_more x h e f =
        let some : of_rank plan offsets l r ≡ Some x = sym rank_is ∙ h in
        rw (add-one r, some, f, e, so_far)

    pub row_same : o ≡ None → row ≡ row_to plan offsets l (r + 1)
    unfolding row_to
    row_same h =
        let none : of_rank plan offsets l r ≡ None = sym rank_is ∙ h in
        rw (add-one r, none) so_far

pub row_start : (plan : Plan) (offsets : List ℕ) (l : Ledger) {row : Row} → row ≡ blank → row ≡ row_to plan offsets l 0
unfolding row_to
row_start plan offsets l e = e

pub row_end : (plan : Plan) (offsets : List ℕ) (l : Ledger) (p r : ℕ) {row : Row} → p ≡ min plan.processors (Limits.processors).to
    → row ≡ row_to plan offsets l r → r ≤ p → p ≤ r → row ≡ row_of plan offsets l
unfolding row_of
row_end plan offsets l p r e f h g = let z : r ≡ min plan.processors (Limits.processors).to = omega arith in rw z at f
