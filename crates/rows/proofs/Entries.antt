-- The entries of a row as it is filled: there is room for each, and each adds its line.
use mathlib.Core.Path.{◌≡◌, refl, sym, ◌∙◌}
use mathlib.Core.List.{List, [], ◌∷◌, map, map-append}
use Prim.Native.Nat.{ℕ, zero, suc, ◌+◌, ◌≤◌, min}
use native.Mathlib.Nat.{zero-add}
use native.Mathlib.Numerals.{add-one}
use native.Mathlib.Omega.{arith}
use lib.ListN.{length, get_or, set, take}
use lib.Seq.{take-suc-set}
use Rattle.schedule.specs.Limits as Limits
use Rattle.schedule.specs.Lists.{joined}
use Rattle.table.specs.declared.Seen.{Seen}
use Rattle.table.specs.declared.Server.{Server}
use Rattle.window.specs.declared.Plan.{Plan}
use Rattle.window.specs.Entries.{places}
use Rattle.window.specs.Loops.{replaced}
use Rattle.window.specs.Choosing.{picks, Picked, no_run, no_at}
use Rattle.window.proofs.Loops.{replaced_length}
use Rattle.window.proofs.Fewer.{picks_few}
use Rattle.writing.specs.declared.row.Run.{Run}
use Rattle.writing.specs.declared.row.Row.{Row}
use Rattle.writing.specs.Row.{running_of, running_in}
use Rattle.rows.specs.Showing.{blank, seen_by, picks_of, run_of, entry_of, row_to, row_of}
use Rattle.rows.proofs.Lists.{joined_last}

-- the lines of the first n entries
lines_of : (f : ℕ → Run) (xs : List Run) (n : ℕ) → n ≤ length xs
    → map running_of (take n (replaced f xs n)) ≡ joined (λ (r : ℕ). running_of (f r) ∷ []) 0 n
unfolding replaced
lines_of f xs zero h = refl
lines_of f xs (suc n) h =
    rw (take-suc-set (replaced f xs n) n (f n) (omega (arith, replaced_length f xs n)))
    (map-append running_of (take n (replaced f xs n)) (f n ∷ [])
    ∙ rw (lines_of f xs n (omega arith))
    (sym (joined_last (λ (r : ℕ). running_of (f r) ∷ []) 0 n ∙ rw (zero-add n))))

module _ (plan : Plan) (offsets : List ℕ) (st : Seen) (few : plan.processors ≤ (Limits.processors).to) where
  pub count_few : (picks_of plan offsets st).count ≤ (Limits.processors).to
  count_few = omega (arith, picks_few st.first st.count plan)

  -- what the choice gave the code
  pub chosen_row : {n m : ℕ} {run at : List ℕ} → n ≡ min plan.nodes places
      → Picked (picks st.first st.count plan.level plan.step n no_run no_at plan.processors) m run at
      → Picked (picks_of plan offsets st) m run at
  chosen_row e h = rw e at h

  -- the text of a row is written from no more entries than there can be processors
  pub row_few : (row_of plan offsets st).count ≤ (Limits.processors).to
  unfolding row_to
  row_few = count_few

  pub row_lines : running_in (row_of plan offsets st)
      ≡ joined (λ (r : ℕ). running_of (entry_of plan offsets st r) ∷ []) 0 (picks_of plan offsets st).count
  unfolding row_to
  row_lines = lines_of (entry_of plan offsets st) (blank (picks_of plan offsets st).count).run (picks_of plan offsets st).count count_few

-- the row with its first r entries, from what was chosen; the windows are all that an entry needs of the state
module _ (plan : Plan) (offsets : List ℕ) (servers : List Server) where
  module _ (run at : List ℕ) where
    abbrev pub entry_by : ℕ → Run
    entry_by r = run_of plan offsets (seen_by servers [] []) (get_or run r 0) (get_or at r 0)

    abbrev pub filled : ℕ → ℕ → Row
    filled m r = record { run = replaced entry_by (blank m).run r; count = m }

  module _ (first count : List ℕ) {m : ℕ} {run at : List ℕ} (h : Picked (picks_of plan offsets (seen_by servers first count)) m run at) (r : ℕ) {row : Row}
      (e : row ≡ filled run at m r) where
    -- one turn of the loop
    pub filled_more : {x : Run} → x ≡ entry_by run at r → ◌≡◌ {A = Row} (record { run = set row.run r x; count = row.count }) (filled run at m (r + 1))
    unfolding replaced
    filled_more f = rw (add-one r, e, f)

    pub filled_is : r ≡ m → row ≡ row_of plan offsets (seen_by servers first count)
    unfolding row_to run_of
    filled_is f = e ∙ rw (f, h.0, h.1.0, h.1.1)

-- the row needs three parts of what a walk shows
pub row_seen : (plan : Plan) (offsets : List ℕ) (st : Seen) → row_of plan offsets (seen_by st.servers st.first st.count) ≡ row_of plan offsets st
unfolding row_to run_of
row_seen plan offsets st = refl
