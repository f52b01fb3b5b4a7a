-- The row past the stop in memory is the rules' row: the second look is at the matching instant of the last round, and each number of its row
-- is moved on as the rules say. None of them is too large for its type.
use mathlib.Core.Path.{◌≡◌, refl, sym, ap, ◌∙◌}
use mathlib.Core.Bool.{cond}
use mathlib.Core.List.{List, [], ◌∷◌, map, map-append}
use Prim.Native.Nat.{ℕ, zero, suc, ◌+◌, ◌*◌, ◌-◌, ◌/◌, ◌≤◌, ◌<◌, min}
use native.Mathlib.Nat.{not-suc-le-zero}
use native.Mathlib.Omega.{arith}
use lib.Dec.{T, ltb}
use lib.ListN.{length, get_or, take, replicate}
use lib.Seq.{take-suc, take-suc-set}
use borrow.Author.Tests.{lt-ltb, le-ltb}
use Rattle.schedule.specs.Limits as Limits
use Rattle.schedule.specs.Table.{Graph, Table, hyperperiod}
use Rattle.schedule.specs.Servers.{Box, box_of, whole}
use Rattle.schedule.specs.Walk.{Running, settled, row_at}
use Rattle.schedule.specs.WellFormed.{well_formed}
use Rattle.schedule.specs.FarRows as Rules
use Rattle.schedule.specs.FarRows.{matching, passed, moved, moved_on, periods_in}
use Rattle.schedule.proofs.Tests.{by_lt, T_true}
use Rattle.theorems.proofs.Formed.{within_limits, table_formed}
use Rattle.theorems.proofs.TableRows.{matching_in_round, row_past_stop}
use Rattle.table.specs.declared.Graph as Memory
use Rattle.table.specs.Fresh as Fresh
use Rattle.reading.specs.Memory.{memory_of}
use Rattle.window.specs.Entries.{last_key}
use Rattle.window.specs.Loops.{replaced}
use Rattle.window.proofs.Loops.{replaced_length, replaced_in}
use Rattle.planning.proofs.Located as Located
use Rattle.planning.proofs.NodeFits.{few, room, laid}
use Rattle.writing.specs.declared.row.Run.{Run}
use Rattle.writing.specs.declared.row.Row.{Row}
use Rattle.writing.specs.Row.{running_of, running_in}
use Rattle.repeating.specs.Moving as Moving
use Rattle.repeating.specs.Moving.{periods_of, periods_at, no_run, moved_run, moved_to, moved_row, far_row}
use Rattle.looking.specs.declared.Look.{Look}
use Rattle.looking.specs.Looking.{far_at}
use Rattle.looking.proofs.RowNumbers.{Each, graphs_numbered, Entry, row_entries, each_under, each_read}
use Rattle.looking.proofs.Looked.{stop, Looked}

-- the first n entries of a list, each replaced by what is made of it
replaced_map : (f : Run → Run) (d : Run) (xs : List Run) (n : ℕ) → n ≤ length xs
    → take n (replaced (λ (r : ℕ). f (get_or xs r d)) xs n) ≡ map f (take n xs)
unfolding replaced
replaced_map f d xs zero h = refl
replaced_map f d xs (suc n) h =
    let g : ℕ → Run = λ (r : ℕ). f (get_or xs r d) in
    rw (take-suc-set (replaced g xs n) n (g n) (omega (arith, replaced_length g xs n)), take-suc xs n d (omega arith), replaced_map f d xs n (omega arith))
    (sym (map-append f (take n xs) (get_or xs n d ∷ [])))

-- what is shown of each, where it is moved on as the rules move it
shown_map : (f : Run → Run) (g : Running → Running) (P : Running → Type 0) → ((x : Run) → P (running_of x) → running_of (f x) ≡ g (running_of x))
    → (l : List Run) → Each P (map running_of l) → map running_of (map f l) ≡ map g (map running_of l)
shown_map f g P h [] e = refl
shown_map f g P h (x ∷ l) (p, e) = rw (h x p, shown_map f g P h l e)

-- an invocation moved on: 0 stays 0
job_moved : (v n : ℕ) → moved n v ≤ last_key → cond (ltb 0 v) (min (v + n) last_key) 0 ≡ moved n v
job_moved v n l =
    by_lt 0 v (λ p. let e = lt-ltb 0 v p in let fits : v + n ≤ last_key = rw e at l in rw e (omega arith)) (λ p. let e = le-ltb 0 v p in rw e)

module _ (periods : List ℕ) (m : ℕ) (own : ℕ → ℕ) where
  -- the code has the periods of the entry's graph, and its numbers fit
  pub record Fit (y : Running) : Type 0 where
    pub known : periods_at periods y.graph ≡ own y.graph
    pub number : y.server_job + m * own y.graph ≤ last_key
    pub job : moved (m * own y.graph) y.invocation ≤ last_key

  entry_moved : (x : Run) → Fit (running_of x) → running_of (moved_run periods m x) ≡ moved_on own m (running_of x)
  unfolding moved_run
  entry_moved x f =
      let number : min (x.server_job + m * own x.graph) last_key ≡ x.server_job + m * own x.graph = omega (arith, f.number) in
      rw (f.known, number, job_moved x.invocation (m * own x.graph) f.job)

  pub row_moved : (row : Row) → row.count ≤ length row.run → Each Fit (running_in row)
      → running_in (moved_row periods m row) ≡ map (moved_on own m) (running_in row)
  unfolding moved_to
  row_moved row h e =
      ap (map running_of) (replaced_map (moved_run periods m) no_run row.run row.count h)
      ∙ shown_map (moved_run periods m) (moved_on own m) Fit entry_moved (take row.count row.run) e

-- the default does not matter inside of a list
same_inside : (Gs : List Graph) (g : ℕ) (c d : Graph) → g < length Gs → get_or Gs g c ≡ get_or Gs g d
same_inside [] g c d h = absurd (not-suc-le-zero h)
same_inside (G ∷ Gs) zero c d h = refl
same_inside (G ∷ Gs) (suc g) c d h = same_inside Gs g c d (omega arith)

module _ (U : Table) (ok : T (well_formed U)) where
  abbrev X : Box
  X = box_of U

  abbrev H : ℕ
  H = hyperperiod U

  abbrev periods : List ℕ
  periods = periods_of (memory_of U).graph H

  graphs_some : 1 ≤ length U.graphs
  graphs_some = (within_limits Limits.graphs (length U.graphs) (table_formed U (T_true ok)).few).0

  -- the periods in memory are the table's
  periods_known : (g : ℕ) → g ≤ length U.graphs → periods_at periods g ≡ periods_in U g
  periods_known g l =
      let i = g - 1 in
      let inside : i < length U.graphs = omega (arith, graphs_some) in
      let small : i < (Limits.graphs).to = omega (arith, few U ok) in
      rw (lt-ltb i (Limits.graphs).to small)
      (replaced_in (λ (j : ℕ). Moving.periods_in H (get_or (memory_of U).graph j Fresh.no_graph)) (replicate (Limits.graphs).to 0) (Limits.graphs).to i 0 small
      (omega arith)
      ∙ ap (λ (G : Memory.Graph). H / G.period) ((laid U ok).graph i inside)
      ∙ ap (λ (G : Graph). H / G.period) (same_inside U.graphs i Located.no_graph Rules.no_graph inside))

  module _ (look : ℕ → Look) (sees : (t : ℕ) → Looked X t (look t)) (k : ℕ) (h : (stop X).how ≡ settled k) (t : ℕ) (past : (stop X).ticks ≤ t)
      (near : t ≤ (Limits.instant).to) where
    abbrev u : ℕ
    u = (stop X).ticks

    abbrev there : ℕ
    there = matching H u t

    abbrev m : ℕ
    m = passed H u t

    abbrev row : ℕ → List Running
    row v = row_at X (whole X.servers) v

    moved_row_lem : row t ≡ map (moved_on (periods_in U) m) (row there)
    unfolding Rules.far_row
    moved_row_lem = row_past_stop U ok k h t past

    -- the numbers at t bound those at the matching instant, moved on
    fit : Each (Fit periods m (periods_in U)) (row there)
    fit =
        let most = length U.graphs in
        let many = (Limits.all_nodes).to in
        let all : Each (Entry most many t) (map (moved_on (periods_in U) m) (row there)) =
        rw moved_row_lem at (row_entries X (whole X.servers) t most many (graphs_numbered most many 0 1 U.graphs (omega arith) (omega (arith, room U ok)))) in
        each_under (λ (y : Running). Entry most many t (moved_on (periods_in U) m y)) (Fit periods m (periods_in U))
        (λ y n. record { known = periods_known y.graph n.graph; number = omega (arith, n.server_job); job = omega (arith, n.invocation) })
        (row there) (each_read (Entry most many t) (moved_on (periods_in U) m) (row there) all)

    shown_there : running_in (look there).row ≡ row there
    shown_there = (sees there).shows (matching_in_round U ok k h t).1

    pub far_shown : running_in (far_at look (memory_of U).graph H u t) ≡ row t
    unfolding far_row
    far_shown =
        row_moved periods m (periods_in U) (look there).row (sees there).room (rw shown_there fit)
        ∙ ap (map (moved_on (periods_in U) m)) shown_there
        ∙ sym moved_row_lem
