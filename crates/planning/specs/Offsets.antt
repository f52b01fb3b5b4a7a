-- The offsets of a table in memory, by place, and the largest. For the proof, not for belief.
use Rattle.std.specs.Prelude.{List, ℕ, zero, suc, min, max, replicate}
use Rattle.schedule.specs.Limits as Limits
use Rattle.table.specs.declared.Table.{Table}
use Rattle.window.specs.Entries.{places}
use Rattle.window.specs.Loops.{replaced}
use Rattle.planning.specs.Graphs.{graph_in, graph_at, places_of}

module _ (t : Table) where
  -- at the first n places
  abbrev pub offsets_to : ℕ → List ℕ
  offsets_to n = replaced (λ (i : ℕ). (graph_at t i).offset) (replicate places 0) n

  abbrev pub offsets_of : List ℕ
  offsets_of = offsets_to (places_of t)

  -- how many graphs count
  abbrev pub graphs_of : ℕ
  graphs_of = min t.graphs (Limits.graphs).to

  unfoldable pub largest_to : ℕ → ℕ
  largest_to zero = 0
  largest_to (suc n) = max (largest_to n) (graph_in t n).offset

  abbrev pub largest_offset_of : ℕ
  largest_offset_of = largest_to graphs_of
