-- Demand 3: of every well-formed table whose walk settles, each figure is the least true one of its graph.
use mathlib.Core.Path.{◌≡◌}
use Prim.Native.Nat.{ℕ, ◌<◌}
use lib.Dec.{T}
use lib.ListN.{length, get_or}
use Rattle.schedule.specs.Table.{Table}
use Rattle.schedule.specs.Servers.{box_of, whole}
use Rattle.schedule.specs.Walk.{Stopped, settled, stopped, figure, figures}
use Rattle.schedule.specs.WellFormed.{well_formed}
use Rattle.schedule.specs.LeastTrue.{LeastTrue}
use Rattle.schedule.proofs.Cells.{get_d_map}
use Rattle.theorems.proofs.LeastTrueBox.{least_true_box}
use Rattle.theorems.proofs.TableBox.{periods_of, table_sound, sink_is}

-- the walk of a table, each job with its whole budget
abbrev pub walk_of : Table → Stopped
walk_of X = stopped (box_of X) (whole (box_of X).servers)

pub figures_are_least_true : (X : Table) → T (well_formed X) → (k : ℕ) → (walk_of X).how ≡ settled k → (g : ℕ) → g < length X.graphs
    → LeastTrue (box_of X) (get_or (box_of X).sinks g 0) (walk_of X).ticks
    (get_or (figures (box_of X) (whole (box_of X).servers) (walk_of X).ticks) g 0)
unfolding figures
figures_are_least_true X ok k e g l =
    let w = whole (box_of X).servers in
    let (in_List, in_S, some) = sink_is X ok g l in
    rw (get_d_map (λ (i : ℕ). figure (box_of X) w i (walk_of X).ticks) (box_of X).sinks g 0 0 in_List)
    (least_true_box (box_of X) (periods_of X ok) (table_sound X ok) k e (get_or (box_of X).sinks g 0) in_S some)
