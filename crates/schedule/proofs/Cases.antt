-- The worked cases hold, by computation. (Walks: proofs/CasesInOnePass.antt.)
use mathlib.Core.Path.{◌≡◌, refl}
use mathlib.Core.Bool.{not}
use mathlib.Core.List.{List, [], ◌∷◌, ◌++◌, map}
use mathlib.Core.Option.{Option, none, some}
use Prim.Native.Nat.{ℕ, suc, ◌-◌}
use lib.Dec.{T}
use lib.ListN.{replicate}
use Rattle.schedule.specs.Lists.{all?, tab}
use Rattle.schedule.specs.Table.{Table, hyperperiod, load, loadable, keeps_up}
use Rattle.schedule.specs.WellFormed.{rising, orderly, followed, all_followed, nodes_formed, graph_formed, well_formed}
use Rattle.schedule.specs.Servers.{Box, box_of, whole}
use Rattle.schedule.specs.State.{State, same_state, state_at}
use Rattle.schedule.specs.Links.{due_by, finished_by}
use Rattle.schedule.specs.Walk.{Stop, settled, backlog, Running, stop_with, stop_at, first_stop, stopped, figures, walked, whole_walk, row_at}
use Rattle.schedule.specs.Described.{alone, chain}
use Rattle.schedule.specs.TableCases as Tables
use Rattle.schedule.specs.TableCases.{LoadCase, loads, two_graphs, box_of_two_graphs}
use Rattle.schedule.specs.WalkCases.{WalkCase, short_walks, RowCase, row_cases, StateCase, state_cases, some_state, other_states, never, needs_two, ticks_of, links_of, JobCase, job, job_cases, needs}
use Rattle.schedule.proofs.Computing.{computing}

pub limits_hold : T (all? Tables.sided Tables.limits)
unfolding Tables.limits
limits_hold = tt

pub formed_hold : T (all? well_formed Tables.formed)
unfolding Tables.formed rising orderly followed all_followed nodes_formed graph_formed well_formed
formed_hold = tt

pub misformed_hold : T (all? (λ (X : Table). not (well_formed X)) Tables.misformed)
unfolding Tables.misformed rising orderly followed all_followed nodes_formed graph_formed well_formed
misformed_hold = tt

pub loads_hold : map (λ (c : LoadCase). loads c.table (hyperperiod c.table) (load c.table) (loadable c.table)) Tables.load_cases ≡ Tables.load_cases
unfolding computing Tables.load_cases
loads_hold = refl

pub keeping_up_holds : T (all? keeps_up Tables.keeping_up)
unfolding keeps_up Tables.keeping_up
keeping_up_holds = tt

pub falling_behind_holds : T (all? (λ (X : Table). not (keeps_up X)) Tables.falling_behind)
unfolding keeps_up Tables.falling_behind
falling_behind_holds = tt

pub box_holds : box_of two_graphs ≡ box_of_two_graphs
unfolding computing box_of_two_graphs
box_holds = refl

-- the short walks: the way to stop at the last tick and no earlier, and the figures there
abbrev stops_of : WalkCase → List (Option Stop)
stops_of c = let X : Box = box_of c.table in tab (stop_at X (whole X.servers)) 0 (suc c.gives.ticks)

abbrev stops_said : WalkCase → List (Option Stop)
stops_said c = replicate c.gives.ticks none ++ (some c.gives.how ∷ [])

pub stops_hold : map stops_of short_walks ≡ map stops_said short_walks
unfolding computing short_walks
stops_hold = refl

abbrev figures_of : WalkCase → List ℕ
figures_of c = let X : Box = box_of c.table in figures X (whole X.servers) c.gives.ticks

pub figures_hold : map figures_of short_walks ≡ map (λ (c : WalkCase). c.gives.figures) short_walks
unfolding computing short_walks
figures_hold = refl

-- a whole walk by the plain definitions: boundary `rounds` settles it
pub walk_holds : whole_walk (box_of (alone 1 2 4 (chain 1 1))) ≡ record { how = settled 2; ticks = 8; figures = 6 ∷ [] }
unfolding computing walked stopped first_stop
walk_holds = refl

abbrev row_of : RowCase → List Running
row_of c = let X : Box = box_of c.table in row_at X (whole X.servers) c.at

pub rows_hold : map row_of row_cases ≡ map (λ (c : RowCase). c.shows) row_cases
unfolding computing row_cases
rows_hold = refl

abbrev state_of : StateCase → State
state_of c = let X : Box = box_of c.table in state_at X (whole X.servers) c.at

pub states_hold : map state_of state_cases ≡ map (λ (c : StateCase). c.is) state_cases
unfolding computing state_cases
states_hold = refl

pub states_differ : T (all? (λ (s : State). not (same_state s some_state)) other_states)
unfolding other_states
states_differ = tt

pub state_is_itself : T (same_state some_state some_state)
state_is_itself = tt

-- 64 unfinished invocations are no backlog, 65 are; counted after the releases
abbrev stop_of_never : ℕ → Option Stop
stop_of_never t = stop_with (box_of never) needs_two (ticks_of t) (links_of t) some_state t

pub unfinished_hold : map stop_of_never (62 ∷ 63 ∷ 64 ∷ []) ≡ none ∷ none ∷ some backlog ∷ []
unfolding computing
unfinished_hold = refl

abbrev job_of : JobCase → JobCase
job_of c =
    let X : Box = box_of c.table in
    let w : ℕ → ℕ → ℕ = whole X.servers in
    job c.table c.node c.job c.at (due_by X.servers X.cap w c.at (c.node - 1) c.job)
    (finished_by X.servers X.cap w c.at (c.node - 1) c.job)

pub jobs_hold : map job_of job_cases ≡ job_cases
unfolding computing job_cases
jobs_hold = refl

pub needs_hold : map (λ (more : ℕ). figures (box_of (alone 2 5 4 (chain 4 4))) (needs more) 8) (0 ∷ 2 ∷ []) ≡ (5 ∷ []) ∷ (7 ∷ []) ∷ []
unfolding computing
needs_hold = refl
