-- What antt needs opened to compute a row, a state, or how a walk stops at an instant.
use Rattle.schedule.specs.Table as Table
use Rattle.schedule.specs.Servers.{whole, of_nodes, of_graphs, sinks_of}
use Rattle.schedule.specs.ServerJobs.{release_of, released, released_before, priority_of, before, complete, pending, ready, ready_jobs, rank, runs, tick, used}
use Rattle.schedule.specs.Links.{finished, due_after, due, linked, link_now, link, links, due_by, finished_by}
use Rattle.schedule.specs.State.{finished_count, behind_of, pending_job, pending_jobs, node_state, phase, state, state_at}
use Rattle.schedule.specs.Walk.{crowded, overdue, backlogged, boundary, at_boundary, round_at, stop_with, stop_at, response_at, finishing, figure, figures, running_at, row_at}

-- opened by name where a test is computed
unfoldable pub computing : Unit {0}
unfolding Table.euclid Table.gcd Table.lcm Table.lcm_from Table.hyperperiod Table.largest_offset Table.load Table.loadable Table.keeps_up whole of_nodes of_graphs sinks_of release_of released released_before priority_of before complete pending ready ready_jobs rank runs tick used finished due_after due linked link_now link links due_by finished_by finished_count behind_of pending_job pending_jobs node_state phase state state_at crowded overdue backlogged boundary at_boundary round_at stop_with stop_at response_at finishing figure figures running_at row_at
computing = tt
