-- The worked cases hold, by computation.
use mathlib.Core.Path.{◌≡◌, refl}
use mathlib.Core.List.{map}
use Rattle.format.proofs.Computing.{reading}
use Rattle.writer.specs.Writing.{numbers_text, list_text, heading_text, number_text, after_text, node_text, nodes_text, graph_head, graph_text, graphs_text, table_head, written_of}
use Rattle.writer.specs.Judging.{number_at, after_at, node_at, nodes_at, successors_at, graph_nodes_at, graph_at, graphs_at, table_at, write_of}
use Rattle.writer.specs.Cases as Cases
use Rattle.writer.specs.Cases.{WriteCase}

pub writes_hold : map (λ (c : WriteCase). write_of c.table) Cases.writes ≡ map (λ (c : WriteCase). c.gives) Cases.writes
unfolding reading Cases.writes numbers_text list_text heading_text number_text after_text node_text nodes_text graph_head graph_text graphs_text table_head written_of number_at after_at node_at nodes_at successors_at graph_nodes_at graph_at graphs_at table_at write_of
writes_hold = refl
