-- What antt needs opened to compute what is read of a text.
use Rattle.schedule.specs.WellFormed.{rising, orderly, followed, all_followed}
use Rattle.format.specs.Bytes.{decimal_by, decimal}
use Rattle.format.specs.Keys.{keys}
use Rattle.format.specs.Spelling.{text, digits, number, numbers_by, numbers, list}
use Rattle.format.specs.Reading.{number_line, offending_by, offending, after_line, node, nodes_from, graph_nodes, graph, graphs_from, table, read_of}

-- opened by name where a test is computed
unfoldable pub reading : Unit {0}
unfolding rising orderly followed all_followed decimal_by decimal keys text digits number numbers_by numbers list number_line offending_by offending after_line node nodes_from graph_nodes graph graphs_from table read_of
reading = tt
