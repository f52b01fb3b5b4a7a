-- How long what is written can get: each number with the digits of its upper limit, each list with as many numbers as there can be.
use Rattle.std.specs.Prelude.{ℕ, suc, ◌+◌, ◌*◌, ◌-◌, length}
use Rattle.schedule.specs.Limits as Limits
use Rattle.format.specs.Bytes.{decimal}
use Rattle.format.specs.Keys as Keys
use Rattle.format.specs.Keys.{key_at}

-- a line's value, with the key's name, `=` and LF around it
abbrev pub line_with : ℕ → ℕ → ℕ
line_with k value = length (key_at k).name + 2 + value

abbrev pub longest_number : ℕ → ℕ
longest_number k = line_with k (length (decimal (key_at k).range.to))

-- a comma stands behind each number of a list but the last
abbrev pub longest_list : ℕ
longest_list = (Limits.predecessor).to * suc (length (decimal (Limits.predecessor).to)) - 1

abbrev pub longest_node : ℕ
longest_node = longest_number Keys.budget + longest_number Keys.level + line_with Keys.after longest_list

abbrev pub longest_graph_head : ℕ
longest_graph_head = longest_number Keys.period + longest_number Keys.offset + longest_number Keys.nodes

abbrev pub longest_table_head : ℕ
longest_table_head = longest_number Keys.processors + longest_number Keys.rounds + longest_number Keys.graphs

-- the text of a table
abbrev pub longest_written : ℕ
longest_written = longest_table_head + (Limits.graphs).to * longest_graph_head + (Limits.all_nodes).to * longest_node
