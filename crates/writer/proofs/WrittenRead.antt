-- What is written of a well-formed table is read as that table. Shown at the end: `written_read`.
use mathlib.Core.Path.{◌≡◌, refl, ap}
use mathlib.Core.Bool.{true}
use mathlib.Core.List.{List, [], ◌∷◌, ◌++◌}
use Prim.Native.Nat.{ℕ, suc, ◌+◌, ◌*◌, ◌≤◌}
use native.Mathlib.Omega.{arith}
use lib.ListN.{length}
use borrow.Author.Tests.{le-leb}
use Rattle.schedule.specs.Limits as Limits
use Rattle.schedule.specs.Lists.{all?, sum}
use Rattle.schedule.specs.Table.{Node, Graph, Table}
use Rattle.schedule.specs.WellFormed.{within, orderly, nodes_formed, graph_formed, well_formed}
use Rattle.theorems.proofs.Formed.{first_of_lem, second_of, within_limits, node_formed, graph_formed_lem, table_formed}
use Rattle.format.specs.Bytes.{line_feed, decimal}
use Rattle.format.specs.Keys as Keys
use Rattle.format.specs.Keys.{keys, key_at}
use Rattle.format.specs.Spelling.{number, list}
use Rattle.format.specs.Reading.{Place, done, number_line, after_line, node, nodes_from, graph_nodes, graph, graphs_from, table, read_of}
use Rattle.format.proofs.ReadBack.{number_read_back}
use Rattle.rules.proofs.ReadWellFormed.{nodes_in}
use Rattle.writer.specs.Writing.{list_text, heading_text, number_text, after_text, node_text, nodes_text, graph_head, graph_text, graphs_text, table_head, written_of}
use Rattle.writer.proofs.LineText.{list_read, line_read}
use Rattle.writer.proofs.WrittenLength.{written_fits}

abbrev pub at : ℕ → List ℕ → Place
at l s = record { line = l; bytes = s }

number_line_read : (k v l : ℕ) (rest : List ℕ) → within (key_at k).range v ≡ true → number_line k (at l (number_text k v rest)) ≡ done v (at (suc l) rest)
unfolding number_line number_text heading_text
number_line_read k v l rest e =
    rw (line_read (key_at k).name number v (decimal v ++ (line_feed ∷ rest)) rest (number_read_back v line_feed rest refl), e) refl

after_line_read : (own l : ℕ) (vs rest : List ℕ) → orderly own vs ≡ true → after_line own (at l (after_text vs rest)) ≡ done vs (at (suc l) rest)
unfolding after_line after_text heading_text
after_line_read own l vs rest e =
    rw (line_read (key_at Keys.after).name list vs (list_text vs (line_feed ∷ rest)) rest (list_read vs rest), e) refl

node_read : (own l : ℕ) (x : Node) (rest : List ℕ)
    → within Limits.budget x.budget ≡ true → within Limits.level x.level ≡ true → orderly own x.after ≡ true
    → node own (at l (node_text x rest)) ≡ done x (at (3 + l) rest)
unfolding node node_text keys
node_read own l x rest a b c =
    let y = after_text x.after rest in
    let z = number_text Keys.level x.level y in
    let three : suc (suc (suc l)) ≡ 3 + l = omega arith in
    rw (number_line_read Keys.budget x.budget l z a, number_line_read Keys.level x.level (suc l) y b, after_line_read own (suc (suc l)) x.after rest c, three) refl

nodes_read : (own l : ℕ) (xs : List Node) (rest : List ℕ) → nodes_formed own xs ≡ true
    → nodes_from own (length xs) (at l (nodes_text xs rest)) ≡ done xs (at (l + 3 * length xs) rest)
unfolding nodes_from nodes_text
nodes_read own l [] rest e = let z : l ≡ l + 3 * 0 = omega arith in ap (λ (k : ℕ). done [] (at k rest)) z
nodes_read own l (x ∷ xs) rest e =
    let f = node_formed own x xs e in
    let z : 3 + l + 3 * length xs ≡ l + 3 * suc (length xs) = omega arith in
    rw (node_read own l x (nodes_text xs rest) f.budget f.level f.order, nodes_read (suc own) (3 + l) xs rest f.others, z) refl

graph_nodes_read : (total before l : ℕ) (G : Graph) (rest : List ℕ) → graph_formed G ≡ true → total + length G.nodes ≤ (Limits.all_nodes).to
    → graph_nodes total G.period G.offset (length G.nodes) before (at l (nodes_text G.nodes rest)) ≡ done G (at (l + 3 * length G.nodes) rest)
unfolding graph_nodes
graph_nodes_read total before l G rest e b =
    let f = graph_formed_lem G e in
    rw (le-leb (total + length G.nodes) (Limits.all_nodes).to b, nodes_read 1 l G.nodes rest f.nodes, f.followed) refl

-- the lines of a graph
abbrev pub graph_lines : Graph → ℕ
graph_lines G = 3 + 3 * length G.nodes

graph_read : (total l : ℕ) (G : Graph) (rest : List ℕ) → graph_formed G ≡ true → total + length G.nodes ≤ (Limits.all_nodes).to
    → graph total (at l (graph_text G rest)) ≡ done G (at (l + graph_lines G) rest)
unfolding graph graph_text graph_head keys
graph_read total l G rest e b =
    let f = graph_formed_lem G e in
    let x = nodes_text G.nodes rest in
    let y = number_text Keys.nodes (length G.nodes) x in
    let z = number_text Keys.offset G.offset y in
    let same : suc (suc (suc l)) + 3 * length G.nodes ≡ l + graph_lines G = omega arith in
    rw (number_line_read Keys.period G.period l z f.period, number_line_read Keys.offset G.offset (suc l) y f.offset, number_line_read Keys.nodes (length G.nodes) (suc (suc l)) x f.few, graph_nodes_read total (suc (suc l)) (suc (suc (suc l))) G rest e b, same) refl

graphs_read : (total l : ℕ) (Gs : List Graph) (rest : List ℕ) → all? graph_formed Gs ≡ true → total + nodes_in Gs ≤ (Limits.all_nodes).to
    → graphs_from total (length Gs) (at l (graphs_text Gs rest)) ≡ done Gs (at (l + sum graph_lines Gs) rest)
unfolding graphs_from graphs_text
graphs_read total l [] rest e b = let z : l ≡ l + 0 = omega arith in ap (λ (k : ℕ). done [] (at k rest)) z
graphs_read total l (G ∷ Gs) rest e b =
    let z : l + graph_lines G + sum graph_lines Gs ≡ l + (graph_lines G + sum graph_lines Gs) = omega arith in
    rw (graph_read total l G (graphs_text Gs rest) (first_of_lem (graph_formed G) (all? graph_formed Gs) e) (omega arith), graphs_read (total + length G.nodes) (l + graph_lines G) Gs rest (second_of (graph_formed G) (all? graph_formed Gs) e) (omega arith), z) refl

-- the number of the line after the last
abbrev pub line_after : Table → ℕ
line_after U = 4 + sum graph_lines U.graphs

pub table_read : (U : Table) → well_formed U ≡ true → table (at 1 (written_of U)) ≡ done U (at (line_after U) [])
unfolding table written_of table_head keys
table_read U e =
    let f = table_formed U e in
    let d = within_limits Limits.all_nodes (nodes_in U.graphs) f.nodes in
    let x = graphs_text U.graphs [] in
    let y = number_text Keys.graphs (length U.graphs) x in
    let z = number_text Keys.rounds U.rounds y in
    rw (number_line_read Keys.processors U.processors 1 z f.processors, number_line_read Keys.rounds U.rounds 2 y f.rounds, number_line_read Keys.graphs (length U.graphs) 3 x f.few, graphs_read 0 4 U.graphs [] f.graphs (omega (arith, d.1))) refl

pub written_read : (U : Table) → well_formed U ≡ true → read_of (written_of U) ≡ done U (at (line_after U) [])
unfolding read_of
written_read U e = rw (le-leb (length (written_of U)) (Limits.table_bytes).to (written_fits U e)) (table_read U e)
