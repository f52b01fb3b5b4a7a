-- A text with bytes behind it is the text, and then the bytes; so each part of a table's text is two parts one behind the other.
use mathlib.Core.Path.{◌≡◌, refl, sym, ap, ◌∙◌}
use mathlib.Core.List.{List, [], ◌∷◌, ◌++◌, append_assoc}
use Prim.Native.Nat.{ℕ}
use lib.ListN.{length}
use lib.Seq.{append_snoc}
use Rattle.schedule.specs.Table.{Node, Graph}
use Rattle.format.specs.Bytes.{line_feed, equals, comma, decimal}
use Rattle.format.specs.Keys as Keys
use Rattle.format.specs.Keys.{key_at}
use Rattle.writer.specs.Writing.{numbers_text, list_text, heading_text, number_text, after_text, node_text, nodes_text, graph_head, graph_text, graphs_text, table_head, written_of}
use Rattle.memory.specs.declared.plain.PhalandrixNode.{PhalandrixNode}
use Rattle.memory.specs.declared.plain.PhalandrixGraph.{PhalandrixGraph}
use Rattle.memory.specs.declared.plain.PhalandrixTable.{PhalandrixTable}
use Rattle.memory.proofs.Named.{nodes_counted}
use Rattle.memory.proofs.GraphCounts.{graphs_counted}
use Rattle.writing.specs.Line.{ended}
use Rattle.putting.specs.Texts.{heading, number_line, two_lines, three_lines, list_ended, after_line, node_lines, nodes_lines, graph_lines, graphs_lines, table_lines}

heading_rest : (k : ℕ) (rest : List ℕ) → heading_text k rest ≡ heading k ++ rest
unfolding heading_text
heading_rest k rest = sym (append_snoc (key_at k).name equals rest)

number_rest : (k v : ℕ) (rest : List ℕ) → number_text k v rest ≡ number_line k v ++ rest
unfolding number_text
number_rest k v rest =
    heading_rest k (decimal v ++ (line_feed ∷ rest))
    ∙ ap (λ (l : List ℕ). heading k ++ l) (sym (append_assoc (decimal v) (line_feed ∷ []) rest))
    ∙ sym (append_assoc (heading k) (decimal v ++ (line_feed ∷ [])) rest)
    ∙ ap (λ (l : List ℕ). l ++ rest) (sym (heading_rest k (decimal v ++ (line_feed ∷ []))))

numbers_rest : (v : ℕ) (vs s rest : List ℕ) → numbers_text v vs (s ++ rest) ≡ numbers_text v vs s ++ rest
unfolding numbers_text
numbers_rest v [] s rest = sym (append_assoc (decimal v) s rest)
numbers_rest v (w ∷ ws) s rest =
    ap (λ (l : List ℕ). decimal v ++ (comma ∷ l)) (numbers_rest w ws s rest) ∙ sym (append_assoc (decimal v) (comma ∷ numbers_text w ws s) rest)

list_rest : (vs rest : List ℕ) → list_text vs (line_feed ∷ rest) ≡ list_text vs (line_feed ∷ []) ++ rest
unfolding list_text
list_rest [] rest = refl
list_rest (v ∷ vs) rest = numbers_rest v vs (line_feed ∷ []) rest

after_rest : (vs rest : List ℕ) → after_text vs rest ≡ after_text vs [] ++ rest
unfolding after_text
after_rest vs rest =
    heading_rest Keys.after (list_text vs (line_feed ∷ rest))
    ∙ ap (λ (l : List ℕ). heading Keys.after ++ l) (list_rest vs rest)
    ∙ sym (append_assoc (heading Keys.after) (list_text vs (line_feed ∷ [])) rest)
    ∙ ap (λ (l : List ℕ). l ++ rest) (sym (heading_rest Keys.after (list_text vs (line_feed ∷ []))))

-- two lines, and three
two_rest : (i a j b : ℕ) (rest : List ℕ) → number_text i a (number_text j b rest) ≡ two_lines i a j b ++ rest
two_rest i a j b rest =
    number_rest i a (number_text j b rest)
    ∙ ap (λ (l : List ℕ). number_line i a ++ l) (number_rest j b rest)
    ∙ sym (append_assoc (number_line i a) (number_line j b) rest)
    ∙ ap (λ (l : List ℕ). l ++ rest) (sym (number_rest i a (number_line j b)))

three_rest : (i a j b k c : ℕ) (rest : List ℕ) → number_text i a (number_text j b (number_text k c rest)) ≡ three_lines i a j b k c ++ rest
three_rest i a j b k c rest =
    ap (λ (l : List ℕ). number_text i a (number_text j b l)) (number_rest k c rest)
    ∙ two_rest i a j b (number_line k c ++ rest)
    ∙ sym (append_assoc (two_lines i a j b) (number_line k c) rest)
    ∙ ap (λ (l : List ℕ). l ++ rest) (sym (two_rest i a j b (number_line k c)))

node_rest : (x : Node) (rest : List ℕ) → node_text x rest ≡ node_text x [] ++ rest
unfolding node_text
node_rest x rest =
    ap (λ (l : List ℕ). number_text Keys.budget x.budget (number_text Keys.level x.level l)) (after_rest x.after rest)
    ∙ two_rest Keys.budget x.budget Keys.level x.level (after_text x.after [] ++ rest)
    ∙ sym (append_assoc (two_lines Keys.budget x.budget Keys.level x.level) (after_text x.after []) rest)
    ∙ ap (λ (l : List ℕ). l ++ rest) (sym (two_rest Keys.budget x.budget Keys.level x.level (after_text x.after [])))

nodes_rest : (xs : List Node) (rest : List ℕ) → nodes_text xs rest ≡ nodes_text xs [] ++ rest
unfolding nodes_text
nodes_rest [] rest = refl
nodes_rest (x ∷ xs) rest =
    ap (node_text x) (nodes_rest xs rest)
    ∙ node_rest x (nodes_text xs [] ++ rest)
    ∙ sym (append_assoc (node_text x []) (nodes_text xs []) rest)
    ∙ ap (λ (l : List ℕ). l ++ rest) (sym (node_rest x (nodes_text xs [])))

graph_rest : (G : Graph) (rest : List ℕ) → graph_text G rest ≡ graph_text G [] ++ rest
unfolding graph_text graph_head
graph_rest G rest =
    let n = length G.nodes in
    let head = three_lines Keys.period G.period Keys.offset G.offset Keys.nodes n in
    three_rest Keys.period G.period Keys.offset G.offset Keys.nodes n (nodes_text G.nodes rest)
    ∙ ap (λ (l : List ℕ). head ++ l) (nodes_rest G.nodes rest)
    ∙ sym (append_assoc head (nodes_text G.nodes []) rest)
    ∙ ap (λ (l : List ℕ). l ++ rest) (sym (three_rest Keys.period G.period Keys.offset G.offset Keys.nodes n (nodes_text G.nodes [])))

-- the two parts of each text, as code writes them
pub number_parts : (k v : ℕ) → heading k ++ ended v line_feed ≡ number_line k v
unfolding number_text
number_parts k v = sym (heading_rest k (ended v line_feed))

pub two_parts : (i a j b : ℕ) → number_line i a ++ number_line j b ≡ two_lines i a j b
two_parts i a j b = sym (number_rest i a (number_line j b))

pub three_parts : (i a j b k c : ℕ) → number_line i a ++ two_lines j b k c ≡ three_lines i a j b k c
three_parts i a j b k c = sym (number_rest i a (two_lines j b k c))

pub after_parts : (mask : ℕ) → heading Keys.after ++ list_ended mask ≡ after_line mask
unfolding after_text
after_parts mask = sym (heading_rest Keys.after (list_ended mask))

pub node_parts : (x : PhalandrixNode) → two_lines Keys.budget x.budget Keys.level x.level ++ after_line x.after ≡ node_lines x
unfolding node_text
node_parts x = sym (two_rest Keys.budget x.budget Keys.level x.level (after_line x.after))

pub graph_parts : (g : PhalandrixGraph) (nodes : List PhalandrixNode) (first : ℕ)
    → three_lines Keys.period g.period Keys.offset g.offset Keys.nodes g.nodes ++ nodes_lines nodes first g.nodes ≡ graph_lines g nodes first
unfolding graph_text graph_head
graph_parts g nodes first =
    rw (nodes_counted nodes first g.nodes) (sym (three_rest Keys.period g.period Keys.offset g.offset Keys.nodes g.nodes (nodes_lines nodes first g.nodes)))

pub table_parts : (t : PhalandrixTable)
    → three_lines Keys.processors t.processors Keys.rounds t.rounds Keys.graphs t.graphs ++ graphs_lines t.graph t.node t.graphs ≡ table_lines t
unfolding written_of table_head
table_parts t =
    rw (graphs_counted t.graph t.node 0 0 t.graphs)
    (sym (three_rest Keys.processors t.processors Keys.rounds t.rounds Keys.graphs t.graphs (graphs_lines t.graph t.node t.graphs)))

-- one more node or graph
pub node_before : (x : Node) (xs : List Node) → nodes_text (x ∷ xs) [] ≡ node_text x [] ++ nodes_text xs []
unfolding nodes_text
node_before x xs = node_rest x (nodes_text xs [])

pub graph_before : (G : Graph) (Gs : List Graph) → graphs_text (G ∷ Gs) [] ≡ graph_text G [] ++ graphs_text Gs []
unfolding graphs_text
graph_before G Gs = graph_rest G (graphs_text Gs [])
