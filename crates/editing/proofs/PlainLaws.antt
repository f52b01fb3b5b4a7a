-- A table that was read says, in the form without derived fields, what it says: `table_of_plain`.
use mathlib.Core.Path.{◌≡◌, refl, sym, ap, ◌∙◌}
use mathlib.Core.Bool.{true, false, ◌&&◌, cond}
use mathlib.Core.List.{List, [], ◌∷◌, map}
use Prim.Native.Nat.{ℕ, zero, suc, ◌+◌, ◌-◌, ◌<◌, ◌≤◌}
use native.Mathlib.Numerals.{add-one}
use native.Mathlib.Omega.{arith}
use lib.Dec.{ltb, eqb}
use lib.ListN.{length, get_or, set, replicate, length-set}
use Rattle.std.proofs.lemmas.List.{ext_get_or}
use lib.Seq.{length-sets, get_or-set_same, get_or-set_other}
use borrow.Author.Tests.{ne_eqb, ltb-true}
use Rattle.schedule.specs.Limits as Limits
use Rattle.schedule.specs.Lists.{any?, all?, keep, numbers, tab}
use Rattle.schedule.specs.Table as Rules
use Rattle.schedule.specs.WellFormed.{rising, orderly, nodes_formed, graph_formed, well_formed}
use Rattle.schedule.proofs.Tests.{by_lt}
use Rattle.theorems.proofs.Formed.{first_of_lem, second_of, within_limits, node_formed, graph_formed_lem, table_formed}
use Rattle.rules.proofs.ReadWellFormed.{nodes_in}
use Rattle.numbers.specs.Masks.{width, bit}
use Rattle.table.specs.declared.Table.{Table}
use Rattle.table.specs.declared.Graph.{Graph}
use Rattle.table.specs.declared.Node.{Node}
use Rattle.table.specs.Fresh as Fresh
use Rattle.table.specs.Fresh.{empty_table}
use Rattle.scanning.specs.Masks.{mask_of}
use Rattle.scanning.proofs.MaskBits.{orderly_fits, mask_bit}
use Rattle.scanning.proofs.Members.{list_of_mask}
use Rattle.reading.specs.Memory.{coded_node, filled, with_graph, with_graphs, memory_of}
use Rattle.reading.proofs.MemoryLaws.{sets_before, graph_stays, node_stays, graphs_counted, processors_stay, rounds_stay}
use Rattle.window.specs.Loops.{replaced}
use Rattle.memory.specs.declared.plain.PhalandrixGraph.{PhalandrixGraph}
use Rattle.memory.specs.declared.plain.PhalandrixNode.{PhalandrixNode}
use Rattle.memory.specs.Plain as Plain
use Rattle.memory.specs.Plain.{numbers_in, node_in, graph_in, graphs_in, table_in}
use Rattle.editing.specs.Plains.{count_of, plain_graph, plain_node, plain_graphs, plain_nodes, plain_of}

-- entry i of a list whose first n entries are replaced
replaced_long : {A : Type 0} (f : ℕ → A) (xs : List A) (n : ℕ) → length (replaced f xs n) ≡ length xs
unfolding replaced
replaced_long f xs zero = refl
replaced_long f xs (suc n) = length-set (replaced f xs n) n (f n) ∙ replaced_long f xs n

replaced_at : {A : Type 0} (f : ℕ → A) (xs : List A) (d : A) (n i : ℕ) → i < n → n ≤ length xs → get_or (replaced f xs n) i d ≡ f i
unfolding replaced
replaced_at f xs d zero i h l = absurd (omega arith)
replaced_at f xs d (suc n) i h l =
    by_lt i n
    (λ g. get_or-set_other (replaced f xs n) n i (f n) d (λ e. omega arith) ∙ replaced_at f xs d n i g (omega arith))
    (λ g. last (omega arith))
  where
    last : i ≡ n → get_or (set (replaced f xs n) n (f n)) i d ≡ f i
    last e =
        ap (λ (k : ℕ). get_or (set (replaced f xs n) n (f n)) k d) e
        ∙ get_or-set_same (replaced f xs n) n (f n) d (omega (arith, replaced_long f xs n)) ∙ ap f (sym e)

-- a list of n entries that are f of each index below n
pub replaced_by : {A : Type 0} (f : ℕ → A) (ys base : List A) (d : A) (n : ℕ) → length ys ≡ n → length base ≡ n → ((i : ℕ) → i < n → get_or ys i d ≡ f i) → ys ≡ replaced f base n
replaced_by f ys base d n long most h =
    ext_get_or d ys (replaced f base n) (omega (arith, replaced_long f base n)) (λ i l. h i (omega arith) ∙ sym (replaced_at f base d n i (omega arith) (omega arith)))

plain_graph_at : (graphs : List Graph) (g : ℕ) → g < (Limits.graphs).to → get_or (plain_graphs graphs) g Plain.no_graph ≡ plain_graph (get_or graphs g Fresh.no_graph)
plain_graph_at graphs g h =
    replaced_at (λ (k : ℕ). plain_graph (get_or graphs k Fresh.no_graph)) (replicate (Limits.graphs).to Plain.no_graph) Plain.no_graph (Limits.graphs).to g h (omega arith)

plain_node_at : (nodes : List Node) (i : ℕ) → i < (Limits.all_nodes).to → get_or (plain_nodes nodes) i Plain.no_node ≡ plain_node (get_or nodes i Fresh.no_node)
plain_node_at nodes i h =
    replaced_at (λ (k : ℕ). plain_node (get_or nodes k Fresh.no_node)) (replicate (Limits.all_nodes).to Plain.no_node) Plain.no_node (Limits.all_nodes).to i h (omega arith)

-- a count that is small
small_count : (n : ℕ) → n ≤ (Limits.all_nodes).to → count_of n ≡ n
small_count n h = omega arith

-- the numbers in the mask of a list that keeps the predecessor rules
abbrev picked : ℕ → ℕ → ℕ → List ℕ
picked m a n = keep (λ (p : ℕ). bit m (p - 1)) (numbers (suc a) n)

picked_none : (m n a : ℕ) → ((j : ℕ) → a ≤ j → bit m j ≡ false) → picked m a n ≡ []
picked_none m zero a h = refl
picked_none m (suc n) a h =
    let e : suc a - 1 ≡ a = omega arith in
    rw (e, h a (omega arith)) (picked_none m n (suc a) (λ j l. h j (omega arith)))

picked_split : (m k n a : ℕ) → picked m (a + n) k ≡ [] → picked m a (n + k) ≡ picked m a n
picked_split m k zero a h =
    let e : a + 0 ≡ a = omega arith in
    let f : 0 + k ≡ k = omega arith in
    rw f (ap (λ (z : ℕ). picked m z k) (sym e) ∙ h)
picked_split m k (suc n) a h =
    let e : a + suc n ≡ suc a + n = omega arith in
    let f : suc n + k ≡ suc (n + k) = omega arith in
    rw f (ap (λ (l : List ℕ). cond (bit m (suc a - 1)) (suc a ∷ l) l) (picked_split m k n (suc a) (ap (λ (z : ℕ). picked m z k) (sym e) ∙ h)))

none_above : (own last y : ℕ) (l : List ℕ) → rising own last l ≡ true → own ≤ y → any? (eqb y) l ≡ false
unfolding rising
none_above own last y [] e h = refl
none_above own last y (x ∷ xs) e h =
    let here = first_of_lem (ltb last x && ltb x own) (rising own x xs) e in
    let below = ltb-true x own (second_of (ltb last x) (ltb x own) here) in
    rw (ne_eqb y x (λ (g : y ≡ x). omega arith)) (none_above own x y xs (second_of (ltb last x && ltb x own) (rising own x xs) e) h)

orderly_above : (own y : ℕ) (l : List ℕ) → orderly own l ≡ true → own ≤ y → any? (eqb y) l ≡ false
unfolding orderly
orderly_above own y [] e h = refl
orderly_above own y (x ∷ xs) e h = none_above own 0 y (x ∷ xs) e h

numbers_of_mask : (own : ℕ) (l : List ℕ) → own ≤ (Limits.nodes).to → orderly own l ≡ true → numbers_in (mask_of l) ≡ l
unfolding numbers_in
numbers_of_mask own l h e =
    picked_split (mask_of l) (width - (Limits.predecessor).to) (Limits.predecessor).to 0
    (picked_none (mask_of l) (width - (Limits.predecessor).to) (Limits.predecessor).to
    (λ j g. mask_bit l j (orderly_fits own l (omega arith) e) ∙ orderly_above own (suc j) l e (omega arith)))
    ∙ list_of_mask own l h e

-- a node, and the nodes of a graph
node_back : (v : ℕ) (x : Rules.Node) (xs : List Rules.Node) → v ≤ (Limits.nodes).to → nodes_formed v (x ∷ xs) ≡ true → node_in (plain_node (coded_node x)) ≡ x
node_back v x xs h e =
    ap (λ (l : List ℕ). record { budget = x.budget; level = x.level; after = l }) (numbers_of_mask v x.after h (node_formed v x xs e).order)

nodes_back : (v : ℕ) (xs : List Rules.Node) (rows : List Node) (f : ℕ) (at : ℕ → PhalandrixNode) → v + length xs ≤ suc (Limits.nodes).to → f + length xs ≤ length rows
    → nodes_formed v xs ≡ true → ((i : ℕ) → i < f + length xs → at i ≡ plain_node (get_or (filled rows f xs) i Fresh.no_node))
    → tab (λ (i : ℕ). node_in (at i)) f (length xs) ≡ xs
nodes_back v [] rows f at h l e s = refl
nodes_back v (x ∷ xs) rows f at h l e s =
    let next = set rows f (coded_node x) in
    let same : length next ≡ length rows = length-set rows f (coded_node x) in
    let here : get_or (filled rows f (x ∷ xs)) f Fresh.no_node ≡ coded_node x = sets_before (map coded_node xs) next (suc f) f Fresh.no_node (omega arith)
    ∙ get_or-set_same rows f (coded_node x) Fresh.no_node (omega arith) in
    ap (λ (y : Rules.Node). y ∷ tab (λ (i : ℕ). node_in (at i)) (suc f) (length xs))
    (ap node_in (s f (omega arith) ∙ ap plain_node here) ∙ node_back v x xs (omega arith) e)
    ∙ ap (λ (ys : List Rules.Node). x ∷ ys)
    (nodes_back (suc v) xs next (suc f) at (omega arith) (omega arith) (node_formed v x xs e).others (λ i k. s i (omega arith)))

-- a graph that is added first, and then all of them
module _ (G : Rules.Graph) (Gs : List Rules.Graph) (t : Table) (h : t.graphs < (Limits.graphs).to) (many : length t.graph ≡ (Limits.graphs).to)
    (wide : length t.node ≡ (Limits.all_nodes).to) (l : t.nodes + length G.nodes ≤ (Limits.all_nodes).to) (e : graph_formed G ≡ true) where
  abbrev all : Table
  all = with_graphs (with_graph t G) Gs

  abbrev row : Graph
  row = record { period = G.period; offset = G.offset; first = t.nodes; nodes = length G.nodes }

  abbrev entry : PhalandrixGraph
  entry = record { period = G.period; offset = G.offset; nodes = length G.nodes }

  entry_is : get_or (plain_graphs all.graph) t.graphs Plain.no_graph ≡ entry
  entry_is =
      plain_graph_at all.graph t.graphs h
      ∙ ap plain_graph (graph_stays Gs (with_graph t G) t.graphs (omega arith) ∙ get_or-set_same t.graph t.graphs row Fresh.no_graph (omega arith))
      ∙ ap (λ (n : ℕ). record { period = G.period; offset = G.offset; nodes = n }) (small_count (length G.nodes) (omega arith))

  nodes_are : tab (λ (i : ℕ). node_in (get_or (plain_nodes all.node) i Plain.no_node)) t.nodes (length G.nodes) ≡ G.nodes
  nodes_are =
      let f = graph_formed_lem G e in
      let few = within_limits Limits.nodes (length G.nodes) f.few in
      nodes_back 1 G.nodes t.node t.nodes (λ (i : ℕ). get_or (plain_nodes all.node) i Plain.no_node) (omega (arith, few.1)) (omega arith) f.nodes
      (λ i k. plain_node_at all.node i (omega arith) ∙ ap plain_node (node_stays Gs (with_graph t G) i k))

  first_is : graph_in (plain_nodes all.node) t.nodes entry ≡ G
  first_is = ap (λ (xs : List Rules.Node). record { period = G.period; offset = G.offset; nodes = xs }) nodes_are

graphs_back : (Gs : List Rules.Graph) (t : Table) → t.graphs + length Gs ≤ (Limits.graphs).to → length t.graph ≡ (Limits.graphs).to → length t.node ≡ (Limits.all_nodes).to
    → t.nodes + nodes_in Gs ≤ (Limits.all_nodes).to → all? graph_formed Gs ≡ true
    → graphs_in (plain_graphs (with_graphs t Gs).graph) (plain_nodes (with_graphs t Gs).node) t.graphs t.nodes (length Gs) ≡ Gs
unfolding with_graphs graphs_in
graphs_back [] t h many wide l e = refl
graphs_back (G ∷ Gs) t h many wide l e =
    let u = with_graphs (with_graph t G) Gs in
    let here = first_of_lem (graph_formed G) (all? graph_formed Gs) e in
    let x = entry_is G Gs t (omega arith) many wide (omega arith) here in
    let y = first_is G Gs t (omega arith) many wide (omega arith) here in
    let more = length-set t.graph t.graphs (row G Gs t (omega arith) many wide (omega arith) here) in
    let kept = length-sets t.node t.nodes (map coded_node G.nodes) in
    let rest = graphs_back Gs (with_graph t G) (omega arith) (more ∙ many) (kept ∙ wide) (omega arith) (second_of (graph_formed G) (all? graph_formed Gs) e) in
    ap (λ (z : PhalandrixGraph). graph_in (plain_nodes u.node) t.nodes z ∷ graphs_in (plain_graphs u.graph) (plain_nodes u.node) (suc t.graphs) (t.nodes + z.nodes) (length Gs)) x
    ∙ ap (λ (H : Rules.Graph). H ∷ graphs_in (plain_graphs u.graph) (plain_nodes u.node) (suc t.graphs) (t.nodes + length G.nodes) (length Gs)) y
    ∙ ap (λ (g : ℕ). G ∷ graphs_in (plain_graphs u.graph) (plain_nodes u.node) g (t.nodes + length G.nodes) (length Gs)) (sym (add-one t.graphs))
    ∙ ap (λ (Hs : List Rules.Graph). G ∷ Hs) rest

pub table_of_plain : (T : Rules.Table) → well_formed T ≡ true → table_in (plain_of (memory_of T)) ≡ T
table_of_plain T e =
    let f = table_formed T e in
    let few = within_limits Limits.graphs (length T.graphs) f.few in
    let every = within_limits Limits.all_nodes (nodes_in T.graphs) f.nodes in
    let t = empty_table T.processors T.rounds in
    let u = with_graphs t T.graphs in
    let counted : count_of u.graphs ≡ length T.graphs = ap count_of (graphs_counted T.graphs t) ∙ omega (arith, few.1) in
    rw (processors_stay T.graphs t, rounds_stay T.graphs t)
    (ap (λ (Gs : List Rules.Graph). record { processors = T.processors; rounds = T.rounds; graphs = Gs })
    (ap (graphs_in (plain_graphs u.graph) (plain_nodes u.node) 0 0) counted
    ∙ graphs_back T.graphs t (omega (arith, few.1)) refl refl (omega (arith, every.1)) f.graphs))
