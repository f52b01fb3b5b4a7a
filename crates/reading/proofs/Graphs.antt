-- A graph, graphs one after another, and the end of the table.
use mathlib.Core.Path.{◌≡◌, refl, ◌∙◌, ap}
use mathlib.Core.Bool.{true, cond}
use mathlib.Core.List.{List, [], ◌∷◌}
use Prim.Native.Nat.{ℕ, suc, ◌+◌, ◌-◌, ◌<◌, ◌≤◌}
use native.Mathlib.Omega.{arith}
use lib.Dec.{eqb}
use lib.ListN.{length, drop}
use borrow.Author.Tests.{le-leb, lt-leb}
use Rattle.format.specs.declared.Refusal.{Refusal}
use Rattle.format.specs.declared.Refusal.TheVariants.{Misspelled, OutsideLimits, AgainstPredecessorRules}
use Rattle.schedule.specs.Limits as Limits
use Rattle.format.specs.Keys as Keys
use Rattle.schedule.specs.Table.{Node, Graph}
use Rattle.schedule.specs.WellFormed.{within, all_followed, nodes_formed}
use Rattle.format.specs.Reading.{Place, first_column, Outcome, refused, done, ◌and_then◌, value_column, number_line, nodes_from, graph_nodes, graph, graphs_from, ended, table}
use Rattle.rules.proofs.Outcomes.{Holds, number_line_holds}
use Rattle.schedule.proofs.Tests.{by_test}
use Rattle.numbers.specs.Masks.{unset_below}
use Rattle.table.specs.declared.Table.{Table as Memory}
use Rattle.table.specs.Fresh.{empty_table}
use Rattle.lines.specs.declared.numbering.Three.{Three}
use Rattle.reading.specs.Memory.{with_graph, with_graphs, memory_of}
use Rattle.lines.specs.Numbered.{map_outcome, came_to, three_lines}
use Rattle.reading.specs.declared.tables.Taken.{Taken}
use Rattle.reading.specs.Outcomes.{taken, added_graph, ended_graph}
use Rattle.scanning.proofs.ScannerLaws.{next, past}
use Rattle.reading.proofs.Successors.{successors}

module _ {A B : Type 0} where
  -- two ways to go on that agree where P holds
  on_alike : (P : A → Place → Type 0) (x : Outcome A) (f g : A → Place → Outcome B) → Holds P x
      → ((a : A) (p : Place) → P a p → f a p ≡ g a p) → x and_then f ≡ x and_then g
  on_alike P (done a p) f g h e = e a p h
  on_alike P (refused r) f g h e = refl

-- three numbers, and what follows them
three_then : {B : Type 0} (k l m : ℕ) (p : Place) (f : Three → Place → Outcome B)
    → (number_line k p and_then λ a p. number_line l p and_then λ b p. number_line m p and_then λ c p. f (record { first = a; second = b; third = c }) p)
    ≡ ((number_line k p and_then λ a p. number_line l p and_then λ b p. number_line m p and_then λ c p. done (record { first = a; second = b; third = c }) p) and_then f)
three_then {B} k l m p f = one (number_line k p)
  where
    three : (a b : ℕ) (x : Outcome ℕ)
        → (x and_then λ c p. f (record { first = a; second = b; third = c }) p) ≡ ((x and_then λ c p. done (record { first = a; second = b; third = c }) p) and_then f)
    three a b (done c p) = refl
    three a b (refused r) = refl

    two : (a : ℕ) (x : Outcome ℕ)
        → (x and_then λ b p. number_line m p and_then λ c p. f (record { first = a; second = b; third = c }) p)
        ≡ ((x and_then λ b p. number_line m p and_then λ c p. done (record { first = a; second = b; third = c }) p) and_then f)
    two a (done b p) = three a b (number_line m p)
    two a (refused r) = refl

    one : (x : Outcome ℕ)
        → (x and_then λ a p. number_line l p and_then λ b p. number_line m p and_then λ c p. f (record { first = a; second = b; third = c }) p)
        ≡ ((x and_then λ a p. number_line l p and_then λ b p. number_line m p and_then λ c p. done (record { first = a; second = b; third = c }) p) and_then f)
    one (done a p) = two a (number_line l p)
    one (refused r) = refl

-- a graph's head, and the line of its number of nodes
pub graph_three : (total : ℕ) (p : Place)
    → graph total p ≡ three_lines Keys.period Keys.offset Keys.nodes 0 p and_then (λ t q. graph_nodes total t.first t.second t.third (q.line - 1) q)
unfolding graph three_lines
graph_three total p =
    on_alike (λ a q. Unit {0}) (number_line Keys.period p) _ _ (any (number_line Keys.period p)) (λ a q u.
    on_alike (λ b r. Unit {0}) (number_line Keys.offset q) _ _ (any (number_line Keys.offset q)) (λ b r v.
    on_alike (λ n t. (within _ n ≡ true) × (t.line ≡ suc r.line)) (number_line Keys.nodes r) _ _ (number_line_holds Keys.nodes r) (λ n t h.
    let e : r.line ≡ t.line - 1 = omega (arith, h.1) in ap (λ (l : ℕ). graph_nodes total a b n l t) e)))
    ∙ three_then Keys.period Keys.offset Keys.nodes p (λ t q. graph_nodes total t.first t.second t.third (q.line - 1) q)
  where
    any : (x : Outcome ℕ) → Holds (λ a q. Unit {0}) x
    any (done a q) = tt
    any (refused r) = tt

-- the table's
pub table_three : (p : Place)
    → table p
    ≡ three_lines Keys.processors Keys.rounds Keys.graphs 0 p and_then (λ t q. graphs_from 0 t.third q and_then λ Gs r. ended (record { processors = t.first; rounds = t.second; graphs = Gs }) r r.bytes)
unfolding table three_lines
table_three p =
    three_then Keys.processors Keys.rounds Keys.graphs p (λ t q. graphs_from 0 t.third q and_then λ Gs r. ended (record { processors = t.first; rounds = t.second; graphs = Gs }) r r.bytes)

-- a graph's nodes
module _ (total period offset n l : ℕ) (p : Place) where
  pub nodes_over : (Limits.all_nodes).to < total + n → graph_nodes total period offset n l p ≡ refused (OutsideLimits l (value_column Keys.nodes))
  unfolding graph_nodes
  nodes_over h = rw (lt-leb (total + n) (Limits.all_nodes).to h)

  module _ (h : total + n ≤ (Limits.all_nodes).to) where
    pub nodes_refused : (r : Refusal) → nodes_from 1 n p ≡ refused r → graph_nodes total period offset n l p ≡ refused r
    unfolding graph_nodes
    nodes_refused r e = rw (le-leb (total + n) (Limits.all_nodes).to h, e)

    pub nodes_done : (xs : List Node) (q : Place) → nodes_from 1 n p ≡ done xs q
        → graph_nodes total period offset n l p
        ≡ cond (all_followed xs) (done (record { period = period; offset = offset; nodes = xs }) q) (refused (AgainstPredecessorRules (q.line - 1) first_column))
    unfolding graph_nodes
    nodes_done xs q e = rw (le-leb (total + n) (Limits.all_nodes).to h, e)

-- what code makes of a graph's nodes once they are read
module _ (t : Memory) (head : Three) (xs : List Node) (taking : Taken) (many : length xs ≡ head.third) (e : taking ≡ taken t.node t.nodes 0 xs) where
  added_graph_lem : added_graph t head taking.nodes ≡ with_graph t (record { period = head.first; offset = head.second; nodes = xs })
  added_graph_lem = rw (← many, e)

  none_left : head.third ≤ (Limits.nodes).to → nodes_formed 1 xs ≡ true → eqb (unset_below (head.third - 1) taking.named) 0 ≡ all_followed xs
  none_left few formed = rw (← many, e) (successors xs (omega arith) formed)

  pub ended_graph_lem : head.third ≤ (Limits.nodes).to → nodes_formed 1 xs ≡ true → (p : Place)
      → came_to p (ended_graph t head taking.nodes taking.named p.line)
      ≡ map_outcome (with_graph t)
      (cond (all_followed xs) (done (record { period = head.first; offset = head.second; nodes = xs }) p) (refused (AgainstPredecessorRules (p.line - 1) first_column)))
  ended_graph_lem few formed p =
      by_test (all_followed xs)
      (λ f. rw (none_left few formed, f) (ap (λ (m : Memory). done m p) added_graph_lem))
      (λ f. rw (none_left few formed, f))

-- graphs from the one after g on, of n
module _ (t : Memory) (n g : ℕ) (p : Place) (h : g < n) where
  graphs_on : (left : ℕ) (x : Outcome Graph)
      → map_outcome (with_graphs t) (x and_then λ a q. graphs_from (t.nodes + length a.nodes) left q and_then λ Gs r. done (a ∷ Gs) r)
      ≡ x and_then (λ a q. map_outcome (with_graphs (with_graph t a)) (graphs_from (t.nodes + length a.nodes) left q))
  unfolding with_graphs
  graphs_on left (refused r) = refl
  graphs_on left (done a q) = more (graphs_from (t.nodes + length a.nodes) left q)
    where
      more : (y : Outcome (List Graph)) → map_outcome (with_graphs t) (y and_then λ Gs r. done (a ∷ Gs) r) ≡ map_outcome (with_graphs (with_graph t a)) y
      more (refused r) = refl
      more (done Gs r) = refl

  graphs_step : map_outcome (with_graphs t) (graphs_from t.nodes (n - g) p)
      ≡ graph t.nodes p and_then (λ a q. map_outcome (with_graphs (with_graph t a)) (graphs_from (t.nodes + length a.nodes) (n - (g + 1)) q))
  unfolding graphs_from
  graphs_step =
      let e : n - g ≡ suc (n - (g + 1)) = omega arith in
      rw e (graphs_on (n - (g + 1)) (graph t.nodes p))

  pub graphs_one : (a : Graph) (q : Place) → graph t.nodes p ≡ done a q
      → map_outcome (with_graphs t) (graphs_from t.nodes (n - g) p) ≡ map_outcome (with_graphs (with_graph t a)) (graphs_from (with_graph t a).nodes (n - (g + 1)) q)
  graphs_one a q e = graphs_step ∙ rw e

  pub graphs_refused : (r : Refusal) → graph t.nodes p ≡ refused r → map_outcome (with_graphs t) (graphs_from t.nodes (n - g) p) ≡ refused r
  graphs_refused r e = graphs_step ∙ rw e

pub graphs_none : (t : Memory) (n g : ℕ) (p : Place) → n ≤ g → map_outcome (with_graphs t) (graphs_from t.nodes (n - g) p) ≡ done t p
unfolding graphs_from with_graphs
graphs_none t n g p h = let e : n - g ≡ 0 = omega arith in rw e

-- the end of the table, in memory and not
pub ended_map : (a b : ℕ) (x : Outcome (List Graph))
    → map_outcome memory_of (x and_then λ Gs p. ended (record { processors = a; rounds = b; graphs = Gs }) p p.bytes)
    ≡ map_outcome (with_graphs (empty_table a b)) x and_then (λ m p. ended m p p.bytes)
ended_map a b (refused r) = refl
ended_map a b (done Gs p) = last p.bytes
  where
    last : (rest : List ℕ) → map_outcome memory_of (ended (record { processors = a; rounds = b; graphs = Gs }) p rest) ≡ ended (with_graphs (empty_table a b) Gs) p rest
    last [] = refl
    last (c ∷ rest) = refl

-- the end of a text, whatever was read of it
pub ended_alike : {A : Type 0} (m : A) (p : Place) → ended m p p.bytes ≡ map_outcome (λ (u : Unit {0}). m) (ended tt p p.bytes)
ended_alike {A} m p = by_bytes p.bytes
  where
    by_bytes : (rest : List ℕ) → ended m p rest ≡ map_outcome (λ (u : Unit {0}). m) (ended tt p rest)
    by_bytes [] = refl
    by_bytes (c ∷ rest) = refl

-- the end of a text, by a test for more bytes
module _ {A : Type 0} (m : A) (l p : ℕ) (s : List ℕ) where
  pub ended_more : p < length s → ended m (record { line = l; bytes = drop p s }) (drop p s) ≡ refused (Misspelled l first_column)
  ended_more h = ap (λ (b : List ℕ). ended m (record { line = l; bytes = drop p s }) b) (next s p h)

  pub ended_none : length s ≤ p → ended m (record { line = l; bytes = drop p s }) (drop p s) ≡ done m (record { line = l; bytes = drop p s })
  ended_none h = ap (λ (b : List ℕ). ended m (record { line = l; bytes = drop p s }) b) (past s p h)
