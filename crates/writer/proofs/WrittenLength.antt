-- The text of a well-formed table is at most `longest_written` bytes, which is less than a table may have. Shown at the end: `written_within`,
-- `written_fits`.
use mathlib.Core.Path.{◌≡◌, refl}
use mathlib.Core.Bool.{Bool, true, ◌&&◌}
use mathlib.Core.List.{List, [], ◌∷◌, ◌++◌}
use Prim.Native.Nat.{ℕ, zero, suc, ◌+◌, ◌*◌, ◌-◌, ◌/◌, ◌%◌, ◌≤◌, ◌<◌}
use native.Mathlib.Omega.{arith}
use lib.Dec.{ltb}
use lib.ListN.{length, length-append}
use borrow.Author.Tests.{ltb-true}
use Rattle.schedule.specs.Limits as Limits
use Rattle.schedule.specs.Lists.{all?, sum}
use Rattle.schedule.specs.Table.{Node, Graph, Table}
use Rattle.schedule.specs.WellFormed.{within, rising, orderly, nodes_formed, graph_formed, well_formed}
use Rattle.schedule.proofs.Tests.{by_lt}
use Rattle.theorems.proofs.Formed.{first_of_lem, second_of, within_limits, node_formed, graph_formed_lem, table_formed}
use Rattle.format.specs.Bytes.{bytes, line_feed, equals, comma, digit_zero, decimal_by, decimal}
use Rattle.format.specs.Keys as Keys
use Rattle.format.specs.Keys.{keys, key_at}
use Rattle.format.proofs.Decimal.{decimal_one, decimal_more}
use Rattle.rules.proofs.ReadWellFormed.{nodes_in}
use Rattle.writer.specs.Writing.{numbers_text, list_text, heading_text, number_text, after_text, node_text, nodes_text, graph_head, graph_text, graphs_text, table_head, written_of}
use Rattle.writer.specs.Lengths.{line_with, longest_number, longest_list, longest_node, longest_graph_head, longest_table_head, longest_written}

-- how many digits a number has
digits_one : (n : ℕ) → n < 10 → length (decimal n) ≡ 1
digits_one n h = rw (decimal_one n h) refl

digits_more : (n : ℕ) → 10 ≤ n → length (decimal n) ≡ length (decimal (n / 10)) + 1
digits_more n h = rw (decimal_more n h, length-append (decimal (n / 10)) ((digit_zero + n % 10) ∷ [])) refl

-- a number has no more digits than a larger one; `most` bounds the larger one
no_more_digits : (most v w : ℕ) → w ≤ most → v ≤ w → length (decimal v) ≤ length (decimal w)
no_more_digits zero v w b l = let e = digits_one v (omega arith) in let f = digits_one w (omega arith) in omega (arith, e, f)
no_more_digits (suc most) v w b l =
    by_lt w 10 (λ h. let e = digits_one v (omega arith) in let f = digits_one w h in omega (arith, e, f))
    (λ h.
    let f = digits_more w h in
    by_lt v 10 (λ i. let e = digits_one v i in omega (arith, e, f))
    (λ i. let e = digits_more v i in let k = no_more_digits most (v / 10) (w / 10) (omega arith) (omega arith) in omega (arith, e, f, k)))

pub number_long : (k v : ℕ) (rest : List ℕ) → within (key_at k).range v ≡ true → length (number_text k v rest) ≤ longest_number k + length rest
unfolding number_text heading_text
number_long k v rest e =
    let to = (key_at k).range.to in
    let i = no_more_digits to v to (omega arith) (within_limits (key_at k).range v e).1 in
    rw (length-append (key_at k).name (equals ∷ (decimal v ++ (line_feed ∷ rest))), length-append (decimal v) (line_feed ∷ rest)) (omega (arith, i))

-- a predecessor's number
predecessor_long : (own v : ℕ) → own ≤ (Limits.nodes).to → v < own → length (decimal v) ≤ 2
unfolding decimal decimal_by
predecessor_long own v b h = no_more_digits (Limits.predecessor).to v (Limits.predecessor).to (omega arith) (omega arith)

rising_long : (own last v : ℕ) (vs rest : List ℕ) → own ≤ (Limits.nodes).to → rising own last (v ∷ vs) ≡ true
    → length (numbers_text v vs rest) + 3 * last + 4 ≤ 3 * own + length rest
unfolding numbers_text rising
rising_long own last v [] rest b e =
    let h = first_of_lem (ltb last v && ltb v own) true e in
    let i = ltb-true last v (first_of_lem (ltb last v) (ltb v own) h) in
    let j = ltb-true v own (second_of (ltb last v) (ltb v own) h) in
    let d = predecessor_long own v b j in
    rw (length-append (decimal v) rest) (omega (arith, i, j, d))
rising_long own last v (w ∷ ws) rest b e =
    let h = first_of_lem (ltb last v && ltb v own) (rising own v (w ∷ ws)) e in
    let i = ltb-true last v (first_of_lem (ltb last v) (ltb v own) h) in
    let j = ltb-true v own (second_of (ltb last v) (ltb v own) h) in
    let d = predecessor_long own v b j in
    let r = rising_long own v w ws rest b (second_of (ltb last v && ltb v own) (rising own v (w ∷ ws)) e) in
    rw (length-append (decimal v) (comma ∷ numbers_text w ws rest)) (omega (arith, i, j, d, r))

list_long : (own : ℕ) (vs rest : List ℕ) → own ≤ (Limits.nodes).to → orderly own vs ≡ true → length (list_text vs rest) ≤ longest_list + length rest
unfolding list_text orderly decimal decimal_by
list_long own [] rest b e = omega arith
list_long own (v ∷ vs) rest b e = let i = rising_long own 0 v vs rest b e in omega (arith, i)

pub after_long : (own : ℕ) (vs rest : List ℕ) → own ≤ (Limits.nodes).to → orderly own vs ≡ true → length (after_text vs rest) ≤ line_with Keys.after longest_list + length rest
unfolding after_text heading_text keys decimal decimal_by
after_long own vs rest b e = let i = list_long own vs (line_feed ∷ rest) b e in omega (arith, i)

nodes_long : (own : ℕ) (xs : List Node) (rest : List ℕ) → own + length xs ≤ suc (Limits.nodes).to → nodes_formed own xs ≡ true
    → length (nodes_text xs rest) ≤ longest_node * length xs + length rest
unfolding nodes_text node_text keys decimal decimal_by
nodes_long own [] rest b e = omega arith
nodes_long own (x ∷ xs) rest b e =
    let f = node_formed own x xs e in
    let y = nodes_text xs rest in
    let i = nodes_long (suc own) xs rest (omega arith) f.others in
    let a = after_long own x.after y (omega arith) f.order in
    let l = number_long Keys.level x.level (after_text x.after y) f.level in
    let m = number_long Keys.budget x.budget (number_text Keys.level x.level (after_text x.after y)) f.budget in
    omega (arith, i, a, l, m)

graph_long : (G : Graph) (rest : List ℕ) → graph_formed G ≡ true → length (graph_text G rest) ≤ longest_graph_head + longest_node * length G.nodes + length rest
unfolding graph_text graph_head keys decimal decimal_by
graph_long G rest e =
    let f = graph_formed_lem G e in
    let n = length G.nodes in
    let x = nodes_text G.nodes rest in
    let i = nodes_long 1 G.nodes rest (omega (arith, (within_limits Limits.nodes n f.few).1)) f.nodes in
    let j = number_long Keys.nodes n x f.few in
    let k = number_long Keys.offset G.offset (number_text Keys.nodes n x) f.offset in
    let l = number_long Keys.period G.period (number_text Keys.offset G.offset (number_text Keys.nodes n x)) f.period in
    omega (arith, i, j, k, l)

graphs_long : (Gs : List Graph) (rest : List ℕ) → all? graph_formed Gs ≡ true → length (graphs_text Gs rest) ≤ longest_graph_head * length Gs + longest_node * nodes_in Gs + length rest
unfolding graphs_text keys decimal decimal_by
graphs_long [] rest e = omega arith
graphs_long (G ∷ Gs) rest e =
    let i = graphs_long Gs rest (second_of (graph_formed G) (all? graph_formed Gs) e) in
    let j = graph_long G (graphs_text Gs rest) (first_of_lem (graph_formed G) (all? graph_formed Gs) e) in
    omega (arith, i, j)

pub written_within : (U : Table) → well_formed U ≡ true → length (written_of U) ≤ longest_written
unfolding written_of table_head keys decimal decimal_by
written_within U e =
    let f = table_formed U e in
    let n = length U.graphs in
    let x = graphs_text U.graphs [] in
    let c = within_limits Limits.graphs n f.few in
    let d = within_limits Limits.all_nodes (nodes_in U.graphs) f.nodes in
    let i = graphs_long U.graphs [] f.graphs in
    let j = number_long Keys.graphs n x f.few in
    let k = number_long Keys.rounds U.rounds (number_text Keys.graphs n x) f.rounds in
    let l = number_long Keys.processors U.processors (number_text Keys.rounds U.rounds (number_text Keys.graphs n x)) f.processors in
    omega (arith, i, j, k, l, c.1, d.1)

-- the bytes of the header and the package
pub longest_is : longest_written ≡ 2616
unfolding keys decimal decimal_by
longest_is = refl

pub written_fits : (U : Table) → well_formed U ≡ true → length (written_of U) ≤ (Limits.table_bytes).to
written_fits U e = omega (arith, written_within U e, longest_is)
