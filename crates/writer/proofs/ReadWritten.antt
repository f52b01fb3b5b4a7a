-- A legal text, read and written again, is the same bytes. Shown at the end: `read_written`.
use mathlib.Core.Path.{◌≡◌, refl, sym, ap, subst, ◌∙◌}
use mathlib.Core.Bool.{Bool}
use mathlib.Core.List.{List, [], ◌∷◌, ◌++◌}
use Prim.Native.Nat.{ℕ, zero, suc, ◌+◌}
use native.Mathlib.Omega.{arith}
use lib.Dec.{leb}
use lib.ListN.{length}
use Rattle.schedule.specs.Limits as Limits
use Rattle.schedule.specs.Table.{Graph, Table}
use Rattle.schedule.specs.WellFormed.{within, orderly, all_followed}
use Rattle.schedule.proofs.Tests.{by_test}
use Rattle.format.specs.declared.Refusal.{Refusal}
use Rattle.format.specs.declared.Refusal.TheVariants.{OutsideLimits, AgainstPredecessorRules}
use Rattle.format.specs.Bytes.{decimal}
use Rattle.format.specs.Keys as Keys
use Rattle.format.specs.Keys.{key_at}
use Rattle.format.specs.Spelling.{Scan, read, wrong, number, list, line}
use Rattle.format.specs.Reading.{Place, done, column_at, judged, value_column, value_in, number_line, offending, after_line, node, nodes_from, graph_nodes, graph, graphs_from, ended, table, read_of}
use Rattle.rules.proofs.Outcomes.{Holds, told, then_holds}
use Rattle.writer.specs.Writing.{list_text, heading_text, number_text, after_text, node_text, nodes_text, graph_head, graph_text, graphs_text, table_head, written_of}
use Rattle.writer.proofs.Scanned.{Scanned, number_scanned}
use Rattle.writer.proofs.LineText.{list_scanned, line_scanned}

judged_scanned : {A : Type 0} (P : A → List ℕ → Type 0) (unfair : ℕ → ℕ → Refusal) (fault : ℕ) (fair : A → Bool) (p : Place) (x : Scan A)
    → Scanned P x → Holds (λ a q. P a q.bytes) (judged unfair fault fair p x)
judged_scanned P unfair fault fair p (wrong rest) h = tt
judged_scanned P unfair fault fair p (read v rest) h = by_test (fair v) (λ e. rw e h) (λ e. rw e tt)

number_line_written : (k : ℕ) (p : Place) → Holds (λ v q. p.bytes ≡ number_text k v q.bytes) (number_line k p)
unfolding number_line number_text heading_text
number_line_written k p =
    judged_scanned (λ v rest. p.bytes ≡ number_text k v rest) OutsideLimits (value_column k) (within (key_at k).range) p (line (key_at k).name number p.bytes)
    (line_scanned (key_at k).name number (λ v rest. decimal v ++ rest) number_scanned p.bytes)

after_line_written : (own : ℕ) (p : Place) → Holds (λ v q. p.bytes ≡ after_text v q.bytes) (after_line own p)
unfolding after_line after_text heading_text
after_line_written own p =
    judged_scanned (λ v rest. p.bytes ≡ after_text v rest) AgainstPredecessorRules (column_at p.bytes (offending own (value_in Keys.after p.bytes))) (orderly own) p
    (line (key_at Keys.after).name list p.bytes) (line_scanned (key_at Keys.after).name list list_text list_scanned p.bytes)

node_written : (own : ℕ) (p : Place) → Holds (λ x q. p.bytes ≡ node_text x q.bytes) (node own p)
unfolding node node_text
node_written own p =
    then_holds _ _ (number_line Keys.budget p) _ (number_line_written Keys.budget p) (λ b q h.
    then_holds _ _ (number_line Keys.level q) _ (number_line_written Keys.level q) (λ v r i.
    then_holds _ _ (after_line own r) _ (after_line_written own r) (λ m t j.
    h ∙ ap (number_text Keys.budget b) (i ∙ ap (number_text Keys.level v) j))))

nodes_written : (own n : ℕ) (p : Place) → Holds (λ xs q. (p.bytes ≡ nodes_text xs q.bytes) × (length xs ≡ n)) (nodes_from own n p)
unfolding nodes_from nodes_text
nodes_written own zero p = (refl, refl)
nodes_written own (suc n) p =
    then_holds _ _ (node own p) _ (node_written own p) (λ x q h.
    then_holds _ _ (nodes_from (suc own) n q) _ (nodes_written (suc own) n q) (λ xs r i.
    (h ∙ ap (node_text x) i.0, ap suc i.1)))

graph_nodes_written : (total period offset n l : ℕ) (p : Place)
    → Holds (λ G q. graph_head period offset n p.bytes ≡ graph_text G q.bytes) (graph_nodes total period offset n l p)
unfolding graph_nodes graph_text graph_head
graph_nodes_written total period offset n l p =
    by_test (leb (total + n) (Limits.all_nodes).to)
    (λ f. rw f (then_holds _ _ (nodes_from 1 n p) _ (nodes_written 1 n p) (λ xs q h.
    by_test (all_followed xs)
    (λ g. rw g (ap (graph_head period offset n) h.0 ∙ ap (λ (k : ℕ). graph_head period offset k (nodes_text xs q.bytes)) (sym h.1)))
    (λ g. rw g tt))))
    (λ f. rw f tt)

graph_written : (total : ℕ) (p : Place) → Holds (λ G q. p.bytes ≡ graph_text G q.bytes) (graph total p)
unfolding graph graph_head
graph_written total p =
    then_holds _ _ (number_line Keys.period p) _ (number_line_written Keys.period p) (λ a q h.
    then_holds _ _ (number_line Keys.offset q) _ (number_line_written Keys.offset q) (λ b r i.
    then_holds _ _ (number_line Keys.nodes r) _ (number_line_written Keys.nodes r) (λ n t j.
    subst (λ (s : List ℕ). Holds (λ G u. s ≡ graph_text G u.bytes) (graph_nodes total a b n r.line t))
    (sym (h ∙ ap (number_text Keys.period a) (i ∙ ap (number_text Keys.offset b) j)))
    (graph_nodes_written total a b n r.line t))))

graphs_written : (total n : ℕ) (p : Place) → Holds (λ Gs q. (p.bytes ≡ graphs_text Gs q.bytes) × (length Gs ≡ n)) (graphs_from total n p)
unfolding graphs_from graphs_text
graphs_written total zero p = (refl, refl)
graphs_written total (suc n) p =
    then_holds _ _ (graph total p) _ (graph_written total p) (λ G q h.
    then_holds _ _ (graphs_from (total + length G.nodes) n q) _ (graphs_written (total + length G.nodes) n q) (λ Gs r i.
    (h ∙ ap (graph_text G) i.0, ap suc i.1)))

table_written : (p : Place) → Holds (λ T q. written_of T ≡ p.bytes) (table p)
unfolding table written_of table_head
table_written p =
    then_holds _ _ (number_line Keys.processors p) _ (number_line_written Keys.processors p) (λ a q h.
    then_holds _ _ (number_line Keys.rounds q) _ (number_line_written Keys.rounds q) (λ b r i.
    then_holds _ _ (number_line Keys.graphs r) _ (number_line_written Keys.graphs r) (λ n t j.
    then_holds _ _ (graphs_from 0 n t) _ (graphs_written 0 n t) (λ Gs u k.
    end a b n Gs u u.bytes (h ∙ ap (number_text Keys.processors a) (i ∙ ap (number_text Keys.rounds b) (j ∙ ap (number_text Keys.graphs n) k.0))) k.1))))
  where
    end : (a b n : ℕ) (Gs : List Graph) (u : Place) (rest : List ℕ)
        → p.bytes ≡ number_text Keys.processors a (number_text Keys.rounds b (number_text Keys.graphs n (graphs_text Gs rest)))
        → length Gs ≡ n
        → Holds (λ T q. written_of T ≡ p.bytes) (ended (record { processors = a; rounds = b; graphs = Gs }) u rest)
    end a b n Gs u [] e f =
        sym (e ∙ ap (λ (k : ℕ). number_text Keys.processors a (number_text Keys.rounds b (number_text Keys.graphs k (graphs_text Gs [])))) (sym f))
    end a b n Gs u (c ∷ rest) e f = tt

pub read_written : (s : List ℕ) (U : Table) (p : Place) → read_of s ≡ done U p → written_of U ≡ s
unfolding read_of
read_written s U p e =
    by_test (leb (length s) (Limits.table_bytes).to)
    (λ f. told (λ W q. written_of W ≡ s) (rw f at e) (table_written (record { line = 1; bytes = s })))
    (λ f. absurd (let g = rw f at e in let z : ◌≡◌ {A = ℕ} 0 1 = cc in omega arith))
