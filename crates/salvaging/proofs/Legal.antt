-- A legal table passes through salvage unchanged, with an empty list; and a second pass changes nothing. Shown at the end:
-- `legal_unchanged` and `second_pass`.
use mathlib.Core.Path.{◌≡◌, refl, sym, ap, subst, ◌∙◌}
use mathlib.Core.Bool.{Bool, true}
use mathlib.Core.List.{List, [], ◌∷◌, ◌++◌, append_assoc}
use Prim.Native.Nat.{ℕ, zero, suc, ◌+◌}
use native.Mathlib.Omega.{arith}
use lib.Dec.{leb}
use lib.ListN.{length}
use Rattle.schedule.specs.Limits as Limits
use Rattle.schedule.specs.Lists.{all?}
use Rattle.schedule.specs.Table.{Table, Graph}
use Rattle.schedule.specs.WellFormed.{within, orderly, all_followed}
use Rattle.schedule.proofs.Tests.{by_test}
use Rattle.format.specs.declared.Refusal.{Refusal}
use Rattle.format.specs.declared.Refusal.TheVariants.{OutsideLimits, AgainstPredecessorRules}
use Rattle.format.specs.Bytes.{line_feed}
use Rattle.format.specs.Keys as Keys
use Rattle.format.specs.Keys.{keys, key_at}
use Rattle.format.specs.Spelling.{Scan, read, wrong, number, list, line}
use Rattle.format.specs.Reading.{Place, Outcome, refused, done, column_at, judged, value_column, value_in, number_line, offending, after_line, node, nodes_from, graph_nodes, graph, graphs_from, ended, table, read_of}
use Rattle.rules.proofs.Outcomes.{Holds, told, then_holds}
use Rattle.salvaging.specs.Steps.{salvaged}
use Rattle.salvaging.specs.Fixes.{fixes_of}
use Rattle.salvaging.specs.Salvage.{left, salvage_of}
use Rattle.salvaging.proofs.Again.{Tidy, nothing, tidy_left, tidy_no_fixes, salvaged_tidy}
use Rattle.salvaging.proofs.Again as Again
use Rattle.salvaging.proofs.Spelled.{Taken, Takes, Lined, named?, number_line_clean, list_line_clean}

-- reading went from p to q: where salvage leaves the bytes from q on alone, it leaves those from p on alone
abbrev Passed : Place → Place → Type 0
Passed p q = Tidy q.bytes → Tidy p.bytes

lined_tidy : (s rest : List ℕ) → Taken Lined s rest → Tidy rest → Tidy s
lined_tidy s rest h t =
    let b : List ℕ = h.holds.body in
    subst Tidy (sym (append_assoc b (line_feed ∷ []) rest) ∙ ap (λ (l : List ℕ). l ++ rest) (sym h.holds.is) ∙ h.is) (Again.line b rest h.holds.clean t)

module _ {A : Type 0} where
  judged_passes : (unfair : ℕ → ℕ → Refusal) (fault : ℕ) (fair : A → Bool) (p : Place) (x : Scan A) → Takes Lined p.bytes x
      → Holds (λ v q. Passed p q) (judged unfair fault fair p x)
  judged_passes unfair fault fair p (wrong rest) h = tt
  judged_passes unfair fault fair p (read v rest) h = by_test (fair v) (λ e. rw e (lined_tidy p.bytes rest h)) (λ e. rw e tt)

number_passes : (k : ℕ) → all? named? (key_at k).name ≡ true → (p : Place) → Holds (λ v q. Passed p q) (number_line k p)
unfolding number_line
number_passes k n p =
    judged_passes OutsideLimits (value_column k) (within (key_at k).range) p (line (key_at k).name number p.bytes) (number_line_clean (key_at k).name n p.bytes)

after_passes : (own : ℕ) (p : Place) → all? named? (key_at Keys.after).name ≡ true → Holds (λ v q. Passed p q) (after_line own p)
unfolding after_line
after_passes own p n =
    judged_passes AgainstPredecessorRules (column_at p.bytes (offending own (value_in Keys.after p.bytes))) (orderly own) p
    (line (key_at Keys.after).name list p.bytes) (list_line_clean (key_at Keys.after).name n p.bytes)

node_passes : (own : ℕ) (p : Place) → Holds (λ x q. Passed p q) (node own p)
unfolding node keys
node_passes own p =
    then_holds _ _ (number_line Keys.budget p) _ (number_passes Keys.budget refl p) (λ b q h.
    then_holds _ _ (number_line Keys.level q) _ (number_passes Keys.level refl q) (λ v r i.
    then_holds _ _ (after_line own r) _ (after_passes own r refl) (λ m t j.
    λ z. h (i (j z)))))

nodes_passes : (own n : ℕ) (p : Place) → Holds (λ xs q. Passed p q) (nodes_from own n p)
unfolding nodes_from
nodes_passes own zero p = λ z. z
nodes_passes own (suc n) p =
    then_holds _ _ (node own p) _ (node_passes own p) (λ x q h.
    then_holds _ _ (nodes_from (suc own) n q) _ (nodes_passes (suc own) n q) (λ xs r i.
    λ z. h (i z)))

graph_nodes_passes : (total period offset n l : ℕ) (p : Place) → Holds (λ G q. Passed p q) (graph_nodes total period offset n l p)
unfolding graph_nodes
graph_nodes_passes total period offset n l p =
    by_test (leb (total + n) (Limits.all_nodes).to)
    (λ f. rw f (then_holds _ _ (nodes_from 1 n p) _ (nodes_passes 1 n p) (λ xs q h. by_test (all_followed xs) (λ g. rw g h) (λ g. rw g tt))))
    (λ f. rw f tt)

graph_passes : (total : ℕ) (p : Place) → Holds (λ G q. Passed p q) (graph total p)
unfolding graph keys
graph_passes total p =
    then_holds _ _ (number_line Keys.period p) _ (number_passes Keys.period refl p) (λ a q h.
    then_holds _ _ (number_line Keys.offset q) _ (number_passes Keys.offset refl q) (λ b r i.
    then_holds _ _ (number_line Keys.nodes r) _ (number_passes Keys.nodes refl r) (λ n t j.
    later t (graph_nodes total a b n r.line t) (λ z. h (i (j z))) (graph_nodes_passes total a b n r.line t))))
  where
    later : (t : Place) (x : Outcome Graph) → Passed p t → Holds (λ G q. Passed t q) x → Holds (λ G q. Passed p q) x
    later t (refused r) f h = tt
    later t (done G q) f h = λ z. f (h z)

graphs_passes : (total n : ℕ) (p : Place) → Holds (λ Gs q. Passed p q) (graphs_from total n p)
unfolding graphs_from
graphs_passes total zero p = λ z. z
graphs_passes total (suc n) p =
    then_holds _ _ (graph total p) _ (graph_passes total p) (λ G q h.
    then_holds _ _ (graphs_from (total + length G.nodes) n q) _ (graphs_passes (total + length G.nodes) n q) (λ Gs r i.
    λ z. h (i z)))

table_tidy : (p : Place) → Holds (λ U q. Tidy p.bytes) (table p)
unfolding table keys
table_tidy p =
    then_holds _ _ (number_line Keys.processors p) _ (number_passes Keys.processors refl p) (λ a q h.
    then_holds _ _ (number_line Keys.rounds q) _ (number_passes Keys.rounds refl q) (λ b r i.
    then_holds _ _ (number_line Keys.graphs r) _ (number_passes Keys.graphs refl r) (λ n t j.
    then_holds _ _ (graphs_from 0 n t) _ (graphs_passes 0 n t) (λ Gs u k.
    end (record { processors = a; rounds = b; graphs = Gs }) u u.bytes refl (λ z. h (i (j (k z))))))))
  where
    end : (U : Table) (u : Place) (rest : List ℕ) → u.bytes ≡ rest → Passed p u → Holds (λ U q. Tidy p.bytes) (ended U u rest)
    end U u [] e f = f (subst Tidy (sym e) nothing)
    end U u (c ∷ rest) e f = tt

tidy_salvage : (s : List ℕ) → Tidy s → leb (length s) (Limits.table_bytes).to ≡ true → salvage_of s ≡ left s []
unfolding salvage_of
tidy_salvage s t f = rw (tidy_left s t, f, tidy_no_fixes s t) refl

-- a table that passes refusals 1 to 4
pub legal_unchanged : (s : List ℕ) (U : Table) (p : Place) → read_of s ≡ done U p → salvage_of s ≡ left s []
unfolding read_of
legal_unchanged s U p e =
    by_test (leb (length s) (Limits.table_bytes).to)
    (λ f. tidy_salvage s (told (λ W q. Tidy s) (rw f at e) (table_tidy (record { line = 1; bytes = s }))) f)
    (λ f. absurd (let g = rw f at e in let z : ◌≡◌ {A = ℕ} 0 1 = cc in omega arith))

-- over what the first left
pub second_pass : (s t f : List ℕ) → salvage_of s ≡ left t f → salvage_of t ≡ left t []
unfolding salvage_of
second_pass s t f e =
    by_test (leb (length s) (Limits.table_bytes).to)
    (λ g. by_test (leb (length (salvaged s)) (Limits.table_bytes).to)
    (λ h. let same : salvaged s ≡ t = inner (rw (g, h) at e) in
    tidy_salvage t (subst Tidy same (salvaged_tidy s)) (subst (λ (u : List ℕ). leb (length u) (Limits.table_bytes).to ≡ true) same h))
    (λ h. absurd (let k = rw (g, h) at e in let z : ◌≡◌ {A = ℕ} 0 1 = cc in omega arith)))
    (λ g. absurd (let k = rw g at e in let z : ◌≡◌ {A = ℕ} 0 1 = cc in omega arith))
  where
    inner : left (salvaged s) (fixes_of s) ≡ left t f → salvaged s ≡ t
    inner k = cc
