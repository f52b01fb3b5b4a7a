-- The writer refuses a table in memory exactly where the reader would refuse its text, with the same number and line; else the text is read as
-- that table. Shown at the end: `formed_written`, `write_read`, `write_refused`.
use mathlib.Core.Path.{◌≡◌, refl, sym, ap, subst, ◌∙◌}
use mathlib.Core.Bool.{true}
use mathlib.Core.List.{List, [], ◌∷◌, ◌++◌}
use Prim.Native.Nat.{ℕ, suc, ◌+◌, ◌-◌}
use native.Mathlib.Omega.{arith}
use lib.Dec.{leb}
use lib.ListN.{length}
use Rattle.schedule.specs.Limits as Limits
use Rattle.schedule.specs.Table.{Node, Graph, Table}
use Rattle.schedule.specs.WellFormed.{within, orderly, all_followed, well_formed}
use Rattle.schedule.proofs.Tests.{by_test}
use Rattle.format.specs.declared.Refusal.{Refusal}
use Rattle.format.specs.Bytes.{line_feed, decimal}
use Rattle.format.specs.Refusals.{number_of, line_of, column_of}
use Rattle.format.specs.Keys as Keys
use Rattle.format.specs.Keys.{key_at}
use Rattle.format.specs.Spelling.{number, list}
use Rattle.format.specs.Reading.{Place, Outcome, refused, done, ◌and_then◌, number_line, after_line, node, nodes_from, graph_nodes, graph, graphs_from, ended, table, read_of}
use Rattle.format.proofs.ReadBack.{number_read_back}
use Rattle.rules.specs.Answers.{Reply, says, refuses}
use Rattle.rules.proofs.Outcomes.{told}
use Rattle.rules.proofs.ReadWellFormed.{table_holds}
use Rattle.writer.specs.Writing.{list_text, heading_text, number_text, after_text, node_text, nodes_text, graph_head, graph_text, graphs_text, table_head, written_of}
use Rattle.writer.specs.Judging.{Judgement, passes, fails, ◌then◌, no_column, number_at, after_at, node_at, nodes_at, successors_at, graph_nodes_at, graph_at, graphs_at, table_at, written, write_of}
use Rattle.writer.proofs.LineText.{list_read, line_read}
use Rattle.writer.proofs.WrittenRead.{at, line_after, table_read, written_read}

-- the reader's refusal q and the writer's refusal r: the same number and line, and column 0
pub record SameLine (q r : Refusal) : Type 0 where
  pub number : number_of q ≡ number_of r
  pub line : line_of q ≡ line_of r
  pub column : column_of r ≡ no_column

module _ {A : Type 0} where
  -- what the reader comes to is what the judgement of the value a says; `rest` are the bytes behind it
  abbrev pub Comes : A → List ℕ → Outcome A → Judgement → Type 0
  Comes a rest x (passes l) = x ≡ done a (at l rest)
  Comes a rest (refused q) (fails r) = SameLine q r
  Comes a rest (done b p) (fails r) = ⊥

module _ {A B : Type 0} where
  then_comes : (a : A) (b : B) (s t : List ℕ) (x : Outcome A) (j : Judgement) (f : A → Place → Outcome B) (g : ℕ → Judgement)
      → Comes a s x j → ((l : ℕ) → Comes b t (f a (at l s)) (g l)) → Comes b t (x and_then f) (j then g)
  then_comes a b s t x (passes l) f g e h = rw e (h l)
  then_comes a b s t (refused q) (fails r) f g e h = e
  then_comes a b s t (done c p) (fails r) f g e h = absurd e

  -- a value made of the last one that is read
  made_comes : (a : A) (b : B) (s : List ℕ) (x : Outcome A) (j : Judgement) (f : A → Place → Outcome B)
      → Comes a s x j → ((l : ℕ) → f a (at l s) ≡ done b (at l s)) → Comes b s (x and_then f) j
  made_comes a b s x (passes l) f e h = rw e (h l)
  made_comes a b s (refused q) (fails r) f e h = e
  made_comes a b s (done c p) (fails r) f e h = absurd e

number_comes : (k v l : ℕ) (rest : List ℕ) → Comes v rest (number_line k (at l (number_text k v rest))) (number_at k v l)
unfolding number_line number_text heading_text number_at
number_comes k v l rest =
    rw (line_read (key_at k).name number v (decimal v ++ (line_feed ∷ rest)) rest (number_read_back v line_feed rest refl))
    (by_test (within (key_at k).range v) (λ e. rw e refl) (λ e. rw e (record { number = refl; line = refl; column = refl })))

after_comes : (own l : ℕ) (vs rest : List ℕ) → Comes vs rest (after_line own (at l (after_text vs rest))) (after_at own vs l)
unfolding after_line after_text heading_text after_at
after_comes own l vs rest =
    rw (line_read (key_at Keys.after).name list vs (list_text vs (line_feed ∷ rest)) rest (list_read vs rest))
    (by_test (orderly own vs) (λ e. rw e refl) (λ e. rw e (record { number = refl; line = refl; column = refl })))

node_comes : (own l : ℕ) (x : Node) (rest : List ℕ) → Comes x rest (node own (at l (node_text x rest))) (node_at own x l)
unfolding node node_text node_at
node_comes own l x rest =
    let y = after_text x.after rest in
    let z = number_text Keys.level x.level y in
    then_comes x.budget x z rest _ (number_at Keys.budget x.budget l) _ _ (number_comes Keys.budget x.budget l z) (λ l.
    then_comes x.level x y rest _ (number_at Keys.level x.level l) _ _ (number_comes Keys.level x.level l y) (λ l.
    made_comes x.after x rest _ (after_at own x.after l) _ (after_comes own l x.after rest) (λ l. refl)))

nodes_come : (own l : ℕ) (xs : List Node) (rest : List ℕ) → Comes xs rest (nodes_from own (length xs) (at l (nodes_text xs rest))) (nodes_at own xs l)
unfolding nodes_from nodes_text nodes_at
nodes_come own l [] rest = refl
nodes_come own l (x ∷ xs) rest =
    then_comes x (x ∷ xs) (nodes_text xs rest) rest _ (node_at own x l) _ _ (node_comes own l x (nodes_text xs rest)) (λ l.
    made_comes xs (x ∷ xs) rest _ (nodes_at (suc own) xs l) _ (nodes_come (suc own) l xs rest) (λ l. refl))

graph_nodes_come : (total l m : ℕ) (G : Graph) (rest : List ℕ)
    → Comes G rest (graph_nodes total G.period G.offset (length G.nodes) l (at m (nodes_text G.nodes rest))) (graph_nodes_at total G.nodes l m)
unfolding graph_nodes graph_nodes_at successors_at
graph_nodes_come total l m G rest =
    by_test (leb (total + length G.nodes) (Limits.all_nodes).to)
    (λ e. rw e (then_comes G.nodes G rest rest _ (nodes_at 1 G.nodes m) _ _ (nodes_come 1 m G.nodes rest) (λ q.
    by_test (all_followed G.nodes) (λ f. rw f refl) (λ f. rw f (record { number = refl; line = refl; column = refl })))))
    (λ e. rw e (record { number = refl; line = refl; column = refl }))

graph_comes : (total l : ℕ) (G : Graph) (rest : List ℕ) → Comes G rest (graph total (at l (graph_text G rest))) (graph_at total G l)
unfolding graph graph_text graph_head graph_at
graph_comes total l G rest =
    let x = nodes_text G.nodes rest in
    let y = number_text Keys.nodes (length G.nodes) x in
    let z = number_text Keys.offset G.offset y in
    then_comes G.period G z rest _ (number_at Keys.period G.period l) _ _ (number_comes Keys.period G.period l z) (λ l.
    then_comes G.offset G y rest _ (number_at Keys.offset G.offset l) _ _ (number_comes Keys.offset G.offset l y) (λ l.
    then_comes (length G.nodes) G x rest _ (number_at Keys.nodes (length G.nodes) l) _ _ (number_comes Keys.nodes (length G.nodes) l x) (λ m.
    graph_nodes_come total l m G rest)))

graphs_come : (total l : ℕ) (Gs : List Graph) (rest : List ℕ) → Comes Gs rest (graphs_from total (length Gs) (at l (graphs_text Gs rest))) (graphs_at total Gs l)
unfolding graphs_from graphs_text graphs_at
graphs_come total l [] rest = refl
graphs_come total l (G ∷ Gs) rest =
    then_comes G (G ∷ Gs) (graphs_text Gs rest) rest _ (graph_at total G l) _ _ (graph_comes total l G (graphs_text Gs rest)) (λ l.
    made_comes Gs (G ∷ Gs) rest _ (graphs_at (total + length G.nodes) Gs l) _ (graphs_come (total + length G.nodes) l Gs rest) (λ l. refl))

-- the reader comes to what the writer's judgement says, of any table in memory
pub table_comes : (U : Table) → Comes U [] (table (at 1 (written_of U))) (table_at U 1)
unfolding table written_of table_head table_at
table_comes U =
    let x = graphs_text U.graphs [] in
    let y = number_text Keys.graphs (length U.graphs) x in
    let z = number_text Keys.rounds U.rounds y in
    then_comes U.processors U z [] _ (number_at Keys.processors U.processors 1) _ _ (number_comes Keys.processors U.processors 1 z) (λ l.
    then_comes U.rounds U y [] _ (number_at Keys.rounds U.rounds l) _ _ (number_comes Keys.rounds U.rounds l y) (λ l.
    then_comes (length U.graphs) U x [] _ (number_at Keys.graphs (length U.graphs) l) _ _ (number_comes Keys.graphs (length U.graphs) l x) (λ l.
    made_comes U.graphs U [] _ (graphs_at 0 U.graphs l) _ (graphs_come 0 l U.graphs []) (λ l. refl))))

-- a well-formed table is written; no other is
judged_formed : (U : Table) (x : Outcome Table) (j : Judgement) (t : List ℕ) → table (at 1 (written_of U)) ≡ x → Comes U [] x j → written (written_of U) j ≡ says t
    → (well_formed U ≡ true) × (written_of U ≡ t)
judged_formed U x (passes l) t i e f = (told (λ W q. well_formed W ≡ true) (i ∙ e) (table_holds (at 1 (written_of U))), inner f)
  where
    inner : says (written_of U) ≡ says t → written_of U ≡ t
    inner g = cc
judged_formed U x (fails r) t i e f = absurd (let z : ◌≡◌ {A = ℕ} 0 1 = cc in omega arith)

formed_judged : (U : Table) (x : Outcome Table) (j : Judgement) → x ≡ done U (at (line_after U) []) → Comes U [] x j → written (written_of U) j ≡ says (written_of U)
formed_judged U x (passes l) i e = refl
formed_judged U (done W p) (fails r) i e = absurd e
formed_judged U (refused q) (fails r) i e = absurd (let z : ◌≡◌ {A = ℕ} 0 1 = cc in omega arith)

-- what the reader refuses
pub record Refuses (x : Outcome Table) (r : Refusal) : Type 0 where
  pub refusal : Refusal
  pub given : x ≡ refused refusal
  pub alike : SameLine refusal r

refused_judged : (U : Table) (x : Outcome Table) (j : Judgement) (r : Refusal) → Comes U [] x j → written (written_of U) j ≡ refuses r → Refuses x r
refused_judged U x (passes l) r e f = absurd (let z : ◌≡◌ {A = ℕ} 0 1 = cc in omega arith)
refused_judged U (done W p) (fails q) r e f = absurd e
refused_judged U (refused s) (fails q) r e f = record { refusal = s; given = refl; alike = subst (SameLine s) (inner f) e }
  where
    inner : refuses q ≡ refuses r → q ≡ r
    inner g = cc

pub formed_written : (U : Table) → well_formed U ≡ true → write_of U ≡ says (written_of U)
unfolding write_of
formed_written U f = formed_judged U (table (at 1 (written_of U))) (table_at U 1) (table_read U f) (table_comes U)

-- what is written is the text of a well-formed table, and is read as that table
pub write_formed : (U : Table) (t : List ℕ) → write_of U ≡ says t → (well_formed U ≡ true) × (written_of U ≡ t)
unfolding write_of
write_formed U t e = judged_formed U (table (at 1 (written_of U))) (table_at U 1) t refl (table_comes U) e

pub write_read : (U : Table) (t : List ℕ) → write_of U ≡ says t → read_of t ≡ done U (at (line_after U) [])
write_read U t e =
    let h = write_formed U t e in
    subst (λ (s : List ℕ). read_of s ≡ done U (at (line_after U) [])) h.1 (written_read U h.0)

-- what the writer refuses, the reader would refuse of the text so written, however long it is
pub write_refused : (U : Table) (r : Refusal) → write_of U ≡ refuses r → Refuses (table (at 1 (written_of U))) r
unfolding write_of
write_refused U r e = refused_judged U (table (at 1 (written_of U))) (table_at U 1) r (table_comes U) e
