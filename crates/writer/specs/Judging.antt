-- A table in memory, judged in the order of the lines it would stand on (R-4): refusals 3 and 4, with the line, and column 0; and what the
-- writer answers.
use Rattle.std.specs.Prelude.{Bool, cond, List, [], ◌∷◌, ℕ, zero, suc, ◌+◌, ◌-◌, leb, length}
use Rattle.schedule.specs.Limits as Limits
use Rattle.schedule.specs.Table.{Node, Graph, Table}
use Rattle.schedule.specs.WellFormed.{within, orderly, all_followed}
use Rattle.format.specs.declared.Refusal.{Refusal}
use Rattle.format.specs.declared.Refusal.TheVariants.{OutsideLimits, AgainstPredecessorRules}
use Rattle.format.specs.Keys as Keys
use Rattle.format.specs.Keys.{key_at}
use Rattle.rules.specs.Answers.{Reply, says, refuses}
use Rattle.writer.specs.Writing.{written_of}

-- a value passes, and the number of the next line; or it is refused
pub data Judgement : Type 0 where
  passes : ℕ → Judgement
  fails : Refusal → Judgement

infixl 20 ◌then◌
abbrev pub ◌then◌ : Judgement → (ℕ → Judgement) → Judgement
(passes l) then f = f l
(fails r) then f = fails r

-- the writer has no bytes to point at
abbrev pub no_column : ℕ
no_column = 0

-- the number v of key k, on line l
unfoldable pub number_at : ℕ → ℕ → ℕ → Judgement
number_at k v l = cond (within (key_at k).range v) (passes (suc l)) (fails (OutsideLimits l no_column))

-- the predecessors of node number own, on line l
unfoldable pub after_at : ℕ → List ℕ → ℕ → Judgement
after_at own vs l = cond (orderly own vs) (passes (suc l)) (fails (AgainstPredecessorRules l no_column))

-- from line l on
unfoldable pub node_at : ℕ → Node → ℕ → Judgement
node_at own x l =
    number_at Keys.budget x.budget l then λ l.
    number_at Keys.level x.level l then λ l.
    after_at own x.after l

unfoldable pub nodes_at : ℕ → List Node → ℕ → Judgement
nodes_at own [] l = passes l
nodes_at own (x ∷ xs) l = node_at own x l then λ l. nodes_at (suc own) xs l

-- the missing successor is judged after the graph's last line passes, which is the line before e, and is charged to it
unfoldable pub successors_at : List Node → ℕ → Judgement
successors_at xs e = cond (all_followed xs) (passes e) (fails (AgainstPredecessorRules (e - 1) no_column))

-- a graph's nodes from line m on, where `nodes` stands on line l and the graphs before it have `total` nodes
unfoldable pub graph_nodes_at : ℕ → List Node → ℕ → ℕ → Judgement
graph_nodes_at total xs l m =
    let rest : Judgement = nodes_at 1 xs m then λ e. successors_at xs e in
    cond (leb (total + length xs) (Limits.all_nodes).to) rest (fails (OutsideLimits l no_column))

unfoldable pub graph_at : ℕ → Graph → ℕ → Judgement
graph_at total G l =
    number_at Keys.period G.period l then λ l.
    number_at Keys.offset G.offset l then λ l.
    number_at Keys.nodes (length G.nodes) l then λ m.
    graph_nodes_at total G.nodes l m

unfoldable pub graphs_at : ℕ → List Graph → ℕ → Judgement
graphs_at total [] l = passes l
graphs_at total (G ∷ Gs) l = graph_at total G l then λ l. graphs_at (total + length G.nodes) Gs l

unfoldable pub table_at : Table → ℕ → Judgement
table_at T l =
    number_at Keys.processors T.processors l then λ l.
    number_at Keys.rounds T.rounds l then λ l.
    number_at Keys.graphs (length T.graphs) l then λ l.
    graphs_at 0 T.graphs l

-- what the writer answers, before the buffer is looked at
abbrev pub written : List ℕ → Judgement → Reply
written s (passes l) = says s
written s (fails r) = refuses r

unfoldable pub write_of : Table → Reply
write_of T = written (written_of T) (table_at T 1)
