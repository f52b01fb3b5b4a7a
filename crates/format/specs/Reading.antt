-- Reading a table: the lines one after another, each judged first for its spelling (2), then for its limits (3) or the predecessor rules
-- (4). A refusal of these three tells the line, and the column of the byte at fault.
use Rattle.std.specs.Prelude.{Bool, ◌&&◌, cond, ℕ, zero, suc, ◌+◌, ◌-◌, leb, ltb, length, drop}
use mathlib.Core.List.{List, [], ◌∷◌, tail}
use Rattle.format.specs.declared.Refusal.{Refusal}
use Rattle.format.specs.declared.Refusal.TheVariants.{TooLong, Misspelled, OutsideLimits, AgainstPredecessorRules}
use Rattle.schedule.specs.Limits as Limits
use Rattle.format.specs.Bytes.{comma}
use Rattle.format.specs.Keys as Keys
use Rattle.format.specs.Keys.{key_at}
use Rattle.format.specs.Spelling.{Scan, read, wrong, number, next?, list, line}
use Rattle.schedule.specs.Table.{Node, Graph, Table}
use Rattle.schedule.specs.WellFormed.{within, orderly, all_followed}

-- where reading stands: the number of the next line, and the bytes from there on
pub record Place : Type 0 where
  pub line : ℕ
  pub bytes : List ℕ

-- the column at which `rest` begins, in a line that begins with the bytes s
abbrev pub column_at : List ℕ → List ℕ → ℕ
column_at s rest = suc (length s - length rest)

-- the column of what has no byte at fault: a missing successor, a line that is absent, bytes after the last line
abbrev pub first_column : ℕ
first_column = 1

-- what reading comes to: a refusal; or a value, and the place after it
pub data Outcome (A : Type 0) : Type 0 where
  refused : Refusal → Outcome A
  done : A → Place → Outcome A

module _ {A B : Type 0} where
  infixl 20 ◌and_then◌
  abbrev pub ◌and_then◌ : Outcome A → (A → Place → Outcome B) → Outcome B
  (refused r) and_then f = refused r
  (done a p) and_then f = f a p

module _ {A : Type 0} where
  -- the line at place p, scanned: refused as 2 where it is spelled wrong, with the column where the spelling goes wrong; with `unfair` and the
  -- column `fault` where its value is not fair; else its value
  abbrev pub judged : (ℕ → ℕ → Refusal) → ℕ → (A → Bool) → Place → Scan A → Outcome A
  judged unfair fault fair p (wrong rest) = refused (Misspelled p.line (column_at p.bytes rest))
  judged unfair fault fair p (read v rest) =
      cond (fair v) (done v (record { line = suc p.line; bytes = rest })) (refused (unfair p.line fault))

-- the column of a value's first byte: behind the key's name and `=`
abbrev pub value_column : ℕ → ℕ
value_column k = suc (suc (length (key_at k).name))

-- and the bytes from there on, in a line that begins with the bytes s
abbrev pub value_in : ℕ → List ℕ → List ℕ
value_in k s = drop (suc (length (key_at k).name)) s

-- the line of key k, whose value is a number within the key's limits; at fault is the number's first digit
unfoldable pub number_line : ℕ → Place → Outcome ℕ
number_line k p =
    judged OutsideLimits (value_column k) (within (key_at k).range) p (line (key_at k).name number p.bytes)

-- a number v of node own's list, at the bytes s, that keeps the rules (it is above the one before it, `last`, and below the node's own) and has
-- another behind it: then what is at fault is one of the `others`; else it is this. What is no number is at fault itself
abbrev pub offending_from : (ℕ → List ℕ → List ℕ) → ℕ → ℕ → List ℕ → Scan ℕ → List ℕ
offending_from others own last s (wrong rest) = s
offending_from others own last s (read v rest) = let o : List ℕ = others v (tail rest) in cond ((ltb last v && ltb v own) && next? comma rest) o s

-- one number after the other; `most` bounds how many
unfoldable pub offending_by : ℕ → ℕ → ℕ → List ℕ → List ℕ
offending_by zero own last s = s
offending_by (suc most) own last s = offending_from (λ v rest. offending_by most own v rest) own last s (number s)

-- the bytes from the first number on that breaks the rules, in a list that does not keep them; of a `none` out of place all, from its `n` on
unfoldable pub offending : ℕ → List ℕ → List ℕ
offending own s = offending_by (suc (length s)) own 0 s

-- the `after` line of node number own
unfoldable pub after_line : ℕ → Place → Outcome (List ℕ)
after_line own p =
    let fault : List ℕ = offending own (value_in Keys.after p.bytes) in
    judged AgainstPredecessorRules (column_at p.bytes fault) (orderly own) p (line (key_at Keys.after).name list p.bytes)

-- node number own of its graph
unfoldable pub node : ℕ → Place → Outcome Node
node own p =
    number_line Keys.budget p and_then λ budget p.
    number_line Keys.level p and_then λ level p.
    after_line own p and_then λ after p.
    done (record { budget = budget; level = level; after = after }) p

-- the nodes from number own on, as many as are left
unfoldable pub nodes_from : ℕ → ℕ → Place → Outcome (List Node)
nodes_from own zero p = done [] p
nodes_from own (suc left) p =
    node own p and_then λ x p.
    nodes_from (suc own) left p and_then λ xs p.
    done (x ∷ xs) p

-- a graph's n nodes, once its three numbers are read, the last of them on line l; the graphs before it have `total` nodes. The missing
-- successor is judged after the graph's last line passes, and is charged to that line
unfoldable pub graph_nodes : ℕ → ℕ → ℕ → ℕ → ℕ → Place → Outcome Graph
graph_nodes total period offset n l p =
    let rest : Outcome Graph =
    nodes_from 1 n p and_then λ xs q.
    cond (all_followed xs)
    (done (record { period = period; offset = offset; nodes = xs }) q)
    (refused (AgainstPredecessorRules (q.line - 1) first_column)) in
    cond (leb (total + n) (Limits.all_nodes).to) rest (refused (OutsideLimits l (value_column Keys.nodes)))

unfoldable pub graph : ℕ → Place → Outcome Graph
graph total p =
    number_line Keys.period p and_then λ period p.
    number_line Keys.offset p and_then λ offset p.
    number_line Keys.nodes p and_then λ n q.
    graph_nodes total period offset n p.line q

unfoldable pub graphs_from : ℕ → ℕ → Place → Outcome (List Graph)
graphs_from total zero p = done [] p
graphs_from total (suc left) p =
    graph total p and_then λ G p.
    graphs_from (total + length G.nodes) left p and_then λ Gs p.
    done (G ∷ Gs) p

-- no bytes follow the last line
module _ {A : Type 0} where
  abbrev pub ended : A → Place → List ℕ → Outcome A
  ended a p [] = done a p
  ended a p (c ∷ rest) = refused (Misspelled p.line first_column)

unfoldable pub table : Place → Outcome Table
table p =
    number_line Keys.processors p and_then λ processors p.
    number_line Keys.rounds p and_then λ rounds p.
    number_line Keys.graphs p and_then λ n p.
    graphs_from 0 n p and_then λ Gs p.
    ended (record { processors = processors; rounds = rounds; graphs = Gs }) p p.bytes

-- refusals 1 to 4
unfoldable pub read_of : List ℕ → Outcome Table
read_of s =
    let t : Outcome Table = table (record { line = 1; bytes = s }) in
    cond (leb (length s) (Limits.table_bytes).to) t (refused TooLong)
