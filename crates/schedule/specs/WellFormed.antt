-- What document 01 asks of a table: its limits, and the predecessor rules.
use Rattle.std.specs.Prelude.{Bool, true, ◌&&◌, List, [], ◌∷◌, ℕ, suc, ◌-◌, leb, ltb, eqb, length}
use Rattle.schedule.specs.Limits as Limits
use Rattle.schedule.specs.Limits.{Range}
use Rattle.schedule.specs.Lists.{any?, all?, sum, up_to}
use Rattle.schedule.specs.Table.{Node, Graph, Table}

abbrev pub within : Range → ℕ → Bool
within r v = leb r.from v && leb v r.to

-- each number is above the one before it (`last`, 0 at first) and below the node's own
unfoldable pub rising : ℕ → ℕ → List ℕ → Bool
rising own last [] = true
rising own last (x ∷ xs) = (ltb last x && ltb x own) && rising own x xs

-- node 1 has `none`, and no other node has; the list rises strictly, each number at least 1 and below the node's own
unfoldable pub orderly : ℕ → List ℕ → Bool
orderly own [] = eqb own 1
orderly own (x ∷ xs) = rising own 0 (x ∷ xs)

-- j stands in the list of some node
unfoldable pub followed : List Node → ℕ → Bool
followed xs j = any? (λ (x : Node). any? (eqb j) x.after) xs

-- every node but the last stands in some node's list
unfoldable pub all_followed : List Node → Bool
all_followed xs = all? (followed xs) (up_to (length xs - 1))

-- the nodes from number v on
unfoldable pub nodes_formed : ℕ → List Node → Bool
nodes_formed v [] = true
nodes_formed v (x ∷ xs) = (within Limits.budget x.budget && (within Limits.level x.level && orderly v x.after)) && nodes_formed (suc v) xs

unfoldable pub graph_formed : Graph → Bool
graph_formed G =
    within Limits.period G.period
    && (within Limits.offset G.offset && (within Limits.nodes (length G.nodes) && (nodes_formed 1 G.nodes && all_followed G.nodes)))

unfoldable pub well_formed : Table → Bool
well_formed T =
    within Limits.processors T.processors
    && (within Limits.rounds T.rounds
    && (within Limits.graphs (length T.graphs)
    && (all? graph_formed T.graphs && within Limits.all_nodes (sum (λ (G : Graph). length G.nodes) T.graphs))))
