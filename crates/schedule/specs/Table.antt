-- A table as a reader sees it, its hyperperiod, its load, and whether each node keeps up.
use Rattle.std.specs.Prelude.{Bool, List, [], ◌∷◌, ℕ, zero, suc, ◌*◌, ◌/◌, ◌%◌, leb}
use Rattle.schedule.specs.Lists.{all?, sum, largest}

-- a node: `after` are the numbers of its predecessors in its graph, rising
pub record Node : Type 0 where
  pub budget : ℕ
  pub level : ℕ
  pub after : List ℕ

pub record Graph : Type 0 where
  pub period : ℕ
  pub offset : ℕ
  pub nodes : List Node

-- graphs and nodes are numbered from 1, in the order of their lists
pub record Table : Type 0 where
  pub processors : ℕ
  pub rounds : ℕ
  pub graphs : List Graph

-- the greatest common divisor by Euclid's rule. The second number falls with each step, so there are at most as many steps as it says
unfoldable pub euclid : ℕ → ℕ → ℕ → ℕ
euclid zero a b = a
euclid (suc steps) a zero = a
euclid (suc steps) a (suc b) = euclid steps (suc b) (a % suc b)

unfoldable pub gcd : ℕ → ℕ → ℕ
gcd a b = euclid b a b

-- the least common multiple of two numbers, and of a number and the periods, one step a graph
unfoldable pub lcm : ℕ → ℕ → ℕ
lcm a b = a / gcd a b * b

unfoldable pub lcm_from : ℕ → List Graph → ℕ
lcm_from h [] = h
lcm_from h (G ∷ Gs) = lcm_from (lcm h G.period) Gs

-- a node of a graph with that period keeps up where its budget is at most its level times the period: it can be given no more ticks than that
abbrev pub node_keeps_up : ℕ → Node → Bool
node_keeps_up period x = leb x.budget (x.level * period)

module _ (T : Table) where
  -- the hyperperiod: the least common multiple of the periods
  unfoldable pub hyperperiod : ℕ
  hyperperiod = lcm_from 1 T.graphs

  unfoldable pub largest_offset : ℕ
  largest_offset = largest (λ (G : Graph). G.offset) T.graphs

  -- the ticks that all servers together need in a hyperperiod: of each node budget × H/period
  unfoldable pub load : ℕ
  load = sum (λ (G : Graph). sum (λ (x : Node). x.budget * (hyperperiod / G.period)) G.nodes) T.graphs

  unfoldable pub loadable : Bool
  loadable = leb load (T.processors * hyperperiod)

  -- every node does
  unfoldable pub keeps_up : Bool
  keeps_up = all? (λ (G : Graph). all? (node_keeps_up G.period) G.nodes) T.graphs
