-- Tests taken apart: what those of well-formedness say, fact by fact.
use mathlib.Core.Path.{◌≡◌, refl}
use mathlib.Core.Bool.{Bool, true, false, ◌&&◌}
use mathlib.Core.List.{List, ◌∷◌}
use Prim.Native.Nat.{ℕ, suc, ◌≤◌}
use native.Mathlib.Omega.{arith}
use lib.Dec.{leb}
use lib.ListN.{length}
use borrow.Author.Tests.{leb-true, le-leb}
use Rattle.schedule.specs.Limits as Limits
use Rattle.schedule.specs.Limits.{Range}
use Rattle.schedule.specs.Lists.{all?, sum}
use Rattle.schedule.specs.Table.{Node, Graph, Table}
use Rattle.schedule.specs.WellFormed.{within, orderly, all_followed, nodes_formed, graph_formed, well_formed}

-- a test is true or false
-- two tests that both pass
pub both : {a b : Bool} → a ≡ true → b ≡ true → a && b ≡ true
both {a} {b} e f = rw (e, f)

pub first_of_lem : (a b : Bool) → a && b ≡ true → a ≡ true
first_of_lem true b e = refl
first_of_lem false b e = e

pub second_of : (a b : Bool) → a && b ≡ true → b ≡ true
second_of true b e = e
second_of false b e = absurd (let z : ◌≡◌ {A = ℕ} 0 1 = cc in omega arith)

-- a number within its limits, and back
pub within_limits : (r : Range) (v : ℕ) → within r v ≡ true → (r.from ≤ v) × (v ≤ r.to)
within_limits r v e =
    (leb-true r.from v (first_of_lem (leb r.from v) (leb v r.to) e), leb-true v r.to (second_of (leb r.from v) (leb v r.to) e))

pub limits_within : (r : Range) (v : ℕ) → r.from ≤ v → v ≤ r.to → within r v ≡ true
limits_within r v h l = both (le-leb r.from v h) (le-leb v r.to l)

-- the first of some nodes, and the others
pub record NodeFormed (v : ℕ) (x : Node) (xs : List Node) : Type 0 where
  pub budget : within Limits.budget x.budget ≡ true
  pub level : within Limits.level x.level ≡ true
  pub order : orderly v x.after ≡ true
  pub others : nodes_formed (suc v) xs ≡ true

pub node_formed : (v : ℕ) (x : Node) (xs : List Node) → nodes_formed v (x ∷ xs) ≡ true → NodeFormed v x xs
unfolding nodes_formed
node_formed v x xs e =
    let b = within Limits.budget x.budget in
    let l = within Limits.level x.level in
    let o = orderly v x.after in
    let here = first_of_lem (b && (l && o)) (nodes_formed (suc v) xs) e in
    record {
      budget = first_of_lem b (l && o) here;
      level = first_of_lem l o (second_of b (l && o) here);
      order = second_of l o (second_of b (l && o) here);
      others = second_of (b && (l && o)) (nodes_formed (suc v) xs) e;
    }

pub record GraphFormed (G : Graph) : Type 0 where
  pub period : within Limits.period G.period ≡ true
  pub offset : within Limits.offset G.offset ≡ true
  pub few : within Limits.nodes (length G.nodes) ≡ true
  pub nodes : nodes_formed 1 G.nodes ≡ true
  pub followed : all_followed G.nodes ≡ true

pub graph_formed_lem : (G : Graph) → graph_formed G ≡ true → GraphFormed G
unfolding graph_formed
graph_formed_lem G e =
    let p = within Limits.period G.period in
    let o = within Limits.offset G.offset in
    let n = within Limits.nodes (length G.nodes) in
    let x = nodes_formed 1 G.nodes in
    let f = all_followed G.nodes in
    let i = second_of p (o && (n && (x && f))) e in
    let j = second_of o (n && (x && f)) i in
    let k = second_of n (x && f) j in
    record {
      period = first_of_lem p (o && (n && (x && f))) e;
      offset = first_of_lem o (n && (x && f)) i;
      few = first_of_lem n (x && f) j;
      nodes = first_of_lem x f k;
      followed = second_of x f k;
    }

pub record TableFormed (T : Table) : Type 0 where
  pub processors : within Limits.processors T.processors ≡ true
  pub rounds : within Limits.rounds T.rounds ≡ true
  pub few : within Limits.graphs (length T.graphs) ≡ true
  pub graphs : all? graph_formed T.graphs ≡ true
  pub nodes : within Limits.all_nodes (sum (λ (G : Graph). length G.nodes) T.graphs) ≡ true

pub table_formed : (T : Table) → well_formed T ≡ true → TableFormed T
unfolding well_formed
table_formed T e =
    let p = within Limits.processors T.processors in
    let r = within Limits.rounds T.rounds in
    let g = within Limits.graphs (length T.graphs) in
    let f = all? graph_formed T.graphs in
    let n = within Limits.all_nodes (sum (λ (G : Graph). length G.nodes) T.graphs) in
    let i = second_of p (r && (g && (f && n))) e in
    let j = second_of r (g && (f && n)) i in
    let k = second_of g (f && n) j in
    record {
      processors = first_of_lem p (r && (g && (f && n))) e;
      rounds = first_of_lem r (g && (f && n)) i;
      few = first_of_lem g (f && n) j;
      graphs = first_of_lem f n k;
      nodes = second_of f n k;
    }
