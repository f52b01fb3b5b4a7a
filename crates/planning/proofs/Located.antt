-- The nodes of graphs by place: node q of graph g, both from 0, stands behind all nodes of the graphs before g; and each place is that of one
-- node. What a well-formed table says of graph g and of its node q.
use mathlib.Core.Path.{◌≡◌}
use mathlib.Core.Bool.{Bool, true, false≢true}
use mathlib.Core.List.{List, [], ◌∷◌}
use Prim.Native.Nat.{ℕ, zero, suc, ◌+◌, ◌-◌, ◌≤◌, ◌<◌}
use native.Mathlib.Nat.{not-suc-le-zero}
use native.Mathlib.Omega.{arith}
use lib.ListN.{length, get_or}
use Rattle.schedule.specs.Limits as Limits
use Rattle.schedule.specs.Lists.{any?, all?, numbers}
use Rattle.schedule.specs.Table.{Node, Graph}
use Rattle.schedule.specs.WellFormed.{within, orderly, nodes_formed}
use Rattle.theorems.proofs.Formed.{first_of_lem, second_of, node_formed}
use Rattle.schedule.proofs.Tests.{by_lt}
use Rattle.numbers.proofs.Cases.{by_test}
use Rattle.rules.proofs.ReadWellFormed.{nodes_in}

-- what stands outside of the lists
abbrev pub no_node : Node
no_node = record { budget = 0; level = 0; after = [] }

abbrev pub no_graph : Graph
no_graph = record { period = 0; offset = 0; nodes = [] }

abbrev pub graph_at : List Graph → ℕ → Graph
graph_at Gs g = get_or Gs g no_graph

abbrev pub node_at : Graph → ℕ → Node
node_at G q = get_or G.nodes q no_node

-- how many nodes graphs have, and those before graph g
unfoldable pub first_of : List Graph → ℕ → ℕ
first_of Gs zero = 0
first_of [] (suc g) = 0
first_of (G ∷ Gs) (suc g) = length G.nodes + first_of Gs g

pub record Located (Gs : List Graph) (i : ℕ) : Type 0 where
  pub g : ℕ
  pub q : ℕ
  pub graph_in_lem : g < length Gs
  pub node_in : q < length (graph_at Gs g).nodes
  pub place : i ≡ first_of Gs g + q

pub located : (Gs : List Graph) (i : ℕ) → i < nodes_in Gs → Located Gs i
unfolding first_of
located [] i h = absurd (not-suc-le-zero h)
located (G ∷ Gs) i h =
    by_lt i (length G.nodes) (λ l. record { g = 0; q = i; graph_in_lem = omega arith; node_in = l; place = omega arith })
    (λ l. later l (located Gs (i - length G.nodes) (omega arith)))
  where
    later : length G.nodes ≤ i → Located Gs (i - length G.nodes) → Located (G ∷ Gs) i
    later l at =
        record {
          g = suc at.g;
          q = at.q;
          graph_in_lem = omega (arith, at.graph_in_lem);
          node_in = at.node_in;
          place = omega (arith, at.place);
        }

-- a graph's nodes end where those of the next one begin
pub first_next : (Gs : List Graph) (g : ℕ) → g < length Gs → first_of Gs (suc g) ≡ first_of Gs g + length (graph_at Gs g).nodes
unfolding first_of
first_next [] g h = absurd (not-suc-le-zero h)
first_next (G ∷ Gs) zero h = omega arith
first_next (G ∷ Gs) (suc g) h = omega (arith, first_next Gs g (omega arith))

pub first_within : (Gs : List Graph) (g : ℕ) → g < length Gs → first_of Gs g + length (graph_at Gs g).nodes ≤ nodes_in Gs
unfolding first_of
first_within [] g h = absurd (not-suc-le-zero h)
first_within (G ∷ Gs) zero h = omega arith
first_within (G ∷ Gs) (suc g) h = omega (arith, first_within Gs g (omega arith))

-- graph g before graph n ends where n begins or earlier
pub first_rises : (Gs : List Graph) (g n : ℕ) → g < n → n ≤ length Gs → first_of Gs g + length (graph_at Gs g).nodes ≤ first_of Gs n
first_rises Gs g zero h l = absurd (not-suc-le-zero h)
first_rises Gs g (suc n) h l =
    by_lt g n (λ k. omega (arith, first_rises Gs g n k (omega arith), first_next Gs n (omega arith)))
    (λ k. let e : g ≡ n = omega arith in rw e (omega (arith, first_next Gs n (omega arith))))

-- what a test on each entry says of entry i
pub all_at : {A : Type 0} (p : A → Bool) (l : List A) (i : ℕ) (d : A) → i < length l → all? p l ≡ true → p (get_or l i d) ≡ true
all_at p [] i d h e = absurd (not-suc-le-zero h)
all_at p (x ∷ xs) zero d h e = first_of_lem (p x) (all? p xs) e
all_at p (x ∷ xs) (suc i) d h e = all_at p xs i d (omega arith) (second_of (p x) (all? p xs) e)

pub all_numbers : (p : ℕ → Bool) (a n j : ℕ) → a ≤ j → j < a + n → all? p (numbers a n) ≡ true → p j ≡ true
all_numbers p a zero j h l e = absurd (omega arith)
all_numbers p a (suc n) j h l e =
    by_lt a j (λ k. all_numbers p (suc a) n j (omega arith) (omega arith) (second_of (p a) (all? p (numbers (suc a) n)) e))
    (λ k. let f : j ≡ a = omega arith in rw f (first_of_lem (p a) (all? p (numbers (suc a) n)) e))

-- some entry that passes
pub some_at : {A : Type 0} (p : A → Bool) (l : List A) (d : A) → any? p l ≡ true → (i : ℕ) × (i < length l) × (p (get_or l i d) ≡ true)
some_at p [] d e = absurd (false≢true e)
some_at p (x ∷ xs) d e =
    by_test (p x) (λ t. (0, omega arith, t))
    (λ t. let (i, l, f) = some_at p xs d (rw t at e) in (suc i, omega arith, f))

-- node q of the nodes from number v on
pub record NodeFormed (own : ℕ) (x : Node) : Type 0 where
  pub budget : within Limits.budget x.budget ≡ true
  pub level : within Limits.level x.level ≡ true
  pub order : orderly own x.after ≡ true

pub node_at_lem : (v : ℕ) (xs : List Node) (q : ℕ) → q < length xs → nodes_formed v xs ≡ true → NodeFormed (v + q) (get_or xs q no_node)
node_at_lem v [] q h e = absurd (not-suc-le-zero h)
node_at_lem v (x ∷ xs) zero h e =
    let f = node_formed v x xs e in
    let z : v + 0 ≡ v = omega arith in
    rw z (record { budget = f.budget; level = f.level; order = f.order })
node_at_lem v (x ∷ xs) (suc q) h e =
    let z : v + suc q ≡ suc v + q = omega arith in rw z (node_at_lem (suc v) xs q (omega arith) (node_formed v x xs e).others)
