-- The masks of a graph's nodes together have a one at each number that stands in a list. So what they leave over is 0 exactly where every node
-- but the last stands in one: `all_named`.
use mathlib.Core.Path.{◌≡◌, refl, sym, ap, ◌∙◌}
use mathlib.Core.Bool.{Bool, ◌||◌, or-false, or_assoc}
use mathlib.Core.List.{List, [], ◌∷◌}
use Prim.Native.Nat.{ℕ, zero, suc, ◌+◌, ◌-◌, ◌<◌, ◌≤◌}
use native.Mathlib.Omega.{arith}
use lib.Bits.{bit_or}
use lib.Dec.{eqb}
use Rattle.std.proofs.Common.{length, get_or, take, drop, map, fold, slice_range}
use Rattle.std.proofs.lemmas.List.{length-map}
use Rattle.std.proofs.Math.Seq.{drop-cons}
use Rattle.schedule.specs.Limits as Limits
use Rattle.schedule.specs.Lists.{any?}
use Rattle.schedule.specs.Table.{Node}
use Rattle.schedule.specs.WellFormed.{followed, all_followed}
use Rattle.numbers.specs.Masks.{width, bit, unset_below}
use Rattle.numbers.proofs.MaskLaws.{no_bit, bit_or_lem}
use Rattle.reading.proofs.Successors.{unset_all}
use Rattle.memory.specs.declared.plain.PhalandrixNode.{PhalandrixNode}
use Rattle.memory.specs.Plain.{no_node, numbers_in, node_in, nodes_in}
use Rattle.memory.specs.Judged.{with_after}
use Rattle.memory.proofs.MaskNumbers.{in_mask}

pub nodes_counted : (nodes : List PhalandrixNode) (first n : ℕ) → length (nodes_in nodes first n) ≡ n
nodes_counted nodes first zero = refl
nodes_counted nodes first (suc n) = ap suc (nodes_counted nodes (suc first) n)

-- n nodes from one on are a part of all
pub nodes_taken : (nodes : List PhalandrixNode) (first n : ℕ) → first + n ≤ length nodes → nodes_in nodes first n ≡ map node_in (slice_range nodes first (first + n))
nodes_taken nodes first n h =
    let e : first + n - first ≡ n = omega arith in
    rw e (taken n first h)
  where
    taken : (n first : ℕ) → first + n ≤ length nodes → nodes_in nodes first n ≡ map node_in (take n (drop first nodes))
    taken zero first h = refl
    taken (suc n) first h =
        let l : first < length nodes = omega arith in
        rw (drop-cons nodes first no_node l) (ap (λ (xs : List Node). node_in (get_or nodes first no_node) ∷ xs) (taken n (suc first) (omega arith)))

named_bit : (nodes : List PhalandrixNode) (m j : ℕ) → j < width → bit (fold with_after m nodes) j ≡ bit m j || followed (map node_in nodes) (suc j)
unfolding followed
named_bit [] m j h = sym (or-false (bit m j))
named_bit (x ∷ nodes) m j h =
    let rest = any? (λ (y : Node). any? (eqb (suc j)) y.after) (map node_in nodes) in
    named_bit nodes (bit_or m x.after) j h
    ∙ ap (λ (b : Bool). b || rest) (bit_or_lem m x.after j ∙ ap (λ (b : Bool). bit m j || b) (sym (in_mask x.after j h)))
    ∙ or_assoc (bit m j) (any? (eqb (suc j)) (numbers_in x.after)) rest

-- what the masks together leave over
pub all_named : (nodes : List PhalandrixNode) → length nodes ≤ (Limits.nodes).to
    → eqb (unset_below (length nodes - 1) (fold with_after 0 nodes)) 0 ≡ all_followed (map node_in nodes)
unfolding all_followed
all_named nodes few =
    let xs = map node_in nodes in
    let e : length xs ≡ length nodes = length-map nodes node_in in
    let named = fold with_after 0 nodes in
    ap (λ (k : ℕ). eqb (unset_below (k - 1) named) 0) (sym e)
    ∙ unset_all (followed xs) (length xs - 1) named (λ j l. named_bit nodes 0 j (omega arith) ∙ ap (λ (b : Bool). b || followed xs (suc j)) (no_bit j))
