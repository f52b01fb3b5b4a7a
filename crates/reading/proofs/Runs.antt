-- Lines one after another: a node, and the nodes of a graph.
use mathlib.Core.Path.{◌≡◌, refl, ◌∙◌}
use mathlib.Core.List.{List, ◌∷◌}
use Prim.Native.Nat.{ℕ, suc, ◌+◌, ◌-◌, ◌<◌, ◌≤◌}
use native.Mathlib.Numerals.{add-one}
use native.Mathlib.Omega.{arith}
use lib.Bits.{bit_or}
use lib.ListN.{set}
use Rattle.format.specs.declared.Refusal.{Refusal}
use Rattle.format.specs.Keys as Keys
use Rattle.schedule.specs.Table.{Node}
use Rattle.format.specs.Reading.{Place, Outcome, refused, done, ◌and_then◌, number_line, after_line, node, nodes_from}
use Rattle.table.specs.declared.Node.{Node as Row}
use Rattle.scanning.specs.Masks.{mask_of}
use Rattle.lines.specs.declared.numbering.Three.{Three}
use Rattle.lines.specs.Numbered.{map_outcome, three_lines}
use Rattle.reading.specs.Memory.{coded_node}
use Rattle.reading.specs.Outcomes.{named_from, taken}

module _ {A B C Z : Type 0} where
  -- two ways to go on from one outcome
  on_same : (f : A → C) (g : B → C) (x : Outcome Z) (F : Z → Place → Outcome A) (G : Z → Place → Outcome B)
      → ((z : Z) (p : Place) → map_outcome f (F z p) ≡ map_outcome g (G z p)) → map_outcome f (x and_then F) ≡ map_outcome g (x and_then G)
  on_same f g (done z p) F G h = h z p
  on_same f g (refused r) F G h = refl

-- a node is its three lines
abbrev pub row_of : Three → Row
row_of t = record { budget = t.first; level = t.second; after = t.third }

pub node_three : (own : ℕ) (p : Place) → map_outcome coded_node (node own p) ≡ map_outcome row_of (three_lines Keys.budget Keys.level Keys.after own p)
unfolding node three_lines
node_three own p =
    on_same coded_node row_of (number_line Keys.budget p) _ _ (λ b q.
    on_same coded_node row_of (number_line Keys.level q) _ _ (λ v r. last b v (after_line own r)))
  where
    last : (b v : ℕ) (y : Outcome (List ℕ))
        → map_outcome coded_node (y and_then (λ m t. done (record { budget = b; level = v; after = m }) t))
        ≡ map_outcome row_of (map_outcome mask_of y and_then (λ m t. done (record { first = b; second = v; third = m }) t))
    last b v (done m t) = refl
    last b v (refused r) = refl

-- the nodes behind the first i, of n, into the entries from first + i on
module _ (rows : List Row) (first named n i : ℕ) (p : Place) where
  nodes_on : (left : ℕ) (x : Outcome Node)
      → map_outcome (taken rows (first + i) named) (x and_then λ x q. nodes_from (suc (i + 1)) left q and_then λ xs r. done (x ∷ xs) r)
      ≡ x and_then (λ x q. map_outcome (taken (set rows (first + i) (coded_node x)) (suc (first + i)) (bit_or named (mask_of x.after))) (nodes_from (suc (i + 1)) left q))
  unfolding named_from
  nodes_on left (refused r) = refl
  nodes_on left (done x q) = more (nodes_from (suc (i + 1)) left q)
    where
      more : (y : Outcome (List Node))
          → map_outcome (taken rows (first + i) named) (y and_then λ xs r. done (x ∷ xs) r)
          ≡ map_outcome (taken (set rows (first + i) (coded_node x)) (suc (first + i)) (bit_or named (mask_of x.after))) y
      more (refused r) = refl
      more (done xs r) = refl

  nodes_step : i < n → map_outcome (taken rows (first + i) named) (nodes_from (i + 1) (n - i) p)
      ≡ node (i + 1) p and_then (λ x q. map_outcome (taken (set rows (first + i) (coded_node x)) (first + (i + 1)) (bit_or named (mask_of x.after))) (nodes_from (i + 1 + 1) (n - (i + 1)) q))
  unfolding nodes_from
  nodes_step h =
      let e : n - i ≡ suc (n - (i + 1)) = omega arith in
      let f : first + (i + 1) ≡ suc (first + i) = omega arith in
      rw (e, f, add-one (i + 1)) (nodes_on (n - (i + 1)) (node (i + 1) p))

  pub nodes_one : i < n → (w : Node) (q : Place) → node (i + 1) p ≡ done w q
      → map_outcome (taken rows (first + i) named) (nodes_from (i + 1) (n - i) p)
      ≡ map_outcome (taken (set rows (first + i) (coded_node w)) (first + (i + 1)) (bit_or named (mask_of w.after))) (nodes_from (i + 1 + 1) (n - (i + 1)) q)
  nodes_one h w q e = nodes_step h ∙ rw e

  pub nodes_stop : i < n → (r : Refusal) → node (i + 1) p ≡ refused r → map_outcome (taken rows (first + i) named) (nodes_from (i + 1) (n - i) p) ≡ refused r
  nodes_stop h r e = nodes_step h ∙ rw e

  pub nodes_none : n ≤ i → map_outcome (taken rows (first + i) named) (nodes_from (i + 1) (n - i) p) ≡ done (record { nodes = rows; named = named }) p
  unfolding nodes_from named_from
  nodes_none h = let e : n - i ≡ 0 = omega arith in rw e
