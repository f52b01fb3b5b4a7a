-- What a walk needs of a table is what the rules say of it. For every well-formed table: the plan fits its box (`plan_fits`), the offsets are
-- those of its servers (`offsets_fit`, `offsets_sized`), and the largest is its largest offset (`largest_fits`).
use mathlib.Core.Path.{◌≡◌, refl, sym, ap, ◌∙◌}
use mathlib.Core.List.{List, [], ◌∷◌, ◌++◌}
use Prim.Native.Nat.{ℕ, zero, suc, ◌≤◌, ◌<◌, max}
use native.Mathlib.Omega.{arith}
use lib.Dec.{T, ltb}
use lib.ListN.{length, get_or, take}
use lib.Seq.{take-suc, take-length}
use Rattle.schedule.specs.Limits as Limits
use Rattle.schedule.specs.Lists.{all?, largest}
use Rattle.schedule.specs.Table as Rules
use Rattle.schedule.specs.Table.{largest_offset}
use Rattle.schedule.specs.Servers.{Server, box_of, srv}
use Rattle.schedule.specs.WellFormed.{well_formed}
use Rattle.theorems.proofs.Formed.{within_limits, table_formed}
use Rattle.schedule.proofs.Tests.{T_true, true_T}
use Rattle.table.specs.Fresh as Fresh
use Rattle.window.specs.Entries.{places}
use Rattle.window.proofs.Relation.{Fits}
use Rattle.reading.specs.Memory.{memory_of}
use Rattle.rules.proofs.ReadWellFormed.{nodes_in}
use Rattle.planning.specs.Plans.{plan_to, plan_of}
use Rattle.planning.specs.Offsets.{offsets_of, largest_to, largest_offset_of}
use Rattle.planning.proofs.Located.{no_graph, graph_at, located}
use Rattle.planning.proofs.Servers.{sinks_below}
use Rattle.reading.proofs.MemoryLaws.{processors_stay}
use Rattle.planning.proofs.Entries.{all_graphs, offset_entry, offsets_length}
use Rattle.planning.proofs.NodeFits.{few, room, laid, some, servers, server, node_planned}

-- the largest of a list, entry after entry
largest_last : {A : Type 0} (f : A → ℕ) (l : List A) (a : A) → largest f (l ++ (a ∷ [])) ≡ max (largest f l) (f a)
largest_last f [] a = omega arith
largest_last f (x ∷ xs) a = omega (arith, largest_last f xs a)

module _ (X : Rules.Table) (ok : T (well_formed X)) where
  abbrev Gs : List Rules.Graph
  Gs = X.graphs

  abbrev S : List Server
  S = (box_of X).servers

  processors : (plan_of (memory_of X)).processors ≡ X.processors
  unfolding plan_to
  processors = processors_stay Gs (Fresh.empty_table X.processors X.rounds)

  nodes : (plan_of (memory_of X)).nodes ≡ nodes_in Gs
  unfolding plan_to
  nodes = (laid X ok).nodes

  pub plan_fits : Fits (box_of X) (plan_of (memory_of X))
  plan_fits =
      let limits = within_limits Limits.processors X.processors (table_formed X (T_true ok)).processors in
      record {
        nodes = nodes ∙ sym (servers X ok);
        small = omega (arith, servers X ok, room X ok);
        cap = λ t. sym processors;
        processors_most = omega (arith, processors, limits.1);
        sinks_in = true_T (all? (λ (i : ℕ). ltb i (length S)) (box_of X).sinks) (sinks_below Gs 0 (length S) (some X ok) (omega (arith, servers X ok)));
        at = λ i h.
            let at = located Gs i (omega (arith, servers X ok)) in rw at.place (node_planned X ok at.g at.q at.graph_in_lem at.node_in);
      }

  pub offsets_sized : length (offsets_of (memory_of X)) ≡ places
  offsets_sized = offsets_length (memory_of X) Gs (laid X ok) (few X ok) (room X ok) (some X ok)

  pub offsets_fit : (i : ℕ) → i < length S → get_or (offsets_of (memory_of X)) i 0 ≡ (srv S i).offset
  offsets_fit i h =
      let at = located Gs i (omega (arith, servers X ok)) in
      rw at.place
      (offset_entry (memory_of X) Gs (laid X ok) (few X ok) (room X ok) (some X ok) at.g at.q at.graph_in_lem at.node_in
      ∙ sym (ap (λ (s : Server). s.offset) (server X ok at.g at.q at.graph_in_lem at.node_in)))

  largest_to_lem : (n : ℕ) → n ≤ length Gs → largest_to (memory_of X) n ≡ largest (λ (G : Rules.Graph). G.offset) (take n Gs)
  unfolding largest_to
  largest_to_lem zero h = refl
  largest_to_lem (suc n) h =
      rw (largest_to_lem n (omega arith), (laid X ok).graph n h, take-suc Gs n no_graph h)
      (sym (largest_last (λ (G : Rules.Graph). G.offset) (take n Gs) (graph_at Gs n)))

  pub largest_fits : largest_offset_of (memory_of X) ≡ largest_offset X
  unfolding largest_offset
  largest_fits =
      ap (largest_to (memory_of X)) (all_graphs (memory_of X) Gs (laid X ok) (few X ok) (room X ok) (some X ok))
      ∙ largest_to_lem (length Gs) (omega arith)
      ∙ ap (largest (λ (G : Rules.Graph). G.offset)) (take-length Gs)
