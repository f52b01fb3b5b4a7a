-- From what a judgement and a read came to, to what a call answers.
use mathlib.Core.Path.{◌≡◌, refl, sym, ap, ◌∙◌}
use Rattle.std.proofs.Common.{Ok, Err}
use mathlib.Core.Bool.{true}
use mathlib.Core.List.{List}
use Prim.Native.Nat.{ℕ, ◌≤◌}
use native.Mathlib.Omega.{arith}
use lib.ListN.{length, take, drop}
use lib.Seq.{take_at}
use Rattle.schedule.specs.Limits as Limits
use Rattle.schedule.specs.Table as Rules
use Rattle.schedule.specs.WellFormed.{well_formed}
use Rattle.theorems.proofs.Formed.{within_limits, table_formed}
use Rattle.format.specs.declared.Refusal.{Refusal}
use Rattle.format.specs.Reading.{Place, Outcome, refused, done, read_of}
use Rattle.rules.specs.Answers.{says, refuses}
use Rattle.rules.proofs.ReadWellFormed.{nodes_in, read_formed}
use Rattle.writer.specs.Writing.{written_of}
use Rattle.writer.specs.Judging.{Judgement, passes, fails, table_at, written, write_of}
use Rattle.writer.proofs.WrittenLength.{written_within, longest_is}
use Rattle.writer.proofs.ReadWritten.{read_written}
use Rattle.writer.proofs.WriterAnswers.{formed_written, write_formed}
use Rattle.memory.specs.declared.plain.PhalandrixTable.{PhalandrixTable}
use Rattle.memory.specs.Plain.{graphs_in, table_in}
use Rattle.memory.specs.Judged.{judged_of}
use Rattle.memory.proofs.GraphCounts.{graphs_counted}
use Rattle.writing.specs.Written.{Written}
use Rattle.reading.specs.Memory.{memory_of}
use Rattle.editing.specs.Plains.{plain_of}
use Rattle.editing.specs.Editing.{read_table, rewritten, rewrite_of}
use Rattle.editing.proofs.PlainLaws.{table_of_plain}

-- by what the judgement says
refused_by : (s : List ℕ) (j : Judgement) (f : Refusal) → Err f ≡ judged_of j → refuses f ≡ written s j
refused_by s (passes l) f e = cc
refused_by s (fails r) f e = let same : f ≡ r = cc in ap refuses same

passed_by_lem : (s : List ℕ) (j : Judgement) → Ok tt ≡ judged_of j → says s ≡ written s j
passed_by_lem s (passes l) e = refl
passed_by_lem s (fails r) e = cc

module _ (U : Rules.Table) where
  pub judged_refused : (f : Refusal) → Err f ≡ judged_of (table_at U 1) → refuses f ≡ write_of U
  unfolding write_of
  judged_refused f e = refused_by (written_of U) (table_at U 1) f e

  pub judged_written : Ok tt ≡ judged_of (table_at U 1) → says (written_of U) ≡ write_of U
  unfolding write_of
  judged_written e = passed_by_lem (written_of U) (table_at U 1) e

  pub judged_formed : Ok tt ≡ judged_of (table_at U 1) → well_formed U ≡ true
  judged_formed e = (write_formed U (written_of U) (sym (judged_written e))).0

-- what the writer needs of a well-formed table in memory
module _ (t : PhalandrixTable) (e : well_formed (table_in t) ≡ true) where
  pub few_graphs : t.graphs ≤ (Limits.graphs).to
  few_graphs =
      omega (
        arith,
        (within_limits Limits.graphs (length (table_in t).graphs) (table_formed (table_in t) e).few).1,
        graphs_counted t.graph t.node 0 0 t.graphs,
      )

  pub few_nodes : nodes_in (graphs_in t.graph t.node 0 0 t.graphs) ≤ (Limits.all_nodes).to
  few_nodes = (within_limits Limits.all_nodes (nodes_in (table_in t).graphs) (table_formed (table_in t) e).nodes).1

  pub text_within : length (written_of (table_in t)) ≤ 2616
  text_within = omega (arith, written_within (table_in t) e, longest_is)

-- a legal table, read and written again, is its own bytes
pub rewrite_same : (s : List ℕ) (T : Rules.Table) (p : Place) → read_of s ≡ done T p → rewrite_of s ≡ says s
unfolding rewrite_of
rewrite_same s T p e = rw e (formed_written T (read_formed s T p e) ∙ ap says (read_written s T p e))

pub rewrite_refused : (s : List ℕ) (r : Refusal) → read_of s ≡ refused r → rewrite_of s ≡ refuses r
unfolding rewrite_of
rewrite_refused s r e = rw e refl

-- what is read into memory is written as the table that was read
pub rewrite_written : (s : List ℕ) (x : Outcome Rules.Table) (t : PhalandrixTable) → read_of s ≡ x → Ok t ≡ read_table x → write_of (table_in t) ≡ rewritten x
rewrite_written s (refused r) t e h = cc
rewrite_written s (done T p) t e h =
    let same : t ≡ plain_of (memory_of T) = cc in
    ap (λ (u : PhalandrixTable). write_of (table_in u)) same ∙ ap write_of (table_of_plain T (read_formed s T p e))

pub rewrite_refuses : (x : Outcome Rules.Table) (f : Refusal) → Err f ≡ read_table x → refuses f ≡ rewritten x
rewrite_refuses (refused r) f h = let same : f ≡ r = cc in ap refuses same
rewrite_refuses (done T p) f h = cc

-- the text in its room: its first n bytes
pub in_room : (W before after : List ℕ) (n : ℕ) → Written W before after n → take n after ≡ W
in_room W before after n w = ap (take n) w.bytes ∙ take_at W (drop (length W) before) n (sym w.size)
