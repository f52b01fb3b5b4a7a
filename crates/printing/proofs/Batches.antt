-- The text for several tables: for each its line, then its answer, where the one before it ended.
use mathlib.Core.Path.{◌≡◌, refl, ap, ◌∙◌}
use mathlib.Core.Bool.{true}
use mathlib.Core.List.{List, [], ◌∷◌, ◌++◌}
use Prim.Native.Nat.{ℕ, zero, suc, ◌+◌, ◌-◌, ◌*◌, ◌≤◌, ◌<◌, min}
use native.Mathlib.Omega.{arith}
use lib.ListN.{length, take, drop, get_or, length-append, length-drop}
use lib.Seq.{take_all}
use Rattle.format.specs.Bytes.{bytes, equals, line_feed, decimal}
use Rattle.schedule.specs.Limits as Limits
use Rattle.rules.specs.Answers.{answer_line, printed, report_of}
use Rattle.rules.specs.Batch.{add_up, printed_of, table_at, batch_printed_by, batch_printed}
use Rattle.rules.proofs.CutTables.{report_of_cut}
use Rattle.writing.specs.Line.{line}
use Rattle.writing.specs.Lengths.{longest_line, longest_report, longest_row}
use Rattle.writing.specs.Written.{Written}
use Rattle.writing.proofs.AnswerLine.{line_is}
use Rattle.writing.proofs.Counting.{digits_most}
use Rattle.writing.proofs.Writing.{nothing, named, kept, both}
use Rattle.printing.specs.Batches.{slot_bytes, in_slot, HoldTables, longest_numbered, longest_batch}

pub line_short : (name : List ℕ) (v : ℕ) → v < 4294967296 → length (line name v) ≤ longest_line name
line_short name v h =
    let d : length (decimal v) ≤ 10 = digits_most 9 v (omega arith) in
    rw (length-append name (equals ∷ decimal v ++ (line_feed ∷ [])), length-append (decimal v) (line_feed ∷ [])) (omega arith)

-- the line of number v is written into s, where there is room for a row behind it
module _ (v : ℕ) (h : v < 4294967296) {s t : List ℕ} {n : ℕ} (fit : longest_line (bytes "table") + longest_row ≤ length s) (w : Written (line (bytes "table") v) s t n) where
  size : n ≤ longest_line (bytes "table")
  size = omega (arith, w.size, line_short (bytes "table") v h)

  same : length t ≡ length s
  same = kept w (omega (arith, line_short (bytes "table") v h))

  pub starts : n ≤ length t
  starts = omega (arith, size, same)

  pub rest_room : longest_row ≤ length (take (length t - n) (drop n t))
  rest_room = rw (take_all (length t - n) (drop n t) (omega (arith, length-drop n t))) (omega (arith, length-drop n t, size, same))

  pub whole : {b u : List ℕ} {m : ℕ} → Written b (take (length t - n) (drop n t)) u m → m ≤ longest_report
      → Written (answer_line "table" v ++ b) s (take n t ++ (u ++ drop (length t - n) (drop n t))) (n + m) × (n + m ≤ longest_numbered)
  whole {b} x l = (
    both b (named (line_is "table" v) w) (omega (arith, w.size, x.size, size, ap length (line_is "table" v))) x,
    omega (arith, size),
  )

-- the texts of the first i tables stand in the buffer
module _ (lengths room : List ℕ) where
  abbrev texts : ℕ → List ℕ
  texts = printed_of report_of (in_slot lengths room)

  pub record Put (before after : List ℕ) (at i : ℕ) : Type 0 where
    pub written : Written (texts i) before after at
    pub short : at ≤ i * longest_numbered
    pub space : longest_batch ≤ length before
    pub few : i ≤ (Limits.tables).to

  pub begun : (before : List ℕ) → longest_batch ≤ length before → Put before before 0 0
  begun before h = record { written = nothing before; short = omega arith; space = h; few = omega arith }

  module _ {before after : List ℕ} {at i : ℕ} (p : Put before after at i) where
    pub put_length : length after ≡ length before
    put_length = kept p.written (omega (arith, p.written.size, p.short, p.space, p.few))

    pub put_within : at ≤ length after
    put_within = omega (arith, put_length, p.short, p.space, p.few)

    module _ (h : i < (Limits.tables).to) where
      pub next_room : longest_line (bytes "table") + longest_row ≤ length (take (length after - at) (drop at after))
      next_room =
          rw (take_all (length after - at) (drop at after) (omega (arith, length-drop at after)))
          (omega (arith, length-drop at after, put_length, p.short, p.space))

      -- as the code has it: the slot from its start to its end
      pub put_next : (k : ℕ) → k ≡ min (get_or lengths i 0) slot_bytes → {u : List ℕ} {m : ℕ}
          → Written (answer_line "table" (i + 1) ++ printed (report_of (take k (drop (i * slot_bytes) room)))) (take (length after - at) (drop at after)) u m
          → m ≤ longest_numbered → Put before (take at after ++ (u ++ drop (length after - at) (drop at after))) (at + m) (i + 1)
      put_next k e {u} {m} w short =
          let s : i + 1 ≡ suc i = omega arith in
          let t = in_slot lengths room i in
          let v : Written (answer_line "table" (suc i) ++ printed (report_of t)) (take (length after - at) (drop at after)) u m = rw (e, s) at w in
          record {
            written = rw s (both (answer_line "table" (suc i) ++ printed (report_of t)) p.written (omega (arith, p.written.size, v.size, p.short, p.space, short)) v);
            short = omega (arith, p.short, short);
            space = p.space;
            few = omega arith;
          }

  -- an input whose tables stand in the slots is answered as they are
  module _ (input : List ℕ) (holds : HoldTables input lengths room) where
    same_reply : (i : ℕ) → i < length lengths → report_of (in_slot lengths room i) ≡ report_of (table_at input lengths i)
    same_reply i h = ap report_of (holds i h) ∙ report_of_cut slot_bytes (omega arith) (table_at input lengths i)

    same_texts : (n : ℕ) → n ≤ length lengths → texts n ≡ printed_of report_of (table_at input lengths) n
    same_texts zero h = refl
    same_texts (suc n) h = rw (same_texts n (omega arith), same_reply n (omega arith))

    pub held_tables : {before after : List ℕ} {n : ℕ} → add_up input lengths ≡ true → Written (texts (length lengths)) before after n
        → Written (batch_printed input lengths) before after n
    unfolding batch_printed batch_printed_by
    held_tables e w = rw e (named (same_texts (length lengths) (omega arith)) w)
