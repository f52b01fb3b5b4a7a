-- What a call left in its buffer is what the program prints: the text as it stands there, or the refusal written in its place. No text is longer
-- than the room for it.
use mathlib.Core.Path.{◌≡◌, refl, sym, ap, subst, ◌∙◌}
use mathlib.Core.Bool.{Bool, true, false}
use mathlib.Core.List.{List}
use Prim.Native.Nat.{ℕ, ◌≤◌, ◌<◌}
use native.Mathlib.Omega.{arith}
use lib.ListN.{length, take, drop, length-append}
use lib.Dec.{T}
use Rattle.std.specs.Prelude.{Ok, Err}
use Rattle.format.specs.declared.Refusal.{Refusal}
use Rattle.format.specs.declared.Refusal.TheVariants.{TooLong}
use Rattle.schedule.specs.Limits.{table_bytes}
use Rattle.rules.proofs.CutTables.{report_of_cut, row_of_cut}
use Rattle.rules.specs.Answers.{Answer, Reply, says, refuses, printed, report_of, row_of, fitted, Call, left, call_of}
use Rattle.writing.specs.Written.{Written}
use Rattle.writing.specs.Lengths.{longest_report, longest_row, longest_refusal}
use Rattle.writer.specs.Lengths.{longest_written}
use Rattle.writer.proofs.WrittenLength.{longest_is}
use Rattle.editing.specs.Editing.{rewrite_of}
use Rattle.editing.proofs.Rewritten.{every_rewrite_fits, rewrite_of_cut}
use Rattle.sheet.proofs.Room.{every_report_fits}
use Rattle.sheet.proofs.RowRoom.{every_row_fits}
use Rattle.asking.specs.declared.questions.Question.{Question}
use Rattle.asking.specs.declared.questions.Question.TheVariants.{Report, Row, Rewrite, PlainReport, PlainRow}
use Rattle.printing.specs.Rooms.{Holds}
use Rattle.printing.specs.Questions.{reply_of, longest_answer}
use borrow.Author.Tests.{le-leb}
use Rattle.sheet.specs.Calls.{called}

abbrev told_in : Answer → ℕ
told_in (Ok n) = n
told_in (Err r) = 0

abbrev refusal_in : Answer → Refusal
refusal_in (Ok n) = TooLong
refusal_in (Err r) = r

abbrev is_text : Answer → Bool
is_text (Ok n) = true
is_text (Err r) = false

module _ (before after : List ℕ) where
  pub text_left_lem : (n : ℕ) (r : Reply) → called (Ok n) after ≡ left before r → Written (printed r) before after n
  unfolding left printed
  text_left_lem n (says s) e = record { size = ap (λ (c : Call). told_in c.answer) e; bytes = ap (λ (c : Call). c.buffer) e }
  text_left_lem n (refuses r) e = absurd (subst T (ap (λ (c : Call). is_text c.answer) e) tt)

  text_bounded : (n m : ℕ) (r : Reply) → ((s : List ℕ) → r ≡ says s → length s ≤ m) → called (Ok n) after ≡ left before r → n ≤ m
  unfolding left
  text_bounded n m (says s) h e = let size : n ≡ length s = ap (λ (c : Call). told_in c.answer) e in omega (arith, h s refl)
  text_bounded n m (refuses r) h e = absurd (subst T (ap (λ (c : Call). is_text c.answer) e) tt)

  -- a refused call leaves the buffer as it was
  pub refusal_left : (f : Refusal) (r : Reply) → called (Err f) after ≡ left before r → (r ≡ refuses f) × (after ≡ before)
  unfolding left
  refusal_left f (says s) e = absurd (subst T (ap (λ (c : Call). is_text c.answer) (sym e)) tt)
  refusal_left f (refuses g) e = (ap (λ (c : Call). refuses (refusal_in c.answer)) (sym e), ap (λ (c : Call). c.buffer) e)

-- a text that fits is not refused as 10
pub fits : (r : Reply) (n m : ℕ) → ((s : List ℕ) → r ≡ says s → length s ≤ m) → m ≤ n → fitted n r ≡ r
unfolding fitted
fits (says s) n m h l = rw (le-leb (length s) n (omega (arith, h s refl)))
fits (refuses r) n m h l = refl

reply_fits : (q : Question) (table : List ℕ) (n : ℕ) → longest_answer q ≤ n → fitted n (reply_of q table) ≡ reply_of q table
reply_fits Report table n l = fits (report_of table) n longest_report (every_report_fits table) l
reply_fits (Row t) table n l = fits (row_of table t) n longest_row (every_row_fits table t) l
reply_fits Rewrite table n l = fits (rewrite_of table) n longest_written (every_rewrite_fits table) l
reply_fits PlainReport table n l = fits (report_of table) n longest_report (every_report_fits table) l
reply_fits (PlainRow t) table n l = fits (row_of table t) n longest_row (every_row_fits table t) l

answer_short : (q : Question) (table s : List ℕ) → reply_of q table ≡ says s → length s ≤ longest_answer q
answer_short Report table s e = every_report_fits table s e
answer_short (Row t) table s e = every_row_fits table t s e
answer_short Rewrite table s e = every_rewrite_fits table s e
answer_short PlainReport table s e = every_report_fits table s e
answer_short (PlainRow t) table s e = every_row_fits table t s e

pub refusal_short : (q : Question) (n : ℕ) → n ≤ longest_refusal → n ≤ longest_answer q
refusal_short Report n h = omega arith
refusal_short (Row t) n h = omega arith
refusal_short Rewrite n h = omega (arith, h, longest_is)
refusal_short PlainReport n h = omega arith
refusal_short (PlainRow t) n h = omega arith

-- room for the longest table is room for every answer
pub answers_fit : (q : Question) (n : ℕ) → longest_written ≤ n → longest_answer q ≤ n
answers_fit Report n l = omega (arith, l, longest_is)
answers_fit (Row t) n l = omega (arith, l, longest_is)
answers_fit Rewrite n l = l
answers_fit PlainReport n l = omega (arith, l, longest_is)
answers_fit (PlainRow t) n l = omega (arith, l, longest_is)

module _ (q : Question) (table before after : List ℕ) (room : longest_answer q ≤ length before) where
  answered : (x : Answer) → called x after ≡ call_of before (reply_of q table) → called x after ≡ left before (reply_of q table)
  unfolding call_of
  answered x e = rw (reply_fits q table (length before) room) at e

  pub text_printed : (n : ℕ) → called (Ok n) after ≡ call_of before (reply_of q table) → Written (printed (reply_of q table)) before after n
  text_printed n e = text_left_lem before after n (reply_of q table) (answered (Ok n) e)

  pub text_short : (n : ℕ) → called (Ok n) after ≡ call_of before (reply_of q table) → n ≤ longest_answer q
  text_short n e = text_bounded before after n (longest_answer q) (reply_of q table) (answer_short q table) (answered (Ok n) e)

  pub refusal_printed : (f : Refusal) (over : List ℕ) (n m : ℕ) → called (Err f) after ≡ call_of before (reply_of q table)
      → n ≡ length (printed (refuses f)) → Written (printed (refuses f)) after over m → Written (printed (reply_of q table)) before over n
  refusal_printed f over n m e size w =
      let (is, same) = refusal_left before after f (reply_of q table) (answered (Err f) e) in
      rw is (record { size = size; bytes = rw same at w.bytes })

-- what was written stands within the buffer
pub written_within : (s before after : List ℕ) (n : ℕ) → Written s before after n → n ≤ length after
written_within s before after n w = omega (arith, w.size, ap length w.bytes, length-append s (drop (length s) before))

-- an input that was read into a room past the limit is answered as the whole one
reply_of_cut : (q : Question) (room : ℕ) → table_bytes.to < room → (s : List ℕ) → reply_of q (take room s) ≡ reply_of q s
reply_of_cut Report room h s = report_of_cut room h s
reply_of_cut (Row t) room h s = row_of_cut room h s t
reply_of_cut Rewrite room h s = rewrite_of_cut room h s
reply_of_cut PlainReport room h s = report_of_cut room h s
reply_of_cut (PlainRow t) room h s = row_of_cut room h s t

-- what is printed for the bytes in a room past the limit is what is printed for the input that it holds
pub held_printed : (q : Question) (room before after : List ℕ) (n m : ℕ) → table_bytes.to < length room
    → Written (printed (reply_of q (take n room))) before after m → (input : List ℕ) → Holds input room n → Written (printed (reply_of q input)) before after m
held_printed q room before after n m h w input holds =
    subst (λ (r : Reply). Written (printed r) before after m) (ap (reply_of q) holds ∙ reply_of_cut q (length room) h input) w
