-- What the call left in its buffer is what the program prints: the text as it stands there, or the refusal written in its place.
use mathlib.Core.Path.{◌≡◌, sym, ap, subst, ◌∙◌}
use mathlib.Core.Bool.{Bool}
use Rattle.margin.specs.Calls.{MarginAnswer, answer_in, in_limits, Answers}
use mathlib.Core.List.{List}
use Prim.Native.Nat.{ℕ, ◌≤◌, ◌<◌}
use lib.ListN.{length, take}
use Rattle.format.specs.declared.Refusal.{Refusal}
use Rattle.std.specs.Prelude.{Ok, Err}
use Rattle.rules.specs.Answers.{Answer, Reply, refuses, printed, left, call_of}
use Rattle.schedule.specs.Limits.{table_bytes, limit_bytes}
use Rattle.margins.specs.Margins.{Margin, margin_of}
use Rattle.margins.proofs.CutTexts.{margin_of_cut}
use Rattle.marginlines.specs.Lines.{longest_margins}
use Rattle.writing.specs.Written.{Written}
use Rattle.sheet.specs.Calls.{called}
use Rattle.printing.specs.Rooms.{Holds}
use Rattle.printing.proofs.Printed.{text_left_lem, refusal_left, fits}
use Rattle.margin.proofs.Room.{every_margin_fits}
use Rattle.marginprints.specs.declared.MarginPrinted.{MarginPrinted}
use Rattle.marginprints.specs.Printed.{PrintedAs}

module _ (table limits before after : List ℕ) (room : longest_margins ≤ length before) where
  abbrev reply : Reply
  reply = (margin_of table limits).reply

  answered : (x : Answer) → called x after ≡ call_of before reply → called x after ≡ left before reply
  unfolding call_of
  answered x e = rw (fits reply (length before) longest_margins (every_margin_fits table limits) room) at e

  pub text_printed : (n : ℕ) → called (Ok n) after ≡ call_of before reply → Written (printed reply) before after n
  text_printed n e = text_left_lem before after n reply (answered (Ok n) e)

  pub refusal_printed : (f : Refusal) (over : List ℕ) (n m : ℕ) → called (Err f) after ≡ call_of before reply
      → n ≡ length (printed (refuses f)) → Written (printed (refuses f)) after over m → Written (printed reply) before over n
  refusal_printed f over n m e size w =
      let (is, same) = refusal_left before after f reply (answered (Err f) e) in
      rw is (record { size = size; bytes = rw same at w.bytes })

  -- a refusal of either text
  pub refused_as : (a : MarginAnswer) (f : Refusal) (b : Bool) → answer_in a ≡ Err f → in_limits a ≡ b → Answers a before after (margin_of table limits)
      → (over : List ℕ) (n : ℕ) → Written (printed (refuses f)) after over n
      → PrintedAs (margin_of table limits) before over (record { length = n; in_limits = b })
  refused_as a f b e i told over n w =
      record { bytes = refusal_printed f over n n (ap (λ (x : Answer). called x after) (sym e) ∙ told.call) w.size w; text = sym i ∙ told.text }

-- what is printed for the bytes in rooms past the limits is what is printed for the inputs that they hold
pub held_margin : (table limits before after : List ℕ) (n m : ℕ) (r : MarginPrinted) → table_bytes.to < length table → limit_bytes.to < length limits
    → PrintedAs (margin_of (take n table) (take m limits)) before after r
    → (s l : List ℕ) → Holds s table n → Holds l limits m → PrintedAs (margin_of s l) before after r
held_margin table limits before after n m r h i w s l a b =
    subst (λ (x : Margin). PrintedAs x before after r)
    (ap (λ (z : List ℕ). margin_of z (take m limits)) a ∙ ap (λ (z : List ℕ). margin_of (take (length table) s) z) b
    ∙ margin_of_cut (length table) h (length limits) i s l) w
