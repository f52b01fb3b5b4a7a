-- What salvage left in its buffers is what the program prints: an output as it stands there, or the refusal written in its place. Neither output
-- is longer than the room for it.
use mathlib.Core.Path.{◌≡◌, refl, sym, ap, subst, ◌∙◌}
use mathlib.Core.List.{List}
use Prim.Native.Nat.{ℕ, ◌≤◌, ◌<◌}
use native.Mathlib.Omega.{arith}
use lib.ListN.{length, take, drop, length-append}
use lib.Dec.{T}
use lib.Seq.{take_all, length-take-le}
use borrow.Author.Tests.{lt-leb}
use Rattle.format.specs.declared.Refusal.{Refusal}
use Rattle.format.specs.declared.Refusal.TheVariants.{TooLong}
use Rattle.schedule.specs.Limits.{table_bytes}
use Rattle.schedule.proofs.Tests.{by_lt}
use Rattle.rules.specs.Answers.{refuses, printed}
use Rattle.writing.specs.Written.{Written}
use Rattle.std.specs.Prelude.{Result, Ok, Err, is_ok}
use Rattle.salvaging.specs.declared.Lengths.{Lengths}
use Rattle.salvaging.specs.Salvage.{Salvaging, left, refused, salvage_of, SalvageCall, leaves, salvage_call, longest_list}
use Rattle.salvage.specs.Call.{called}
use Rattle.salvage.proofs.Room.{every_salvage_fits}
use Rattle.printouts.specs.declared.Output.{Output}
use Rattle.printouts.specs.declared.Output.TheVariants.{Text, Fixes}
use Rattle.printouts.specs.Outputs.{output_in, output_of}

-- the lengths told, and the refusal, where there is one
abbrev lengths_in : Result Lengths Refusal → Lengths
lengths_in (Ok n) = n
lengths_in (Err r) = record { text = 0; list = 0 }

abbrev refusal_in : Result Lengths Refusal → Refusal
refusal_in (Ok n) = TooLong
refusal_in (Err r) = r

module _ (text list text' list' : List ℕ) where
  text_left_lem : (n : Lengths) (x : Salvaging) → called (Ok n) text' list' ≡ leaves text list x → Written (printed (output_in Text x)) text text' n.text
  unfolding leaves printed
  text_left_lem n (left t f) e = record { size = ap (λ (c : SalvageCall). (lengths_in c.answer).text) e; bytes = ap (λ (c : SalvageCall). c.text) e }
  text_left_lem n (refused r) e = absurd (subst T (ap (λ (c : SalvageCall). is_ok c.answer) e) tt)

  list_left_lem : (n : Lengths) (x : Salvaging) → called (Ok n) text' list' ≡ leaves text list x → Written (printed (output_in Fixes x)) list list' n.list
  unfolding leaves printed
  list_left_lem n (left t f) e = record { size = ap (λ (c : SalvageCall). (lengths_in c.answer).list) e; bytes = ap (λ (c : SalvageCall). c.list) e }
  list_left_lem n (refused r) e = absurd (subst T (ap (λ (c : SalvageCall). is_ok c.answer) e) tt)

  -- a refused call leaves both buffers as they were
  refusal_left : (r : Refusal) (x : Salvaging) → called (Err r) text' list' ≡ leaves text list x → (x ≡ refused r) × (text' ≡ text) × (list' ≡ list)
  unfolding leaves
  refusal_left r (left t f) e = absurd (subst T (ap (λ (c : SalvageCall). is_ok c.answer) (sym e)) tt)
  refusal_left r (refused g) e =
      (ap (λ (c : SalvageCall). refused (refusal_in c.answer)) (sym e), ap (λ (c : SalvageCall). c.text) e, ap (λ (c : SalvageCall). c.list) e)

module _ (s text list text' list' : List ℕ) (room : table_bytes.to ≤ length text) (room' : longest_list ≤ length list) where
  answered : (a : Result Lengths Refusal) → called a text' list' ≡ salvage_call s text list → called a text' list' ≡ leaves text list (salvage_of s)
  unfolding salvage_call
  answered a e = rw (every_salvage_fits s (length text) (length list) room room') at e

  pub text_printed : (n : Lengths) → called (Ok n) text' list' ≡ salvage_call s text list → Written (printed (output_of Text s)) text text' n.text
  text_printed n e = text_left_lem text list text' list' n (salvage_of s) (answered (Ok n) e)

  pub list_printed : (n : Lengths) → called (Ok n) text' list' ≡ salvage_call s text list → Written (printed (output_of Fixes s)) list list' n.list
  list_printed n e = list_left_lem text list text' list' n (salvage_of s) (answered (Ok n) e)

  pub text_refused : (r : Refusal) (over : List ℕ) (n m : ℕ) → called (Err r) text' list' ≡ salvage_call s text list
      → n ≡ length (printed (refuses r)) → Written (printed (refuses r)) text' over m → Written (printed (output_of Text s)) text over n
  text_refused r over n m e size w =
      let (is, same, _) = refusal_left text list text' list' r (salvage_of s) (answered (Err r) e) in
      rw is (record { size = size; bytes = rw same at w.bytes })

  pub list_refused : (r : Refusal) (over : List ℕ) (n m : ℕ) → called (Err r) text' list' ≡ salvage_call s text list
      → n ≡ length (printed (refuses r)) → Written (printed (refuses r)) list' over m → Written (printed (output_of Fixes s)) list over n
  list_refused r over n m e size w =
      let (is, _, same) = refusal_left text list text' list' r (salvage_of s) (answered (Err r) e) in
      rw is (record { size = size; bytes = rw same at w.bytes })

-- what was written stands within the buffer
pub written_within : (s before after : List ℕ) (n : ℕ) → Written s before after n → n ≤ length after
written_within s before after n w = omega (arith, w.size, ap length w.bytes, length-append s (drop (length s) before))

-- a text that is too long is refused for its length alone: one that was cut past the limit is answered as the whole one
too_long : (s : List ℕ) → table_bytes.to < length s → salvage_of s ≡ refused TooLong
unfolding salvage_of
too_long s h = rw (lt-leb (length s) table_bytes.to h) refl

salvage_of_cut : (room : ℕ) → table_bytes.to < room → (s : List ℕ) → salvage_of (take room s) ≡ salvage_of s
salvage_of_cut room past s =
    by_lt room (length s)
    (λ h. let is : length (take room s) ≡ room = length-take-le room s (omega arith) in
    too_long (take room s) (omega arith) ∙ sym (too_long s (omega arith)))
    (λ h. ap salvage_of (take_all room s h))

-- what is printed for the bytes in a room past the limit is what is printed for the input that it holds
pub held_output : (o : Output) (room before after : List ℕ) (n m : ℕ) → table_bytes.to < length room
    → Written (printed (output_of o (take n room))) before after m → (input : List ℕ) → take n room ≡ take (length room) input → Written (printed (output_of o input)) before after m
held_output o room before after n m h w input holds =
    subst (λ (x : Salvaging). Written (printed (output_in o x)) before after m) (ap salvage_of holds ∙ salvage_of_cut (length room) h input) w
