-- What the system tells of the arguments is enough to know what they ask.
use Rattle.std.specs.Prelude.{Result, Ok, Err}
use mathlib.Core.Path.{◌≡◌, refl, sym, ◌∙◌}
use mathlib.Core.Bool.{Bool, true, false, not, ◌&&◌, ◌||◌, cond}
use mathlib.Core.List.{List, [], ◌∷◌, map}
use Prim.Native.Nat.{ℕ, suc, ◌≤◌, ◌<◌}
use native.Mathlib.Omega.{arith}
use lib.Dec.{eqb}
use lib.ListN.{length, get_or}
use Rattle.schedule.specs.Lists.{all?}
use borrow.Author.Tests.{le-leb, lt-leb, ne_eqb}
use Rattle.format.specs.Spelling.{Scan, read, wrong, number, text}
use Rattle.schedule.proofs.Tests.{by_test, by_lt}
use lib.Pointwise.{pointwise}
use Rattle.scanning.specs.Positions.{capped}
use Rattle.asking.specs.declared.faults.Fault.{Fault}
use Rattle.asking.specs.declared.faults.Fault.TheVariants.{Misspelled, Unread}
use Rattle.asking.specs.declared.questions.Account.{Account}
use Rattle.asking.specs.declared.questions.Asked.{Asked}
use Rattle.asking.specs.declared.lengths.Lengths.{Lengths}
use Rattle.asking.specs.Instants.{at_end, instant_by, instant_of}
use Rattle.asking.specs.Lengths.{is_at, is_number, no_lengths, fault_on, spelled, lengths_on, lengths_by}
use Rattle.asking.specs.Questions.{row, batch, salvage, fixes, rewrite, plain, margin, longest_word, is_word, output_asked, text_asked_by, text_question, batch_asked_by, batch_asked, question_of, asked, fitting, Told}

-- a word by the comparison of its bytes
pub equal_is : (w s : List ℕ) → pointwise eqb s w ≡ is_word w s
unfolding text
equal_is [] [] = refl
equal_is [] (c ∷ s) = refl
equal_is (t ∷ w) [] = refl
equal_is (t ∷ w) (c ∷ s) = by_test (eqb c t) (λ e. rw e (equal_is w s)) (λ e. rw e)

-- what is longer than a word is not that word
longer : (w s : List ℕ) → length w < length s → is_word w s ≡ false
unfolding text
longer w [] h = absurd (omega arith)
longer [] (c ∷ s) h = refl
longer (t ∷ w) (c ∷ s) h = by_test (eqb c t) (λ e. rw e (longer w s (omega arith))) (λ e. rw e)

-- so an argument that does not fit the room for a word is none
in_its_room : (w : List ℕ) → is_word w [] ≡ false → (room : ℕ) → length w ≤ room → (s : List ℕ) → is_word w (fitting room s) ≡ is_word w s
in_its_room w none room l s =
    by_lt room (length s) (λ h. rw (lt-leb (length s) room h) (none ∙ sym (longer w s (omega arith)))) (λ h. rw (le-leb (length s) room h))

-- and nothing is no word
nothing : (t : ℕ) (w : List ℕ) → is_word (t ∷ w) [] ≡ false
unfolding text
nothing t w = refl

or_none : (b : Bool) → b ≡ (b || false)
or_none true = refl
or_none false = refl

or-true : (b : Bool) → true ≡ (b || true)
or-true true = refl
or-true false = refl

-- an argument is a number or is misspelled, and never unread
module _ (s : Lengths) where
  misspelled_on : (rest : Bool) (x : Scan ℕ) → ((lengths_on s (instant_by x)).misspelled || not rest) ≡ (s.misspelled || not (is_at (instant_by x) && rest))
  misspelled_on rest (read v t) = by_test (at_end t) (λ e. rw e) (λ e. rw e (or-true s.misspelled))
  misspelled_on rest (wrong t) = or-true s.misspelled

  unread_on : (x : Scan ℕ) → (lengths_on s (instant_by x)).unread ≡ s.unread
  unread_on (read v t) = by_test (at_end t) (λ e. rw e) (λ e. rw e)
  unread_on (wrong t) = refl

misspelled_by : (s : Lengths) (ts : List (List ℕ)) → (lengths_by s (map instant_of ts)).misspelled ≡ (s.misspelled || not (all? is_number ts))
misspelled_by s [] = or_none s.misspelled
misspelled_by s (t ∷ ts) = misspelled_by (lengths_on s (instant_of t)) ts ∙ misspelled_on s (all? is_number ts) (capped (number t))

unread_by : (s : Lengths) (ts : List (List ℕ)) → (lengths_by s (map instant_of ts)).unread ≡ s.unread
unread_by s [] = refl
unread_by s (t ∷ ts) = unread_by (lengths_on s (instant_of t)) ts ∙ unread_on s (capped (number t))

by_lengths : (ts : List (List ℕ)) → batch_asked (lengths_by no_lengths (map instant_of ts)) ≡ cond (all? is_number ts) (Ok Asked.Batch) (Err Misspelled)
by_lengths ts = rw (unread_by no_lengths ts, misspelled_by no_lengths ts) (either (all? is_number ts))
  where
    either : (b : Bool) → batch_asked_by (cond (not b) (Err Misspelled) (Ok tt)) ≡ cond b (Ok Asked.Batch) (Err Misspelled)
    either true = refl
    either false = refl

abbrev failed : Fault → Result (Unit {0}) Fault
failed f = Err f

-- one argument more: a number changes nothing, and a fault is told as `fault_on` says
pub still : (s : Lengths) (v : ℕ) → spelled (lengths_on s (Ok v)) ≡ spelled s
still s v = refl

pub fault_kept : (s : Lengths) (f : Fault) → spelled (lengths_on s (Err f)) ≡ Err (fault_on (spelled s) f)
fault_kept s Misspelled = both s.unread s.misspelled
  where
    both : (u m : Bool) → cond u (failed Unread) (failed Misspelled) ≡ failed (fault_on (cond u (failed Unread) (cond m (failed Misspelled) (Ok tt))) Misspelled)
    both true m = refl
    both false true = refl
    both false false = refl
fault_kept s Unread = both s.unread s.misspelled
  where
    both : (u m : Bool) → failed Unread ≡ failed (fault_on (cond u (failed Unread) (cond m (failed Misspelled) (Ok tt))) Unread)
    both true m = refl
    both false true = refl
    both false false = refl

-- each room holds the longest word
module _ (room second : ℕ) (l : longest_word ≤ room) (k : longest_word ≤ second) where
  by_output : (w : List ℕ) → output_asked (fitting room w) ≡ output_asked w
  by_output w = rw (in_its_room salvage (nothing _ _) room l w, in_its_room fixes (nothing _ _) room (omega arith) w, in_its_room rewrite (nothing _ _) room l w, in_its_room plain (nothing _ _) room (omega arith) w)

  by_text : (w : List ℕ) (ts : List (List ℕ))
      → text_asked_by (suc (length (w ∷ ts))) (fitting room w) (instant_of (get_or (w ∷ ts) 1 [])) (fitting second (get_or (w ∷ ts) 1 [])) (instant_of (get_or (w ∷ ts) 2 []))
      ≡ text_question w ts
  by_text w [] = by_output w
  by_text w (t ∷ []) = rw (in_its_room row (nothing _ _) room (omega arith) w, in_its_room margin (nothing _ _) room (omega arith) w)
  by_text w (t ∷ u ∷ []) = rw (in_its_room plain (nothing _ _) room (omega arith) w, in_its_room row (nothing _ _) second (omega arith) t)
  by_text w (t ∷ u ∷ v ∷ rest) =
      let count : ℕ = suc (length (w ∷ t ∷ u ∷ v ∷ rest)) in
      rw (ne_eqb count 2 (λ e. omega arith), ne_eqb count 3 (λ e. omega arith), ne_eqb count 4 (λ e. omega arith))

  by_words : (w : List ℕ) (ts : List (List ℕ))
      → cond (is_word batch (fitting room w)) (batch_asked (lengths_by no_lengths (map instant_of ts)))
      (text_asked_by (suc (length (w ∷ ts))) (fitting room w) (instant_of (get_or (w ∷ ts) 1 [])) (fitting second (get_or (w ∷ ts) 1 [])) (instant_of (get_or (w ∷ ts) 2 [])))
      ≡ question_of (w ∷ ts)
  by_words w ts = rw (in_its_room batch (nothing _ _) room (omega arith) w, by_lengths ts, by_text w ts)

pub asked_is : (arguments : List (List ℕ)) (told : Account) → Told arguments told → asked told ≡ question_of arguments
asked_is [] told t = rw t.counted
asked_is (w ∷ ts) told t =
    rw (t.counted, t.word, t.spelled, t.word_behind, t.spelled_behind, t.measured, ne_eqb (suc (length (w ∷ ts))) 1 (λ e. omega arith))
    (by_words (length told.word.room.now) (length told.second.room.now) told.word.wide told.second.wide w ts)
