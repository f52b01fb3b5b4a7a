-- One byte more of a text, as the code's loops go over it: what was counted or written so far, and what is still to come, stay the whole.
use mathlib.Core.Path.{◌≡◌, refl, ap}
use mathlib.Core.List.{List, ◌++◌}
use Prim.Native.Nat.{ℕ, ◌+◌, ◌≤◌, ◌<◌}
use native.Mathlib.Numerals.{add-one}
use native.Mathlib.Omega.{arith}
use lib.Dec.{eqb}
use lib.ListN.{length, get_or, drop, length-append, drop_of_length-le}
use lib.Seq.{drop-cons}
use Rattle.format.specs.Bytes.{line_feed}
use Rattle.schedule.proofs.Tests.{by_test}
use Rattle.salvaging.specs.Steps.{carriage_return, blank}
use Rattle.mending.specs.declared.line.Line.{Line}
use Rattle.mending.specs.Line.{line_after, ended, added, added_text, text_from, kinds_at, kinds_last, number_after, fixes_text, list_from}

module _ (s : List ℕ) (i : ℕ) (inside : i < length s) (l : Line) where
  abbrev c : ℕ
  c = get_or s i 0

  pub text_step : text_from l (drop i s) ≡ added_text (added l c) c ++ text_from (line_after l c) (drop (i + 1) s)
  unfolding text_from
  text_step = rw (add-one i, drop-cons s i 0 inside) refl

  pub list_step : (n : ℕ) → list_from n l (drop i s) ≡ fixes_text n (kinds_at l c) ++ list_from (number_after n c) (line_after l c) (drop (i + 1) s)
  unfolding list_from
  list_step n = rw (add-one i, drop-cons s i 0 inside) refl

module _ (s : List ℕ) (i : ℕ) (past : length s ≤ i) (l : Line) where
  pub text_end : text_from l (drop i s) ≡ added_text (ended l) line_feed
  unfolding text_from
  text_end = rw (drop_of_length-le s past) refl

  pub list_end : (n : ℕ) → list_from n l (drop i s) ≡ fixes_text n (kinds_last l)
  unfolding list_from
  list_end n = rw (drop_of_length-le s past) refl

-- a count so far, with the length of what comes next
pub counted : (rest piece more : List ℕ) (whole so r : ℕ) → rest ≡ piece ++ more → so + length rest ≡ whole → r ≡ length piece → so + r + length more ≡ whole
counted rest piece more whole so r e h f = omega (arith, ap length e, length-append piece more, h, f)

pub counted_last : (rest piece : List ℕ) (whole so r : ℕ) → rest ≡ piece → so + length rest ≡ whole → r ≡ length piece → so + r ≡ whole
counted_last rest piece whole so r e h f = omega (arith, ap length e, h, f)

-- what waits stays small
pub blanks_after : (l : Line) (c : ℕ) → (line_after l c).blanks ≤ l.blanks + 1
unfolding line_after
blanks_after l c =
    by_test (eqb c line_feed) (λ f. rw f (omega arith))
    (λ f. by_test (eqb c carriage_return) (λ g. rw (f, g) (omega arith))
    (λ g. by_test (eqb c blank) (λ h. rw (f, g, h) (omega arith)) (λ h. rw (f, g, h) (omega arith))))

pub blanks_added : (l : Line) (c : ℕ) → (added l c).blanks ≤ l.blanks
unfolding added
blanks_added l c =
    by_test (eqb c line_feed) (λ f. rw f (omega arith))
    (λ f. by_test (eqb c carriage_return) (λ g. rw (f, g) (omega arith))
    (λ g. by_test (eqb c blank) (λ h. rw (f, g, h) (omega arith)) (λ h. rw (f, g, h) (omega arith))))

pub number_most : (n c : ℕ) → number_after n c ≤ n + 1
unfolding number_after
number_most n c = by_test (eqb c line_feed) (λ f. rw f (omega arith)) (λ f. rw f (omega arith))
