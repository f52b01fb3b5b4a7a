-- Zeros that go, byte by byte: from each place the rules' step is what the byte adds, and the step from the next place. Shown at the end:
-- `unpad_blanks`.
use mathlib.Core.Path.{◌≡◌, refl, sym, ap, ◌∙◌}
use mathlib.Core.Bool.{Bool, true, false, not, ◌&&◌}
use mathlib.Core.List.{List, [], ◌∷◌, ◌++◌}
use Prim.Native.Nat.{ℕ, zero, suc}
use lib.Dec.{eqb}
use lib.ListN.{replicate}
use native.Mathlib.Omega.{arith}
use borrow.Author.Tests.{eqb-true, ne_eqb}
use Rattle.format.specs.Bytes.{equals, digit_zero, is_digit}
use Rattle.schedule.proofs.Tests.{by_test}
use Rattle.salvaging.specs.Steps.{blank, unpadded_from, unpadded}
use Rattle.mending.specs.declared.place.Place.{Place}
use Rattle.mending.specs.declared.place.Place.TheVariants.{Key, Outside, Run, Zero}
use Rattle.mending.specs.Place.{is_zero, broken, settled, next, goes, holds}
use Rattle.mending.specs.Line.{byte_if}

-- what the rules' step leaves of the rest of a line
abbrev pub unpad : Place → List ℕ → List ℕ
unpad Key s = unpadded s
unpad Outside s = unpadded_from false s
unpad Run s = unpadded_from true s
unpad Zero s = unpadded_from false (digit_zero ∷ s)

pub unpad_nil : (p : Place) → unpad p [] ≡ byte_if (is_zero p) digit_zero
unfolding unpadded unpadded_from
unpad_nil Key = refl
unpad_nil Outside = refl
unpad_nil Run = refl
unpad_nil Zero = refl

-- what byte c adds at place p, and the rest
abbrev pub step : Place → ℕ → List ℕ → List ℕ
step p c s = byte_if (is_zero p && not (goes p c)) digit_zero ++ (byte_if (not (holds p c)) c ++ unpad (next p c) s)

zero_digit : (c : ℕ) → eqb c digit_zero ≡ true → is_digit c ≡ true
zero_digit c f = ap is_digit (eqb-true c digit_zero f)

key_step : (c : ℕ) (s : List ℕ) → unpad Key (c ∷ s) ≡ step Key c s
unfolding unpadded
key_step c s = by_test (eqb c equals) (λ f. rw f refl) (λ f. rw f refl)

run_step : (c : ℕ) (s : List ℕ) → unpad Run (c ∷ s) ≡ step Run c s
unfolding unpadded_from
run_step c s = by_test (is_digit c) (λ f. rw f refl) (λ f. rw f refl)

-- a zero is held
held_step : (c : ℕ) (s : List ℕ) → eqb c digit_zero ≡ true → unpad Outside (c ∷ s) ≡ step Outside c s
held_step c s f = rw f (ap (λ (x : ℕ). unpadded_from false (x ∷ s)) (eqb-true c digit_zero f))

other_step : (c : ℕ) (s : List ℕ) → eqb c digit_zero ≡ false → unpad Outside (c ∷ s) ≡ step Outside c s
unfolding unpadded_from
other_step c s f = by_test (is_digit c) (λ g. rw (f, g) refl) (λ g. rw (f, g) refl)

outside_step : (c : ℕ) (s : List ℕ) → unpad Outside (c ∷ s) ≡ step Outside c s
outside_step c s = by_test (eqb c digit_zero) (held_step c s) (other_step c s)

-- after a zero that is held: another digit, and it goes; or another byte, and it stays
pub gone : (c : ℕ) (s : List ℕ) → is_digit c ≡ true → unpad Zero (c ∷ s) ≡ unpad Outside (c ∷ s)
unfolding unpadded_from
gone c s g = rw g refl

pub stays : (c : ℕ) (s : List ℕ) → is_digit c ≡ false → unpad Zero (c ∷ s) ≡ digit_zero ∷ (c ∷ unpadded_from false s)
unfolding unpadded_from
stays c s g = rw g refl

zero_step : (c : ℕ) (s : List ℕ) → unpad Zero (c ∷ s) ≡ step Zero c s
zero_step c s =
    by_test (is_digit c)
    (λ g. gone c s g ∙ outside_step c s ∙ same g)
    (λ g. stays c s g ∙ kept g (by_test (eqb c digit_zero) (λ f. f ∙ sym (zero_digit c f) ∙ g) (λ f. f)))
  where
    same : is_digit c ≡ true → step Outside c s ≡ step Zero c s
    same g = rw g refl

    kept : is_digit c ≡ false → eqb c digit_zero ≡ false → digit_zero ∷ (c ∷ unpadded_from false s) ≡ step Zero c s
    kept g f = rw (g, f) refl

pub unpad_step : (p : Place) (c : ℕ) (s : List ℕ) → unpad p (c ∷ s) ≡ step p c s
unpad_step Key c s = key_step c s
unpad_step Outside c s = outside_step c s
unpad_step Run c s = run_step c s
unpad_step Zero c s = zero_step c s

-- blanks stay where they are, and end a run
abbrev blanks : ℕ → List ℕ
blanks n = replicate n blank

key_blanks : (n : ℕ) (s : List ℕ) → unpad Key (blanks n ++ s) ≡ blanks n ++ unpad Key s
key_blanks zero s = refl
key_blanks (suc n) s = key_step blank (blanks n ++ s) ∙ ap (λ (l : List ℕ). blank ∷ l) (key_blanks n s)

outside_blanks : (n : ℕ) (s : List ℕ) → unpad Outside (blanks n ++ s) ≡ blanks n ++ unpad Outside s
outside_blanks zero s = refl
outside_blanks (suc n) s = outside_step blank (blanks n ++ s) ∙ ap (λ (l : List ℕ). blank ∷ l) (outside_blanks n s)

broken_blanks : (p : Place) (n : ℕ) (s : List ℕ) → unpad (broken p) (blanks n ++ s) ≡ blanks n ++ unpad (broken p) s
broken_blanks Key n s = key_blanks n s
broken_blanks Outside n s = outside_blanks n s
broken_blanks Run n s = outside_blanks n s
broken_blanks Zero n s = outside_blanks n s

first_blank : (p : Place) (s : List ℕ) → unpad p (blank ∷ s) ≡ byte_if (is_zero p) digit_zero ++ (blank ∷ unpad (broken p) s)
first_blank Key s = key_step blank s
first_blank Outside s = outside_step blank s
first_blank Run s = run_step blank s
first_blank Zero s = zero_step blank s

-- after a blank no zero is held
after_blank : (p : Place) (c : ℕ) (s : List ℕ) → unpad (broken p) (c ∷ s) ≡ byte_if (not (holds (broken p) c)) c ++ unpad (next (broken p) c) s
after_blank Key c s = key_step c s
after_blank Outside c s = outside_step c s
after_blank Run c s = outside_step c s
after_blank Zero c s = outside_step c s

stays_before_blank : (p : Place) (c : ℕ) → is_zero p && not (goes (broken p) c) ≡ is_zero p
stays_before_blank Key c = refl
stays_before_blank Outside c = refl
stays_before_blank Run c = refl
stays_before_blank Zero c = refl

pub settled_suc : (p : Place) (n : ℕ) → settled p (suc n) ≡ broken p
settled_suc p n = rw (ne_eqb (suc n) 0 (λ e. omega arith)) refl

-- n blanks and then byte c, which is kept
pub unpad_blanks : (p : Place) (n c : ℕ) (s : List ℕ) → unpad p (blanks n ++ (c ∷ s))
    ≡ byte_if (is_zero p && not (goes (settled p n) c)) digit_zero ++ (blanks n ++ (byte_if (not (holds (settled p n) c)) c ++ unpad (next (settled p n) c) s))
unpad_blanks p zero c s = unpad_step p c s
unpad_blanks p (suc n) c s =
    rw (settled_suc p n)
    (first_blank p (blanks n ++ (c ∷ s))
    ∙ ap (λ (l : List ℕ). byte_if (is_zero p) digit_zero ++ (blank ∷ l)) (broken_blanks p n (c ∷ s) ∙ ap (λ (l : List ℕ). blanks n ++ l) (after_blank p c s))
    ∙ ap (λ (b : Bool). byte_if b digit_zero ++ (blank ∷ (blanks n ++ (byte_if (not (holds (broken p) c)) c ++ unpad (next (broken p) c) s)))) (sym (stays_before_blank p c)))
