-- What a step changed, byte by byte: a carriage return in the line, a blank at its end, a zero that went.
use mathlib.Core.Path.{◌≡◌, refl, sym, ap, ◌∙◌}
use mathlib.Core.Bool.{Bool, true, false, not, ◌||◌, cond}
use mathlib.Core.List.{List, [], ◌∷◌, ◌++◌}
use Prim.Native.Nat.{ℕ, zero, suc}
use native.Mathlib.Omega.{arith}
use lib.Dec.{eqb}
use lib.ListN.{replicate}
use borrow.Author.Tests.{eqb-true, ne_eqb}
use Rattle.format.specs.Bytes.{equals, digit_zero, is_digit}
use Rattle.schedule.specs.Lists.{keep}
use Rattle.schedule.proofs.Tests.{by_test}
use Rattle.salvaging.specs.Lines.{empty?}
use Rattle.salvaging.specs.Steps.{carriage_return, blank, plain?, without_returns, trimmed, unpadded_from, unpadded}
use Rattle.salvaging.specs.Fixes.{changed}
use Rattle.salvaging.proofs.Changed.{shorter_changed, changed_cons, kept_length, unpadded_length}
use Rattle.mending.specs.declared.place.Place.{Place}
use Rattle.mending.specs.declared.place.Place.TheVariants.{Key, Outside, Run, Zero}
use Rattle.mending.specs.Place.{is_zero, broken, settled, begins, next, goes}
use Rattle.mending.specs.Line.{byte_if}
use Rattle.mending.proofs.Unpadding.{unpad, gone, stays, settled_suc}

-- kind 1
pub return_changed : (c : ℕ) (s : List ℕ) → eqb c carriage_return ≡ true → changed (c ∷ s) (without_returns (c ∷ s)) ≡ true
unfolding without_returns
return_changed c s f = shorter_changed (c ∷ s) (keep plain? (c ∷ s)) (rw f (let i = kept_length s in omega arith))

pub plain_changed : (c : ℕ) (s : List ℕ) → eqb c carriage_return ≡ false → changed (c ∷ s) (without_returns (c ∷ s)) ≡ changed s (without_returns s)
unfolding without_returns
plain_changed c s f = rw f (changed_cons c s (keep plain? s))

-- kind 2, with n blanks before the rest a of a line
abbrev pub ends : ℕ → List ℕ → Bool
ends n a = cond (empty? (trimmed a)) (not (eqb n 0) || not (empty? a)) (changed a (trimmed a))

pub ends_blank_lem : (n : ℕ) (a : List ℕ) → ends n (blank ∷ a) ≡ ends (suc n) a
unfolding trimmed
ends_blank_lem n a = go (trimmed a)
  where
    go : (t : List ℕ) → cond (empty? (cond (empty? t) [] (blank ∷ t))) (not (eqb n 0) || true) (changed (blank ∷ a) (cond (empty? t) [] (blank ∷ t)))
        ≡ cond (empty? t) (not (eqb (suc n) 0) || not (empty? a)) (changed a t)
    go [] = by_test (not (eqb n 0)) (λ f. rw (f, ne_eqb (suc n) 0 (λ e. omega arith)) refl) (λ f. rw (f, ne_eqb (suc n) 0 (λ e. omega arith)) refl)
    go (d ∷ t) = refl

-- with no blank before it
pub trailing : (a t : List ℕ) → changed a t ≡ cond (empty? t) (not (empty? a)) (changed a t)
trailing [] [] = refl
trailing (d ∷ a) [] = refl
trailing a (d ∷ t) = refl

pub ends_byte : (n c : ℕ) (a : List ℕ) → eqb c blank ≡ false → ends n (c ∷ a) ≡ ends 0 a
unfolding trimmed
ends_byte n c a f = rw f (changed_cons c a (trimmed a) ∙ trailing a (trimmed a))

-- kind 4, from place p on
abbrev pub spared : Place → List ℕ → Bool
spared p s = changed (byte_if (is_zero p) digit_zero ++ s) (unpad p s)

key_spared : (c : ℕ) (s : List ℕ) → spared Key (c ∷ s) ≡ goes Key c || spared (next Key c) s
unfolding unpadded
key_spared c s = by_test (eqb c equals) (λ f. rw f (changed_cons c s (unpadded_from false s))) (λ f. rw f (changed_cons c s (unpadded s)))

run_spared : (c : ℕ) (s : List ℕ) → spared Run (c ∷ s) ≡ goes Run c || spared (next Run c) s
unfolding unpadded_from
run_spared c s = by_test (is_digit c) (λ f. rw f (changed_cons c s (unpadded_from true s))) (λ f. rw f (changed_cons c s (unpadded_from false s)))

held_spared : (c : ℕ) (s : List ℕ) → eqb c digit_zero ≡ true → spared Outside (c ∷ s) ≡ spared (begins c) s
held_spared c s f = rw f (ap (λ (x : ℕ). changed (x ∷ s) (unpadded_from false (x ∷ s))) (eqb-true c digit_zero f))

other_spared : (c : ℕ) (s : List ℕ) → eqb c digit_zero ≡ false → spared Outside (c ∷ s) ≡ spared (begins c) s
unfolding unpadded_from
other_spared c s f =
    by_test (is_digit c) (λ g. rw (f, g) (changed_cons c s (unpadded_from true s))) (λ g. rw (f, g) (changed_cons c s (unpadded_from false s)))

outside_spared : (c : ℕ) (s : List ℕ) → spared Outside (c ∷ s) ≡ goes Outside c || spared (next Outside c) s
outside_spared c s = by_test (eqb c digit_zero) (held_spared c s) (other_spared c s)

zero_gone : (c : ℕ) (s : List ℕ) → is_digit c ≡ true → spared Zero (c ∷ s) ≡ true
zero_gone c s g = shorter_changed (digit_zero ∷ (c ∷ s)) (unpad Zero (c ∷ s)) (rw (gone c s g) (let i = unpadded_length false (c ∷ s) in omega arith))

zero_stays : (c : ℕ) (s : List ℕ) → is_digit c ≡ false → spared Zero (c ∷ s) ≡ spared Outside s
zero_stays c s g = rw (stays c s g) (changed_cons c s (unpadded_from false s))

zero_spared : (c : ℕ) (s : List ℕ) → spared Zero (c ∷ s) ≡ goes Zero c || spared (next Zero c) s
zero_spared c s =
    by_test (is_digit c) (λ g. zero_gone c s g ∙ sym (rw g refl))
    (λ g. zero_stays c s g ∙ other g (by_test (eqb c digit_zero) (λ f. f ∙ sym (ap is_digit (eqb-true c digit_zero f)) ∙ g) (λ f. f)))
  where
    other : is_digit c ≡ false → eqb c digit_zero ≡ false → spared Outside s ≡ goes Zero c || spared (begins c) s
    other g f = rw (g, f) refl

pub spared_step : (p : Place) (c : ℕ) (s : List ℕ) → spared p (c ∷ s) ≡ goes p c || spared (next p c) s
spared_step Key c s = key_spared c s
spared_step Outside c s = outside_spared c s
spared_step Run c s = run_spared c s
spared_step Zero c s = zero_spared c s

first_blank : (p : Place) (s : List ℕ) → spared p (blank ∷ s) ≡ spared (broken p) s
first_blank Key s = key_spared blank s
first_blank Outside s = outside_spared blank s
first_blank Run s = run_spared blank s
first_blank Zero s = zero_spared blank s

broken_twice : (p : Place) → broken (broken p) ≡ broken p
broken_twice Key = refl
broken_twice Outside = refl
broken_twice Run = refl
broken_twice Zero = refl

more_blanks : (p : Place) (n : ℕ) (s : List ℕ) → spared (broken p) (replicate n blank ++ s) ≡ spared (broken p) s
more_blanks p zero s = refl
more_blanks p (suc n) s =
    first_blank (broken p) (replicate n blank ++ s) ∙ ap (λ (q : Place). spared q (replicate n blank ++ s)) (broken_twice p) ∙ more_blanks p n s

-- n blanks and then byte c, which is kept
pub spared_blanks : (p : Place) (n c : ℕ) (s : List ℕ) → spared p (replicate n blank ++ (c ∷ s)) ≡ goes (settled p n) c || spared (next (settled p n) c) s
spared_blanks p zero c s = spared_step p c s
spared_blanks p (suc n) c s = rw (settled_suc p n) (first_blank p (replicate n blank ++ (c ∷ s)) ∙ more_blanks p n (c ∷ s) ∙ spared_step (broken p) c s)

-- no byte more
pub spared_nil : (p : Place) → spared p [] ≡ false
unfolding unpadded unpadded_from
spared_nil Key = refl
spared_nil Outside = refl
spared_nil Run = refl
spared_nil Zero = refl
