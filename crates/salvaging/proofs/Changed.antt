-- What a step changed: a shorter text is another one; and each step that changes a text makes it shorter.
use mathlib.Core.Path.{◌≡◌, refl, ap}
use mathlib.Core.Bool.{Bool, true, false, not, ◌&&◌}
use mathlib.Core.List.{List, [], ◌∷◌}
use Prim.Native.Nat.{ℕ, suc, ◌+◌, ◌≤◌, ◌<◌}
use native.Mathlib.Omega.{arith}
use lib.Dec.{eqb}
use lib.ListN.{length}
use borrow.Author.Tests.{eq-eqb}
use Rattle.schedule.specs.Lists.{one?, keep, alike}
use Rattle.schedule.proofs.Tests.{by_test, one_le_one}
use Rattle.theorems.proofs.Formed.{second_of}
use Rattle.format.specs.Bytes.{equals, digit_zero, is_digit}
use Rattle.salvaging.specs.Lines.{empty?}
use Rattle.salvaging.specs.Steps.{blank, plain?, without_returns, trimmed, digit_next?, unpadded_from, unpadded}
use Rattle.salvaging.specs.Fixes.{changed}

-- texts of different lengths are different
alike_length : (s t : List ℕ) → alike eqb s t ≡ true → length s ≡ length t
alike_length [] [] e = refl
alike_length [] (d ∷ t) e = absurd (let z : ◌≡◌ {A = ℕ} 0 1 = cc in omega arith)
alike_length (c ∷ s) [] e = absurd (let z : ◌≡◌ {A = ℕ} 0 1 = cc in omega arith)
alike_length (c ∷ s) (d ∷ t) e = ap suc (alike_length s t (second_of (eqb c d) (alike eqb s t) e))

pub shorter_changed : (s t : List ℕ) → length t < length s → changed s t ≡ true
shorter_changed s t h = by_test (alike eqb s t) (λ e. absurd (omega (arith, alike_length s t e))) (λ e. rw e refl)

-- the same byte before both
pub changed_cons : (c : ℕ) (s t : List ℕ) → changed (c ∷ s) (c ∷ t) ≡ changed s t
changed_cons c s t = rw (eq-eqb c c refl) refl

pub kept_length : (s : List ℕ) → length (keep plain? s) ≤ length s
kept_length [] = omega arith
kept_length (c ∷ s) = by_test (plain? c) (λ f. rw f (let i = kept_length s in omega arith)) (λ f. rw f (let i = kept_length s in omega arith))

pub unpadded_length : (r : Bool) (s : List ℕ) → length (unpadded_from r s) ≤ length s
unfolding unpadded_from
unpadded_length r [] = omega arith
unpadded_length r (c ∷ s) =
    by_test (not r && (eqb c digit_zero && digit_next? s))
    (λ f. rw f (let i = unpadded_length false s in omega arith))
    (λ f. rw f (let i = unpadded_length (is_digit c) s in omega arith))

-- a byte that goes takes one off, and so much is left for a line of the list
gone : (c : ℕ) (s t : List ℕ) → length t ≤ length s → one? (changed (c ∷ s) t) + length t ≤ length (c ∷ s)
gone c s t h = omega (arith, h, one_le_one (changed (c ∷ s) t))

stays : (c : ℕ) (s t : List ℕ) → one? (changed s t) + length t ≤ length s → one? (changed (c ∷ s) (c ∷ t)) + length (c ∷ t) ≤ length (c ∷ s)
stays c s t h = rw (changed_cons c s t) (omega (arith, h))

pub returns_shorter : (s : List ℕ) → one? (changed s (without_returns s)) + length (without_returns s) ≤ length s
unfolding without_returns
returns_shorter [] = omega arith
returns_shorter (c ∷ s) =
    by_test (plain? c) (λ f. rw f (stays c s (keep plain? s) (returns_shorter s))) (λ f. rw f (gone c s (keep plain? s) (kept_length s)))

pub trimmed_shorter : (s : List ℕ) → one? (changed s (trimmed s)) + length (trimmed s) ≤ length s
unfolding trimmed
trimmed_shorter [] = omega arith
trimmed_shorter (c ∷ s) =
    by_test (eqb c blank && empty? (trimmed s)) (λ f. rw f (gone c s [] (omega arith))) (λ f. rw f (stays c s (trimmed s) (trimmed_shorter s)))

unpadded_from_shorter : (r : Bool) (s : List ℕ) → one? (changed s (unpadded_from r s)) + length (unpadded_from r s) ≤ length s
unfolding unpadded_from
unpadded_from_shorter r [] = omega arith
unpadded_from_shorter r (c ∷ s) =
    by_test (not r && (eqb c digit_zero && digit_next? s))
    (λ f. rw f (gone c s (unpadded_from false s) (unpadded_length false s)))
    (λ f. rw f (stays c s (unpadded_from (is_digit c) s) (unpadded_from_shorter (is_digit c) s)))

pub unpadded_shorter : (s : List ℕ) → one? (changed s (unpadded s)) + length (unpadded s) ≤ length s
unfolding unpadded
unpadded_shorter [] = omega arith
unpadded_shorter (c ∷ s) =
    by_test (eqb c equals)
    (λ f. rw f (stays c s (unpadded_from false s) (unpadded_from_shorter false s)))
    (λ f. rw f (stays c s (unpadded s) (unpadded_shorter s)))
