-- A test that some number of a range passes is that of some index below its end.
use mathlib.Core.Path.{◌≡◌, refl, sym, ap, ◌∙◌}
use mathlib.Core.Bool.{Bool, ◌||◌, or-false}
use Rattle.std.proofs.Math.Bool.{or_assoc}
use Prim.Native.Nat.{ℕ, zero, suc, ◌+◌}
use native.Mathlib.Nat.{zero-add}
use native.Mathlib.Omega.{arith}
use Rattle.std.specs.List.{list_any, range_with_len}
use Rattle.window.specs.Loops.{some_below}

-- the first index first
some_first : (q : ℕ → Bool) (n : ℕ) → some_below q (suc n) ≡ (q 0 || some_below (λ (i : ℕ). q (suc i)) n)
unfolding some_below
some_first q zero = sym (or-false (q 0))
some_first q (suc n) = ap (λ (b : Bool). b || q (suc n)) (some_first q n) ∙ or_assoc (q 0) (some_below (λ (i : ℕ). q (suc i)) n) (q (suc n))

some_from : (p q : ℕ → Bool) (a n : ℕ) → ((i : ℕ) → p (a + i) ≡ q i) → list_any p (range_with_len a n) ≡ some_below q n
unfolding some_below
some_from p q a zero h = refl
some_from p q a (suc n) h =
    let at : a ≡ a + 0 = omega arith in
    let next = λ (i : ℕ). let e : a + 1 + i ≡ a + suc i = omega arith in ap p e ∙ h (suc i) in
    rw (ap p at ∙ h 0, some_from p (λ (i : ℕ). q (suc i)) (a + 1) n next) (sym (some_first q n))

pub some_in_range : (p : ℕ → Bool) (n : ℕ) → list_any p (range_with_len 0 n) ≡ some_below p n
some_in_range p n = some_from p p 0 n (λ i. ap p (zero-add i))
