-- What the lines of a list are made of, and how long they are.
use mathlib.Core.Path.{◌≡◌, refl, sym, ap, ◌∙◌}
use mathlib.Core.Bool.{Bool, true, false}
use mathlib.Core.List.{[], ◌∷◌, ◌++◌, append_assoc}
use Prim.Native.Nat.{ℕ, ◌+◌, ◌<◌}
use native.Mathlib.Omega.{arith}
use lib.ListN.{length, length-append}
use Rattle.format.specs.Bytes.{bytes, comma, line_feed, digit_zero, decimal}
use Rattle.format.proofs.Decimal.{decimal_one}
use Rattle.writing.specs.Line.{pair}
use Rattle.salvaging.specs.Fixes.{fix, fix_if}
use Rattle.mending.specs.declared.fixes.Kinds.{Kinds}
use Rattle.mending.specs.Line.{length_if, fixes_text}

-- a line of the list: `fix=`, and two numbers parted by a comma
pub fix_is : (n k : ℕ) → bytes "fix=" ++ pair n k line_feed ≡ fix n k
unfolding fix
fix_is n k = simp append_assoc

pub fixes_are : (n : ℕ) (k : Kinds)
    → (((fix_if k.returns n 1 ++ fix_if k.blanks n 2) ++ fix_if k.empty n 3) ++ fix_if k.zeros n 4) ++ fix_if k.unended n 5 ≡ fixes_text n k
unfolding fixes_text
fixes_are n k = simp append_assoc

-- the marks of a line and its kind
abbrev marks : ℕ
marks = 7

fix_size : (n k : ℕ) → k < 10 → length (fix n k) ≡ marks + length (decimal n)
unfolding fix
fix_size n k h = rw (decimal_one k h) (let e = length-append (decimal n) (comma ∷ ((digit_zero + k) ∷ (line_feed ∷ []))) in omega (arith, e))

fix_if_size : (b : Bool) (n k : ℕ) → k < 10 → length (fix_if b n k) ≡ length_if b (marks + length (decimal n))
fix_if_size true n k h = fix_size n k h
fix_if_size false n k h = refl

pub fixes_size : (n : ℕ) (k : Kinds) (d a b e f g : ℕ) → d ≡ length (decimal n)
    → a ≡ length_if k.returns (marks + d) → b ≡ length_if k.blanks (marks + d) → e ≡ length_if k.empty (marks + d)
    → f ≡ length_if k.zeros (marks + d) → g ≡ length_if k.unended (marks + d)
    → a + b + e + f + g ≡ length (fixes_text n k)
fixes_size n k d a b e f g same pa pb pe pf pg =
    let x = fix_if k.returns n 1 in
    let y = x ++ fix_if k.blanks n 2 in
    let z = y ++ fix_if k.empty n 3 in
    let u = z ++ fix_if k.zeros n 4 in
    let at : (w : Bool) (i : ℕ) → i < 10 → length (fix_if w n i) ≡ length_if w (marks + d) =
    λ w i h. fix_if_size w n i h ∙ ap (λ (m : ℕ). length_if w (marks + m)) (sym same) in
    omega (
      arith,
      pa,
      pb,
      pe,
      pf,
      pg,
      at k.returns 1 (omega arith),
      at k.blanks 2 (omega arith),
      at k.empty 3 (omega arith),
      at k.zeros 4 (omega arith),
      at k.unended 5 (omega arith),
      length-append x (fix_if k.blanks n 2),
      length-append y (fix_if k.empty n 3),
      length-append z (fix_if k.zeros n 4),
      length-append u (fix_if k.unended n 5),
      ap length (fixes_are n k),
    )
