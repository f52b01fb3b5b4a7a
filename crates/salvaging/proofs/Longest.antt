-- How long the text and the list can get. Shown at the end: `text_most` and `list_most`.
use mathlib.Core.Path.{ap}
use mathlib.Core.Bool.{Bool, true, false, not}
use mathlib.Core.List.{List, [], ◌∷◌, ◌++◌}
use Prim.Native.Nat.{ℕ, suc, ◌+◌, ◌*◌, ◌/◌, ◌%◌, ◌≤◌, ◌<◌}
use native.Mathlib.Omega.{arith}
use lib.Dec.{eqb}
use lib.ListN.{length, length-append}
use Rattle.schedule.specs.Limits as Limits
use Rattle.schedule.specs.Lists.{one?}
use Rattle.schedule.proofs.Tests.{by_test, by_lt, one_le_one}
use Rattle.format.specs.Bytes.{line_feed, comma, digit_zero, decimal}
use Rattle.format.proofs.Decimal.{decimal_one, decimal_more}
use Rattle.salvaging.specs.Lines.{Line, begun, lines_of, empty?}
use Rattle.salvaging.specs.Steps.{without_returns, trimmed, unpadded, mended, left_of, salvaged}
use Rattle.salvaging.specs.Fixes.{changed, fix, fix_if, fixes_kept, fixes_of_line, fixes_from, fixes_of}
use Rattle.salvaging.specs.Salvage.{longest_fix, longest_list}
use Rattle.salvaging.proofs.Changed.{returns_shorter, trimmed_shorter, unpadded_shorter}

-- the bytes of the lines, each with an LF
abbrev size : List Line → ℕ
size [] = 0
size (l ∷ ls) = length l.body + 1 + size ls

size_begun : (c : ℕ) (ls : List Line) (n : ℕ) → size ls ≤ n + 1 → size (begun c ls) ≤ suc n + 1
size_begun c [] n h = omega arith
size_begun c (l ∷ ls) n h = omega (arith, h)

size_lines : (s : List ℕ) → size (lines_of s) ≤ length s + 1
unfolding lines_of
size_lines [] = omega arith
size_lines (c ∷ s) =
    let i = size_lines s in
    by_test (eqb c line_feed) (λ f. rw f (omega (arith, i))) (λ f. rw f (size_begun c (lines_of s) (length s) i))

-- each line is given at least a byte of its own, or the end of the text
few_begun : (c : ℕ) (ls : List Line) (n : ℕ) → length ls ≤ n → length (begun c ls) ≤ suc n
few_begun c [] n h = omega arith
few_begun c (l ∷ ls) n h = omega (arith, h)

few_lines : (s : List ℕ) → length (lines_of s) ≤ length s
unfolding lines_of
few_lines [] = omega arith
few_lines (c ∷ s) =
    let i = few_lines s in
    by_test (eqb c line_feed) (λ f. rw f (omega (arith, i))) (λ f. rw f (few_begun c (lines_of s) (length s) i))

mended_most : (b : List ℕ) → length (mended b) ≤ length b
unfolding mended
mended_most b =
    let a = without_returns b in
    let t = trimmed a in
    omega (arith, returns_shorter b, trimmed_shorter a, unpadded_shorter t)

left_most : (ls : List Line) → length (left_of ls) ≤ size ls
unfolding left_of
left_most [] = omega arith
left_most (l ∷ ls) =
    let b = mended l.body in
    let i = left_most ls in
    by_test (empty? b) (λ f. rw f (omega (arith, i)))
    (λ f. rw f (omega (arith, i, length-append b (line_feed ∷ left_of ls), mended_most l.body)))

-- one byte more than the text at most: its last LF
pub text_most : (s : List ℕ) → length (salvaged s) ≤ length s + 1
unfolding salvaged
text_most s = omega (arith, left_most (lines_of s), size_lines s)

-- a line of the list
digits_1 : (n : ℕ) → n < 10 → length (decimal n) ≤ 1
digits_1 n h = omega (arith, ap length (decimal_one n h))

digits_next : (k n : ℕ) → 1 ≤ k → length (decimal (n / 10)) ≤ k → length (decimal n) ≤ k + 1
digits_next k n p h =
    by_lt n 10 (λ small. omega (arith, digits_1 n small))
    (λ large. omega (arith, ap length (decimal_more n large), length-append (decimal (n / 10)) ((digit_zero + n % 10) ∷ []), h))

digits_4 : (n : ℕ) → n < 10000 → length (decimal n) ≤ 4
digits_4 n h =
    let a = n / 10 in
    let b = a / 10 in
    digits_next 3 n (omega arith) (digits_next 2 a (omega arith) (digits_next 1 b (omega arith) (digits_1 (b / 10) (omega arith))))

fix_most : (n k : ℕ) → n < 10000 → k < 10 → length (fix n k) ≤ longest_fix
unfolding fix
fix_most n k h m = rw (decimal_one k m) (omega (arith, length-append (decimal n) (comma ∷ ((digit_zero + k) ∷ (line_feed ∷ []))), digits_4 n h))

fix_if_most : (b : Bool) (n k : ℕ) → n < 10000 → k < 10 → length (fix_if b n k) ≤ longest_fix * one? b
fix_if_most true n k h m = fix_most n k h m
fix_if_most false n k h m = omega arith

-- the lines of the list for a line: of those left with no byte, and of those kept
line_most : (n : ℕ) (l : Line) → n < 10000 → length (fixes_of_line n l) ≤ longest_fix * (length l.body + 1)
unfolding fixes_of_line fixes_kept
line_most n l h =
    let a = without_returns l.body in
    let t = trimmed a in
    let x = fix_if (changed l.body a) n 1 in
    let y = fix_if (changed a t) n 2 in
    let z = fix_if (changed t (unpadded t)) n 4 in
    let u = fix_if (not l.ended) n 5 in
    let m1 = fix_if_most (changed l.body a) n 1 h (omega arith) in
    let m2 = fix_if_most (changed a t) n 2 h (omega arith) in
    by_test (empty? t)
    (λ f. rw f (omega (arith, m1, m2, fix_most n 3 h (omega arith), length-append x (y ++ fix n 3), length-append y (fix n 3), returns_shorter l.body, trimmed_shorter a)))
    (λ f. rw f (omega (
      arith,
      m1,
      m2,
      fix_if_most (changed t (unpadded t)) n 4 h (omega arith),
      fix_if_most (not l.ended) n 5 h (omega arith),
      one_le_one (not l.ended),
      length-append x (y ++ (z ++ u)),
      length-append y (z ++ u),
      length-append z u,
      returns_shorter l.body,
      trimmed_shorter a,
      unpadded_shorter t,
    )))

lines_most : (n : ℕ) (ls : List Line) → n + length ls ≤ 10000 → length (fixes_from n ls) ≤ longest_fix * size ls
unfolding fixes_from
lines_most n [] h = omega arith
lines_most n (l ∷ ls) h =
    omega (arith, length-append (fixes_of_line n l) (fixes_from (suc n) ls), line_most n l (omega arith), lines_most (suc n) ls (omega arith))

pub list_most : (s : List ℕ) → length s ≤ (Limits.table_bytes).to → length (fixes_of s) ≤ longest_list
unfolding fixes_of
list_most s h = omega (arith, lines_most 1 (lines_of s) (omega (arith, few_lines s)), size_lines s)
