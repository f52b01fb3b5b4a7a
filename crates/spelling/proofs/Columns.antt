-- The column of refusal 2 on a line is one past the longest beginning of the text there that a well-spelled line shares; and a line that passes its
-- spelling is a well-spelled one.
use mathlib.Core.Path.{◌≡◌, refl, sym}
use mathlib.Core.Bool.{Bool}
use mathlib.Core.List.{List}
use Prim.Native.Nat.{ℕ, suc, ◌-◌}
use native.Mathlib.Omega.{arith}
use lib.ListN.{length}
use Rattle.schedule.specs.WellFormed.{within, orderly}
use Rattle.schedule.proofs.Tests.{by_test}
use Rattle.format.specs.declared.Refusal.{Refusal}
use Rattle.format.specs.declared.Refusal.TheVariants.{Misspelled, OutsideLimits, AgainstPredecessorRules}
use Rattle.format.specs.Bytes.{decimal}
use Rattle.format.specs.Keys as Keys
use Rattle.format.specs.Keys.{key_at}
use Rattle.format.specs.Spelling.{Scan, read, wrong, number, list, line}
use Rattle.format.specs.Reading.{Place, column_at, Outcome, refused, done, judged, value_column, value_in, number_line, offending, after_line}
use Rattle.spelling.specs.WellSpelled.{written_list, Longest}
use Rattle.spelling.proofs.LongestBeginning.{number_line_wrong, list_line_wrong}

-- line and column of refusal 2 at place p, where `name` is due
module _ {A : Type 0} where
  abbrev pub AtFault : (A → List ℕ) → List ℕ → Place → ℕ → ℕ → Type 0
  AtFault written name p l c = (l ≡ p.line) × ((n : ℕ) × (c ≡ suc n) × Longest written name p.bytes n)

-- a value that is not fair is refused as another number
module _ {A : Type 0} (unfair : ℕ → ℕ → Refusal) (other : (l c m d : ℕ) → unfair l c ≡ Misspelled m d → ⊥) (fault : ℕ) (fair : A → Bool) (p : Place) (l c : ℕ) where
  two_is_wrong : (x : Scan A) → judged unfair fault fair p x ≡ refused (Misspelled l c)
      → (rest : List ℕ) × (x ≡ wrong rest) × (l ≡ p.line) × (c ≡ suc (length p.bytes - length rest))
  two_is_wrong (wrong rest) e = (rest, refl, (cc), (cc))
  two_is_wrong (read v rest) e =
      absurd (by_test (fair v)
      (λ f. let g : ◌≡◌ {A = Outcome A} (done v (record { line = suc p.line; bytes = rest })) (refused (Misspelled l c)) = rw f at e in let z : ◌≡◌ {A = ℕ} 0 1 = cc in let x : ⊥ = omega arith in x)
      (λ f. let g : ◌≡◌ {A = Outcome A} (refused (unfair p.line fault)) (refused (Misspelled l c)) = rw f at e in other p.line fault l c (let h : unfair p.line fault ≡ Misspelled l c = cc in h)))

pub number_column : (k : ℕ) (p : Place) (l c : ℕ) → number_line k p ≡ refused (Misspelled l c) → AtFault decimal (key_at k).name p l c
unfolding number_line
number_column k p l c e =
    let (rest, w, a, b) = two_is_wrong (λ l c. OutsideLimits l c) differ (value_column k) (within (key_at k).range) p l c (line (key_at k).name number p.bytes) e in
    (a, (length p.bytes - length rest, b, number_line_wrong (key_at k).name p.bytes rest w))
  where
    differ : (l c m d : ℕ) → OutsideLimits l c ≡ Misspelled m d → ⊥
    differ l c m d g = let z : ◌≡◌ {A = ℕ} 0 1 = cc in omega arith

pub list_column : (own : ℕ) (p : Place) (l c : ℕ) → after_line own p ≡ refused (Misspelled l c) → AtFault written_list (key_at Keys.after).name p l c
unfolding after_line
list_column own p l c e =
    let (rest, w, a, b) =
    two_is_wrong (λ l c. AgainstPredecessorRules l c) differ (column_at p.bytes (offending own (value_in Keys.after p.bytes))) (orderly own) p l c (line (key_at Keys.after).name list p.bytes) e in
    (a, (length p.bytes - length rest, b, list_line_wrong (key_at Keys.after).name p.bytes rest w))
  where
    differ : (l c m d : ℕ) → AgainstPredecessorRules l c ≡ Misspelled m d → ⊥
    differ l c m d g = let z : ◌≡◌ {A = ℕ} 0 1 = cc in omega arith
