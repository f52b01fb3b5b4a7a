-- What is spelled byte by byte is document 01's number and nothing after it.
use mathlib.Core.Path.{◌≡◌, refl, ap, ◌∙◌}
use mathlib.Core.Bool.{true}
use mathlib.Core.List.{List, [], ◌∷◌}
use Prim.Native.Nat.{ℕ, ◌+◌, ◌*◌}
use native.Mathlib.Omega.{arith}
use lib.Dec.{eqb}
use Rattle.format.specs.Bytes.{digit_zero, is_digit, value_of}
use Rattle.format.specs.Spelling.{read, digits, number}
use Rattle.schedule.proofs.Tests.{by_test}
use Rattle.scanning.specs.Positions.{kept, capped}
use Rattle.scanning.proofs.ScannerLaws.{digit_value}
use Rattle.std.specs.Prelude.{Err}
use Rattle.asking.specs.declared.faults.Fault.TheVariants.{Misspelled}
use Rattle.asking.specs.declared.instants.Spelled.{Spelled}
use Rattle.asking.specs.Instants.{instant_by, instant_of, spelled_on, spelled_by, instant_in}

-- once wrong, always wrong
wrong_stays : (s : List ℕ) → instant_in (spelled_by Spelled.Wrong s) ≡ Err Misspelled
wrong_stays [] = refl
wrong_stays (c ∷ s) = wrong_stays s

zero_alone : (s : List ℕ) → instant_in (spelled_by Spelled.Zero s) ≡ instant_by (capped (read 0 s))
zero_alone [] = refl
zero_alone (c ∷ s) = wrong_stays s

digits_spelled : (v : ℕ) (s : List ℕ) → instant_in (spelled_by (Spelled.Number (kept v)) s) ≡ instant_by (capped (digits v s))
unfolding digits
digits_spelled v [] = refl
digits_spelled v (c ∷ s) = by_test (is_digit c) (λ e. more e (digits_spelled (v * 10 + value_of c) s)) (λ e. rw e (wrong_stays s))
  where
    more : is_digit c ≡ true → instant_in (spelled_by (Spelled.Number (kept (v * 10 + value_of c))) s) ≡ instant_by (capped (digits (v * 10 + value_of c) s))
        → instant_in (spelled_by (spelled_on (Spelled.Number (kept v)) c) s) ≡ instant_by (capped (digits v (c ∷ s)))
    more e p =
        let m : kept (kept v * 10 + value_of c) ≡ kept (v * 10 + value_of c) = omega arith in
        rw (e, m) p

pub instant_spelled : (s : List ℕ) → instant_in (spelled_by Spelled.Nothing s) ≡ instant_of s
unfolding number
instant_spelled [] = refl
instant_spelled (c ∷ s) =
    by_test (is_digit c)
    (λ e. by_test (eqb c digit_zero)
    (λ z. rw (e, z) (zero_alone s))
    (λ z. let m : value_of c ≡ kept (value_of c) = omega (arith, digit_value c e) in
    rw (e, z) (ap (λ (v : ℕ). instant_in (spelled_by (Spelled.Number v) s)) m ∙ digits_spelled (value_of c) s)))
    (λ e. rw e (wrong_stays s))
