-- `number_at` meets its contract: a first digit, which is the whole number where it is 0.
use Rattle.std.proofs.Common.{◌≡◌, true, ℕ, ◌+◌, ◌-◌, drop, get_or, sym, ◌∙◌, ap}
use Rattle.std.proofs.lemmas.Option.{MatchOption-at_none}
use Rattle.format.specs.Bytes.{digit_zero, is_digit}
use Rattle.format.specs.Spelling.{digits}
use Rattle.scanning.specs.Positions.{capped}
use Rattle.scanning.proofs.ScannerLaws.{number_past, number_other, number_zero, number_more}
use Rattle.scanning.proofs.scanners.number_at.Goals as goal

pub returns-in-Some-eq48 : goal.returns-in-Some-eq48
returns-in-Some-eq48 c =
    let s = c.args.s.now in
    let here = c.in-Some-eq48.ensures.lookup.3 in
    let e : get_or s c.args.at 0 ≡ digit_zero = sym (here.1 0) ∙ c.in-Some-eq48.field-0-test in
    sym (ap capped (number_zero s c.args.at here.0 (rw e) e))

pub returns-in-Some : goal.returns-in-Some
returns-in-Some c =
    let s = c.args.s.now in
    let here = c.in-Some.ensures.lookup.3 in
    let e : c.in-Some.c.now ≡ get_or s c.args.at 0 = here.1 0 in
    let d : is_digit (get_or s c.args.at 0) ≡ true = ap is_digit (sym e) ∙ sym c.if-is_ascii_digit.ensures.value in
    c.digits_at.ensures ∙ ap (λ (v : ℕ). capped (digits v (drop (c.args.at + 1) s))) (c.from.ensures ∙ ap (λ (b : ℕ). b - digit_zero) e)
    ∙ sym (ap capped (number_more s c.args.at here.0 d (λ z. c.in-Some.c-test.1 (e ∙ z))))

pub returns-in_default : goal.returns-in_default
returns-in_default c =
    let s = c.args.s.now in
    let here = c.in-Some.ensures.lookup.3 in
    sym (ap capped (number_other s c.args.at here.0 (ap is_digit (sym (here.1 0)) ∙ sym c.if-is_ascii_digit.ensures.value)))

pub returns-in_default-2 : goal.returns-in_default-2
returns-in_default-2 c =
    let s = c.args.s.now in
    sym (ap capped (number_past s c.args.at (MatchOption-at_none _ _ c.in_default.is c.get.ensures.lookup.3)))
