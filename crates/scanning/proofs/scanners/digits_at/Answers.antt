-- `digits_at` meets its contract: a number that is kept at far stands for the one that is not.
use Rattle.std.proofs.Common.{ℕ, ◌+◌, List, drop, sym, ◌∙◌, ap, arith}
use Rattle.format.specs.Spelling.{read, digits}
use Rattle.scanning.specs.Positions.{capped}
use Rattle.scanning.proofs.ScannerLaws.{past, more_digits, no_digit, digits_past}
use Rattle.scanning.proofs.scanners.digits_at.Goals as goal

pub returns-then-not-is_ascii_digit : goal.returns-then-not-is_ascii_digit
returns-then-not-is_ascii_digit c =
    let l = c.loop-p in
    sym (l.invariant.1 ∙ no_digit l.v c.args.s.now l.p l.invariant.0 (omega arith) (sym c.if-not-is_ascii_digit.ensures.value))

pub loop-p-preserved : goal.loop-p-preserved
loop-p-preserved c =
    let l = c.loop-p in (
      omega (arith, c.grown-v.ensures),
      l.invariant.1 ∙ more_digits l.v c.args.s.now l.p (omega arith) (sym c.if-not-is_ascii_digit.ensures.value)
          ∙ ap (λ (x : ℕ). capped (digits x (drop (l.p + 1) c.args.s.now))) (sym c.grown-v.ensures),
    )

pub returns : goal.returns
returns c =
    let s = c.args.s.now in
    let l = c.loop-p in
    ap (λ (r : List ℕ). read l.v r) (past s _ (omega arith) ∙ sym (past s l.p (omega arith)))
    ∙ sym (l.invariant.1 ∙ digits_past l.v s l.p l.invariant.0 (omega arith))
