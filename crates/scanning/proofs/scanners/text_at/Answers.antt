-- `text_at` meets its contract: at each turn the text still to be found stands against the bytes from p on.
use Rattle.std.proofs.Common.{◌+◌, drop, sym, ◌∙◌, ap, arith}
use Rattle.std.proofs.lemmas.Result.{err_from_is_err_and}
use Rattle.format.specs.Spelling.{Scan, ◌⟫◌, text}
use Rattle.scanning.proofs.ScannerLaws.{text_step, text_done}
use Rattle.scanning.proofs.scanners.text_at.Goals as goal

pub returns-in_err-p : goal.returns-in_err-p
returns-in_err-p c =
    let t = c.args.t.now in
    let i = c.loop-b.b-index in
    let p = err_from_is_err_and c.from_residual.result c.from_residual.ensures.1 in
    rw (p.1, p.2)
    (sym (c.loop-b.invariant ∙ text_step t (drop c.loop-b.p c.args.s.now) i (omega arith)
    ∙ ap (λ (x : Scan (Unit {0})). x ⟫ (λ u rest. text (drop (i + 1) t) rest)) (sym c.in_err-p.ensures)))

pub loop-b-preserved : goal.loop-b-preserved
loop-b-preserved c =
    let t = c.args.t.now in
    let i = c.loop-b.b-index in
    c.loop-b.invariant ∙ text_step t (drop c.loop-b.p c.args.s.now) i (omega arith)
    ∙ ap (λ (x : Scan (Unit {0})). x ⟫ (λ u rest. text (drop (i + 1) t) rest)) (sym c.in_ok-p.ensures)

pub returns : goal.returns
returns c = sym (c.loop-b.invariant ∙ text_done c.args.t.now (drop c.loop-b.p c.args.s.now) c.loop-b.b-index c.loop-b-test.false)
