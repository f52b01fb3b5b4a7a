-- `put_bytes` meets its contract. The loop's invariant: the first `i` bytes of the text are written.
use Rattle.std.proofs.Common.{ℕ, ◌+◌, ◌<◌, ◌≡◌, length, take, get_or, sym, ◌∙◌, ap, arith}
use native.Mathlib.Numerals.{add-one}
use lib.Seq.{take-suc, take_all, length-take-le}
use Rattle.writing.proofs.Writing.{nothing, named, then_byte}
use Rattle.writing.proofs.line.put_bytes.Goals as goal

pub loop-i-init : goal.loop-i-init
loop-i-init c = nothing c.args.part.now

pub loop-i-preserved : goal.loop-i-preserved
loop-i-preserved c =
    let text = c.args.text.now in
    let l = c.loop-i in
    named (sym (ap (λ (k : ℕ). take k text) (add-one l.i) ∙ take-suc text l.i 0 c.loop-i-test.true))
    (then_byte l.invariant (get_or text l.i 0) (omega (arith, length-take-le l.i text c.loop-i.auto.i-end, c.loop-i-test.true, c.requires)))

pub returns : goal.returns
returns c =
    let l = c.loop-i in
    let e : l.i ≡ length c.args.text.now = omega (arith, c.loop-i-test.false, l.auto.i-end) in
    rw (← e) (named (take_all l.i c.args.text.now c.loop-i-test.false) l.invariant)
