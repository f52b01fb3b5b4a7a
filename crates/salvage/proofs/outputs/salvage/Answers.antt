-- `salvage` meets its contract: refusals 1 and 10, or both outputs written.
use native.Mathlib.Omega.{arith}
use Rattle.salvage.proofs.Calls.{given_too_long, left_too_long, short_text, short_list, both_written}
use Rattle.salvage.proofs.outputs.salvage.Goals as goal

pub returns-then-bytes : goal.returns-then-bytes
returns-then-bytes c = given_too_long _ _ _ c.if-bytes.true

pub returns-then-n : goal.returns-then-n
returns-then-n c =
    left_too_long _ _ _ c.if-bytes.false (omega (arith, c.measured-n.ensures.text, c.if-n.true))

pub returns-then-text-n : goal.returns-then-text-n
returns-then-text-n c =
    short_text _ _ _ c.if-bytes.false (omega (arith, c.measured-n.ensures.text, c.if-n.false)) (omega (arith, c.measured-n.ensures.text, c.if-text-n.true))

pub returns-then-list-n : goal.returns-then-list-n
returns-then-list-n c =
    short_list _ _ _ c.if-bytes.false (omega (arith, c.measured-n.ensures.text, c.if-n.false)) (omega (arith, c.measured-n.ensures.text, c.if-text-n.false))
    (omega (arith, c.measured-n.ensures.list, c.if-list-n.true))

pub returns : goal.returns
returns c =
    both_written _ _ _ c.if-bytes.false (omega (arith, c.measured-n.ensures.text, c.if-n.false)) (omega (arith, c.measured-n.ensures.text, c.if-text-n.false))
    (omega (arith, c.measured-n.ensures.list, c.if-list-n.false)) c.measured-n.ensures.text c.measured-n.ensures.list c.put_both.ensures.text c.put_both.ensures.list
