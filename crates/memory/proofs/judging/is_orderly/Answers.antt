-- `is_orderly` meets its contract: the mask is 0, or has no bit from own - 1 on.
use native.Mathlib.Omega.{arith}
use Rattle.memory.proofs.MaskNumbers.{zero_orderly, mask_orderly}
use Rattle.memory.proofs.judging.is_orderly.Goals as goal

pub returns-then-mask-eq0 : goal.returns-then-mask-eq0
returns-then-mask-eq0 c = zero_orderly c.args.own c.args.mask c.if-mask-eq0.true

pub returns-else-mask-eq0 : goal.returns-else-mask-eq0
returns-else-mask-eq0 c = mask_orderly c.args.own c.args.mask (omega (arith, c.if-mask-eq0.false)) (omega arith) (omega arith)
