-- `shift` meets its contract: one move of the slots behind the oldest.
use native.Mathlib.Omega.{arith}
use Rattle.finishing.proofs.FinishLaws.{shifted_is}
use Rattle.finishing.proofs.shift.Goals as goal

pub returns : goal.returns
returns c = let e = c.copy_within.ensures in shifted_is c.args.s.now _ (omega arith) e.len e.by_index.0 e.by_index.2
