-- `same_pending` meets its contract: the entries of place i are one part of each array.
use mathlib.Core.Path.{◌∙◌}
use Prim.Native.Nat.{◌*◌}
use native.Mathlib.Omega.{arith}
use lib.Dec.{eqb}
use Rattle.window.proofs.Chains.{middle_same}
use Rattle.ledger.specs.Entries.{room}
use Rattle.plainstates.proofs.comparing.same_pending.Goals as goal

pub returns : goal.returns
returns c =
    rw (← c.min.ensures)
    (c.eq.ensures
    ∙ middle_same eqb 0 (c.args.i * room) c.min.result c.args.x.now c.args.y.now (omega (arith, c.min.ensures, c.told-x)) (omega (arith, c.min.ensures, c.told-y)))
