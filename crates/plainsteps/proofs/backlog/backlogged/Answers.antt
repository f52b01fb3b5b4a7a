-- `backlogged` meets its contract: the closure tests each server in turn.
use mathlib.Core.Path.{ap, ◌∙◌}
use mathlib.Core.Bool.{Bool}
use Prim.Native.Nat.{ℕ}
use native.Mathlib.Omega.{arith}
use lib.ListN.{get_or}
use Rattle.std.proofs.Common.{rules, tests}
use Rattle.std.proofs.lemmas.Iterator.{YieldsList-from_range}
use Rattle.std.proofs.lemmas.Iterator.Search.{any_from_yields_List}
use Rattle.window.specs.Loops.{some_below}
use Rattle.window.specs.declared.Plan.{Plan}
use Rattle.ledger.specs.declared.Ledger.{Ledger}
use Rattle.ledger.specs.Releasing.{overfull}
use Rattle.plainsteps.proofs.Ranges.{some_in_range}
use Rattle.plainsteps.proofs.backlog.backlogged.Goals as goal

abbrev full : Plan → Ledger → ℕ → Bool
full plan l i = overfull (get_or l.released i 0) (get_or l.complete i 0) (get_or l.finished i 0) (get_or plan.room i 0)

pub returns : goal.returns
returns c =
    let plan = c.args.plan.now in
    let l = c.args.l.now in
    any_from_yields_List (full plan l) _ _ c.any.result c.any.ensures.ran (YieldsList-from_range 0 c.min-n.result c.min-n.result (cc) (omega arith)) (λ x b q k. search (rules, tests))
    ∙ some_in_range (full plan l) c.min-n.result
    ∙ ap (some_below (full plan l)) c.min-n.ensures
