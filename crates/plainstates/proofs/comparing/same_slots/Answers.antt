-- `same_slots` meets its contract: the closure compares each place in turn.
use mathlib.Core.Path.{◌∙◌}
use mathlib.Core.Bool.{Bool}
use mathlib.Core.List.{List}
use Prim.Native.Nat.{ℕ}
use native.Mathlib.Omega.{arith}
use lib.ListN.{get_or}
use Rattle.std.proofs.Common.{rules, tests}
use Rattle.std.proofs.lemmas.Iterator.{YieldsList-from_range}
use Rattle.std.proofs.lemmas.Iterator.Search.{all_from_yields_List}
use Rattle.ledger.specs.Forming.{same_pending}
use Rattle.window.proofs.Chains.{all_range}
use Rattle.plainstates.proofs.comparing.same_slots.Goals as goal

abbrev same_at : (x y pending : List ℕ) → ℕ → Bool
same_at x y pending i = same_pending x y i (get_or pending i 0)

pub returns : goal.returns
returns c =
    let x = c.args.x.now in
    let y = c.args.y.now in
    let pending = c.args.pending.now in
    all_from_yields_List (same_at x y pending) _ _ c.all.result c.all.ensures.ran (YieldsList-from_range 0 c.args.n c.args.n (cc) (omega arith)) (λ i b q k. search (rules, tests))
    ∙ all_range (same_at x y pending) c.args.n
