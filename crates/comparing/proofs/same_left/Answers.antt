-- `same_left` meets its contract: the budgets left of each server are the same.
use mathlib.Core.Path.{refl, ◌∙◌}
use Prim.Native.Nat.{ℕ, ◌*◌}
use native.Mathlib.Omega.{arith}
use lib.ListN.{get_or}
use borrow.Author.Rules.{rules}
use Rattle.std.proofs.Common.{tests}
use Rattle.std.proofs.lemmas.Iterator.{YieldsList-from_range}
use Rattle.std.proofs.lemmas.Iterator.Search.{all_from_yields_List}
use Rattle.window.specs.Entries.{window}
use Rattle.window.specs.Comparing.{same_slots}
use Rattle.window.proofs.Chains.{all_range}
use Rattle.comparing.proofs.same_left.Goals as goal

pub returns : goal.returns
returns c =
    let a = c.args in
    let test = λ (i : ℕ). same_slots a.left.now a.kept.now (i * window) (get_or a.count.now i 0) in
    all_from_yields_List test _ _ c.all.result c.all.ensures.ran (YieldsList-from_range 0 a.n a.n refl (omega arith)) (λ x b q k. search (rules, tests)) ∙ all_range test a.n
