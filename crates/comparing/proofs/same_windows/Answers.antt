-- `same_windows` meets its contract: each window is the same.
use mathlib.Core.Path.{refl, ◌∙◌}
use Prim.Native.Nat.{ℕ}
use native.Mathlib.Omega.{arith}
use lib.ListN.{get_or}
use borrow.Author.Rules.{rules}
use Rattle.std.proofs.Common.{tests}
use Rattle.std.proofs.lemmas.Iterator.{YieldsList-from_range}
use Rattle.std.proofs.lemmas.Iterator.Search.{all_from_yields_List}
use Rattle.window.specs.Entries.{no_server}
use Rattle.window.specs.Comparing.{same_window}
use Rattle.window.proofs.Chains.{all_range}
use Rattle.comparing.proofs.same_windows.Goals as goal

pub returns : goal.returns
returns c =
    let a = c.args in
    let test = λ (i : ℕ). same_window (get_or a.a.now i no_server) (get_or a.b.now i no_server) (get_or a.count.now i 0) in
    all_from_yields_List test _ _ c.all.result c.all.ensures.ran (YieldsList-from_range 0 a.n a.n refl (omega arith)) (λ x b q k. search (rules, tests)) ∙ all_range test a.n
