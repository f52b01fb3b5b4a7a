-- `same_slots` meets its contract: two slices are the same where each entry is.
use mathlib.Core.Path.{◌≡◌, ap, ◌∙◌}
use Prim.Native.Nat.{ℕ, ◌+◌, min}
use native.Mathlib.Omega.{arith}
use lib.Dec.{eqb}
use lib.ListN.{get_or}
use Rattle.window.specs.Entries.{window}
use Rattle.window.specs.Loops.{all_below}
use Rattle.window.proofs.Chains.{middle_same}
use Rattle.comparing.proofs.same_slots.Goals as goal

pub returns : goal.returns
returns c =
    let a = c.args in
    let n : c.min-most.result ≡ min a.n window = omega (arith, c.min-most.ensures, c.from.ensures) in
    c.eq.ensures ∙ middle_same eqb 0 a.base c.min-most.result a.left.now a.kept.now (omega arith) (omega arith)
    ∙ ap (all_below (λ (d : ℕ). eqb (get_or a.left.now (a.base + d) 0) (get_or a.kept.now (a.base + d) 0))) n
