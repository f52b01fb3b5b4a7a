-- `all_finished` meets its contract. The loop keeps: the answer for the whole mask is that for what is left of it; each turn takes the lowest
-- bit off.
use mathlib.Core.Path.{sym, ap, ◌∙◌}
use Prim.Native.Nat.{ℕ}
use native.Mathlib.Omega.{arith}
use borrow.Author.Rules.{rules}
use Rattle.numbers.proofs.Counts.{ones_without}
use Rattle.ledger.specs.Releasing.{all_finished}
use Rattle.plainsteps.proofs.StepLaws.{finished_none, finished_no, finished_yes, low_place, low_set}
use Rattle.plainsteps.proofs.releasing.all_finished.Goals as goal

pub bounds-finished-p : goal.bounds-finished-p
bounds-finished-p c = low_place c.loop-left.left c.lowest-p.result c.loop-left-test.true c.loop-left.invariant.0 c.lowest-p.ensures

pub returns-then-finished-p : goal.returns-then-finished-p
returns-then-finished-p c =
    let m = c.loop-left.left in
    let p = c.lowest-p.result in
    let some = c.loop-left-test.true in
    let fits = c.loop-left.invariant.0 in
    finished_no c.args.finished.now c.args.j m p (low_place m p some fits c.lowest-p.ensures) (low_set m p some fits c.lowest-p.ensures) c.if-finished-p.true ∙ sym c.loop-left.invariant.1

pub loop-left-smaller : goal.loop-left-smaller
loop-left-smaller c =
    let m = c.loop-left.left in
    let p = c.lowest-p.result in
    let some = c.loop-left-test.true in
    let fits = c.loop-left.invariant.0 in
    let less = ones_without m p (low_set m p some fits c.lowest-p.ensures) (low_place m p some fits c.lowest-p.ensures) in
    rw c.without-left.ensures (omega (arith, less))

pub loop-left-preserved : goal.loop-left-preserved
loop-left-preserved c = (
  search rules,
  c.loop-left.invariant.1 ∙ finished_yes c.args.finished.now c.args.j c.loop-left.left c.lowest-p.result c.if-finished-p.false
      ∙ ap (λ (z : ℕ). all_finished c.args.finished.now z c.args.j) (sym c.without-left.ensures),
)

pub returns : goal.returns
returns c =
    finished_none c.args.finished.now c.args.j ∙ sym (c.loop-left.invariant.1 ∙ ap (λ (m : ℕ). all_finished c.args.finished.now m c.args.j) c.loop-left-test.false)
