-- `all_fewer` meets its contract. The loop keeps: the answer for the whole mask is that for what is left of it, whose ones are as many as
-- turns are left; each turn takes the lowest off.
use mathlib.Core.Path.{refl, sym, ap, ◌∙◌}
use Prim.Native.Nat.{ℕ, ◌<◌}
use native.Mathlib.Omega.{arith}
use borrow.Author.Rules.{rules}
use Rattle.numbers.proofs.Counts.{ones_without, some_set, none_set}
use Rattle.window.specs.Releasing.{all_fewer}
use Rattle.releasing.proofs.ReleaseLaws.{fewer_none, fewer_no, fewer_yes, low_place, low_set}
use Rattle.releasing.proofs.due.all_fewer.Goals as goal

pub loop-turn-init : goal.loop-turn-init
loop-turn-init c = (search rules, omega arith, refl)

pub bounds-unfinished-p : goal.bounds-unfinished-p
bounds-unfinished-p c =
    let l = c.loop-turn in
    let some : 0 < l.rest = let set = some_set l.rest (omega (arith, l.invariant.1)) in omega arith in
    low_place l.rest c.lowest-p.result some l.invariant.0 c.lowest-p.ensures

pub returns-then-unlinked-unfinished : goal.returns-then-unlinked-unfinished
returns-then-unlinked-unfinished c =
    let l = c.loop-turn in
    let a = c.args in
    let p = c.lowest-p.result in
    let some : 0 < l.rest = let set = some_set l.rest (omega (arith, l.invariant.1)) in omega arith in
    fewer_no a.unfinished.now a.unlinked l.rest p (low_place l.rest p some l.invariant.0 c.lowest-p.ensures)
    (low_set l.rest p some l.invariant.0 c.lowest-p.ensures) c.if-unlinked-unfinished.true ∙ sym l.invariant.2

pub loop-turn-preserved : goal.loop-turn-preserved
loop-turn-preserved c =
    let l = c.loop-turn in
    let a = c.args in
    let m = l.rest in
    let p = c.lowest-p.result in
    let some : 0 < m = let set = some_set m (omega (arith, l.invariant.1)) in omega arith in
    let less = ones_without m p (low_set m p some l.invariant.0 c.lowest-p.ensures) (low_place m p some l.invariant.0 c.lowest-p.ensures) in (
      c.without-rest.type_inv,
      rw c.without-rest.ensures (omega (arith, l.invariant.1, less)),
      l.invariant.2 ∙ fewer_yes a.unfinished.now a.unlinked m p c.if-unlinked-unfinished.false
          ∙ ap (λ (z : ℕ). all_fewer a.unfinished.now z a.unlinked) (sym c.without-rest.ensures),
    )

pub returns : goal.returns
returns c =
    let l = c.loop-turn in
    let a = c.args in
    let none = none_set l.rest l.invariant.0 (omega (arith, l.invariant.1)) in
    fewer_none a.unfinished.now a.unlinked ∙ sym (l.invariant.2 ∙ ap (λ (m : ℕ). all_fewer a.unfinished.now m a.unlinked) none)
