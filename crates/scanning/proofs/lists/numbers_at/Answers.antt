-- `numbers_at` meets its contract: at each turn the numbers from p on are entered into what is known so far. Each number takes a byte.
use mathlib.Core.List.{List}
use mathlib.Core.Path.{refl, sym, ◌∙◌, ap}
use Prim.Native.Nat.{ℕ, ◌+◌}
use native.Mathlib.Omega.{arith}
use lib.ListN.{drop, length-drop}
use Rattle.format.specs.Bytes.{comma}
use Rattle.format.specs.Spelling.{read, numbers}
use Rattle.scanning.specs.Masks.{entered, entries}
use Rattle.scanning.specs.Positions.{map_scan}
use Rattle.scanning.specs.declared.lists.Listing.{Listing}
use Rattle.scanning.proofs.Predecessors.{entries_wrong, entries_more, entries_last, number_took}
use Rattle.scanning.proofs.ScannerLaws.{next_in, tail_drop}
use Rattle.std.proofs.lemmas.Result.{err_from_is_err_and}
use Rattle.scanning.proofs.lists.numbers_at.Goals as goal

pub loop-v-init : goal.loop-v-init
loop-v-init c = refl

pub returns-in_err-v : goal.returns-in_err-v
returns-in_err-v c =
    let p = err_from_is_err_and c.from_residual.result c.from_residual.ensures.1 in
    rw (p.1, p.2)
    (entries_wrong c.args.range c.args.own c.loop-v.l (drop c.loop-v.p c.args.s.now) (drop c.in_err-v.field-0.0.at c.args.s.now) c.in_err-v.ensures
    ∙ sym c.loop-v.invariant)

pub overflow_add-p : goal.overflow_add-p
overflow_add-p c =
    let k = sym c.next_is.ensures ∙ c.if-not-next_is.false in
    let i = next_in comma c.args.s.now c.in_ok-v.q k in
    omega arith

pub loop-v-smaller : goal.loop-v-smaller
loop-v-smaller c =
    let k = sym c.next_is.ensures ∙ c.if-not-next_is.false in
    let i = next_in comma c.args.s.now c.in_ok-v.q k in
    let t = number_took c.args.range c.args.own c.loop-v.l (drop c.loop-v.p c.args.s.now) (omega arith) c.in_ok-v.v (drop c.in_ok-v.q c.args.s.now) c.in_ok-v.ensures in
    omega (arith, length-drop c.in_ok-v.q c.args.s.now, length-drop c.loop-v.p c.args.s.now)

pub loop-v-preserved : goal.loop-v-preserved
loop-v-preserved c =
    let k = sym c.next_is.ensures ∙ c.if-not-next_is.false in
    let i = next_in comma c.args.s.now c.in_ok-v.q k in
    c.loop-v.invariant ∙ entries_more c.args.range c.args.own c.loop-v.l (drop c.loop-v.p c.args.s.now) (omega arith) c.in_ok-v.v (drop c.in_ok-v.q c.args.s.now) c.in_ok-v.ensures k
    ∙ ap (λ (z : List ℕ). map_scan (entries c.args.range c.args.own (entered c.args.range c.args.own c.loop-v.l c.in_ok-v.v)) (numbers z)) (tail_drop c.args.s.now c.in_ok-v.q i)
    ∙ ap (λ (z : Listing). map_scan (entries c.args.range c.args.own z) (numbers (drop (c.in_ok-v.q + 1) c.args.s.now))) (sym c.enter-l.ensures)

pub returns-then-not-next_is : goal.returns-then-not-next_is
returns-then-not-next_is c =
    let k = sym c.next_is.ensures ∙ c.if-not-next_is.true in
    sym (c.loop-v.invariant ∙ entries_last c.args.range c.args.own c.loop-v.l (drop c.loop-v.p c.args.s.now) (omega arith) c.in_ok-v.v (drop c.in_ok-v.q c.args.s.now) c.in_ok-v.ensures k
    ∙ ap (λ (z : Listing). read z (drop c.in_ok-v.q c.args.s.now)) (sym c.enter-l.ensures))
