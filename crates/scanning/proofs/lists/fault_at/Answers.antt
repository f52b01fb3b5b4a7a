-- `fault_at` meets its contract: at each turn what is at fault stands at p or behind it. Each number takes a byte.
use mathlib.Core.List.{List}
use mathlib.Core.Path.{◌≡◌, refl, sym, ◌∙◌, ap, subst}
use mathlib.Core.Bool.{Bool, false, ◌&&◌, and-false}
use Prim.Native.Nat.{ℕ, suc, ◌<◌}
use native.Mathlib.Omega.{arith}
use lib.ListN.{length, drop, length-drop}
use Rattle.format.specs.Bytes.{comma}
use Rattle.format.specs.Spelling.{next?}
use Rattle.format.specs.Reading.{offending_by, offending}
use Rattle.scanning.proofs.Faults.{rises, took, fault_no_number, fault_here, fault_later}
use Rattle.scanning.proofs.ScannerLaws.{next_in, tail_drop}
use Rattle.scanning.proofs.lists.fault_at.Goals as goal
use Rattle.scanning.proofs.lists.fault_at.Goals.{then-not-rises-via-then-not-rises, then-not-rises-via-else-not-rises+then-not-next_is}

pub loop-v-init : goal.loop-v-init
unfolding offending
loop-v-init c = (suc (length (drop c.args.at c.args.s.now)), omega arith, refl)

pub returns : goal.returns
returns c =
    sym (c.loop-v.invariant.2 ∙ fault_no_number c.args.own c.loop-v.last (drop c.loop-v.p c.args.s.now) c.loop-v.invariant.0 (drop c.in_default.field-0.at c.args.s.now) c.in_default.ensures)

pub overflow_add-p : goal.overflow_add-p
overflow_add-p c =
    let i = next_in comma c.args.s.now c.in-Ok.q (sym c.next_is.ensures ∙ c.if-not-next_is.false) in
    omega arith

pub loop-v-smaller : goal.loop-v-smaller
loop-v-smaller c =
    let i = next_in comma c.args.s.now c.in-Ok.q (sym c.next_is.ensures ∙ c.if-not-next_is.false) in
    omega (arith, took (drop c.loop-v.p c.args.s.now) c.in-Ok.v (drop c.in-Ok.q c.args.s.now) c.in-Ok.ensures, length-drop c.in-Ok.q c.args.s.now, length-drop c.loop-v.p c.args.s.now)

pub loop-v-preserved : goal.loop-v-preserved
loop-v-preserved c =
    let k = sym c.next_is.ensures ∙ c.if-not-next_is.false in
    let r = sym c.rises.ensures ∙ c.if-not-rises.false in
    let (m, l, f) =
    subst (λ (z : List ℕ). (m : ℕ) × (length z < m) × (offending_by c.loop-v.invariant.0 c.args.own c.loop-v.last (drop c.loop-v.p c.args.s.now) ≡ offending_by m c.args.own c.in-Ok.v z))
    (tail_drop c.args.s.now c.in-Ok.q (next_in comma c.args.s.now c.in-Ok.q k))
    (fault_later c.args.own c.loop-v.last (drop c.loop-v.p c.args.s.now) c.loop-v.invariant.0 (omega arith) c.in-Ok.v (drop c.in-Ok.q c.args.s.now) c.in-Ok.ensures c.loop-v.invariant.1 k (rw (r, k))) in
    (m, l, c.loop-v.invariant.2 ∙ f)

pub returns-then-not-rises : goal.returns-then-not-rises
returns-then-not-rises c =
    let a = c.args.own in
    let last = c.loop-v.last in
    let b = drop c.loop-v.p c.args.s.now in
    let n = c.loop-v.invariant.0 in
    let v = c.in-Ok.v in
    let rest = drop c.in-Ok.q c.args.s.now in
    let stop : (rises a last v && next? comma rest ≡ false) → b ≡ offending a (drop c.args.at c.args.s.now) =
    λ t. sym (c.loop-v.invariant.2 ∙ fault_here a last b n (omega arith) v rest c.in-Ok.ensures t) in
    elim c.then-not-rises.branch [
      | then-not-rises-via-then-not-rises w ↦ stop (rw (sym c.rises.ensures ∙ w.if-not-rises.true))
      | then-not-rises-via-else-not-rises+then-not-next_is w ↦
          stop (ap (λ (x : Bool). rises a last v && x) (sym w.next_is.ensures ∙ w.if-not-next_is.true) ∙ and-false (rises a last v))
    ]
