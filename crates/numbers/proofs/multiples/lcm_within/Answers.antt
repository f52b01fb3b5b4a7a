-- `lcm_within` meets its contract: the product fits 64 bits.
use mathlib.Core.Path.{◌≡◌, sym, ◌∙◌}
use Prim.Native.Nat.{◌*◌, ◌/◌}
use native.Mathlib.Nat.{div-zero, zero-mul}
use native.Mathlib.Omega.{arith}
use borrow.Author.Tests.{le-leb, lt-leb}
use Rattle.schedule.specs.Table as Rules
use Rattle.numbers.proofs.multiples.lcm_within.Goals as goal

pub returns-then-g-eq0 : goal.returns-then-g-eq0
unfolding Rules.lcm
returns-then-g-eq0 c =
    let a = c.args in
    let z : Rules.gcd a.a a.b ≡ 0 = sym c.gcd-g.ensures ∙ c.if-g-eq0.true in
    rw (z, div-zero a.a, zero-mul a.b, le-leb 0 a.most (omega arith))

pub returns-then-m-most : goal.returns-then-m-most
unfolding Rules.lcm
returns-then-m-most c =
    let a = c.args in
    rw (← c.gcd-g.ensures, le-leb (a.a / c.gcd-g.result * a.b) a.most c.if-m-most.true)

pub returns-else-m-most : goal.returns-else-m-most
unfolding Rules.lcm
returns-else-m-most c =
    let a = c.args in
    rw (← c.gcd-g.ensures, lt-leb (a.a / c.gcd-g.result * a.b) a.most c.if-m-most.false)
