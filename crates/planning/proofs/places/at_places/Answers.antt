-- `at_places` meets its contract. The loop's invariant: of the mask's bits, those of `placed` are at their places and those of `rest` are left.
-- The measure is how many are left.
use mathlib.Core.Path.{◌≡◌, ap, ◌∙◌}
use mathlib.Core.Bool.{true}
use Prim.Native.Nat.{◌+◌, ◌<◌}
use native.Mathlib.Omega.{arith}
use lib.Pow.{pow_pos}
use Rattle.numbers.specs.Masks.{width, bit, without, ones, lowest}
use Rattle.numbers.proofs.Counts.{ones_without}
use Rattle.numbers.proofs.MaskLaws.{no_bit, lowest_below, lowest_set}
use Rattle.planning.proofs.PlaceLaws.{with_fits, without_fits, places_none, one_placed, all_placed}
use Rattle.planning.proofs.places.at_places.Goals as goal

pub returns-then-first-ge-ALL_NODES_TO : goal.returns-then-first-ge-ALL_NODES_TO
returns-then-first-ge-ALL_NODES_TO c = places_none c.args.mask c.args.first c.if-first-ge-ALL_NODES_TO.true

pub loop-rest-init : goal.loop-rest-init
loop-rest-init c = (pow_pos width, c.ranges.mask.fits, λ p h. rw (no_bit p))

pub overflow_add-first : goal.overflow_add-first
overflow_add-first c = omega (arith, c.lowest-q.ensures, (let it : lowest c.loop-rest.rest < width = lowest_below c.loop-rest.rest c.loop-rest-test.true c.loop-rest.invariant.1 in it))

pub loop-rest-smaller : goal.loop-rest-smaller
loop-rest-smaller c =
    let rest = c.loop-rest.rest in
    let q = lowest rest in
    let e : c.without-rest.result ≡ without rest q = c.without-rest.ensures ∙ ap (without rest) c.lowest-q.ensures in
    omega (arith, ap ones e, ones_without rest q (lowest_set rest ((let it : lowest c.loop-rest.rest < width = lowest_below c.loop-rest.rest c.loop-rest-test.true c.loop-rest.invariant.1 in it))) ((let it : lowest c.loop-rest.rest < width = lowest_below c.loop-rest.rest c.loop-rest-test.true c.loop-rest.invariant.1 in it)))

pub loop-rest-preserved : goal.loop-rest-preserved
loop-rest-preserved c =
    let i = c.loop-rest.invariant in
    let placed = c.loop-rest.placed in
    let rest = c.loop-rest.rest in
    let q = c.lowest-q.result in
    let there : bit rest q ≡ true = ap (bit rest) c.lowest-q.ensures ∙ lowest_set rest ((let it : lowest c.loop-rest.rest < width = lowest_below c.loop-rest.rest c.loop-rest-test.true c.loop-rest.invariant.1 in it)) in (
      rw c.with-placed.ensures (with_fits placed (c.args.first + q) i.0),
      rw c.without-rest.ensures (without_fits rest q i.1 there),
      rw (c.with-placed.ensures, c.without-rest.ensures) (one_placed c.args.mask c.args.first placed rest q there i.2),
    )

pub returns : goal.returns
returns c =
    let i = c.loop-rest.invariant in
    let e : c.loop-rest.rest ≡ 0 = omega arith in
    all_placed c.args.mask c.args.first c.loop-rest.placed i.0 (rw e at i.2)
