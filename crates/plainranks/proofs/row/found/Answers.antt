-- `found` meets its contract. The loop keeps: no server job of the places from there on has the rank.
use mathlib.Core.Path.{◌∙◌}
use Prim.Native.Nat.{◌-◌}
use native.Mathlib.Omega.{arith}
use Rattle.window.specs.Entries.{nodes_of}
use Rattle.plainranks.proofs.RankLaws.{place_yes, place_no, place_end}
use Rattle.plainranks.proofs.row.found.Goals as goal

pub returns-in-Some-clause-is : goal.returns-in-Some-clause-is
returns-in-Some-clause-is c =
    let plan = c.args.plan.now in
    let o = c.args.offsets.now in
    let l = c.args.l.now in
    place_yes o plan.period plan.level l.complete l.released (nodes_of plan) c.args.r (c.loop-place.place - 1) c.loop-place.place (omega arith) c.found_in.ensures c.in-Some.number c.in-Some.is ∙ c.loop-place.invariant

pub loop-place-preserved : goal.loop-place-preserved
loop-place-preserved c =
    let plan = c.args.plan.now in
    let o = c.args.offsets.now in
    let l = c.args.l.now in
    place_no o plan.period plan.level l.complete l.released (nodes_of plan) c.args.r (c.loop-place.place - 1) c.loop-place.place (omega arith) c.found_in.ensures c.in_default.is ∙ c.loop-place.invariant

pub returns-clause-is : goal.returns-clause-is
returns-clause-is c =
    let plan = c.args.plan.now in
    let o = c.args.offsets.now in
    let l = c.args.l.now in
    place_end o plan.period plan.level l.complete l.released (nodes_of plan) c.args.r c.loop-place.place c.loop-place-test.false ∙ c.loop-place.invariant
