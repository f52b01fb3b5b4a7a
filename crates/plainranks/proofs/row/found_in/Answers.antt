-- `found_in` meets its contract. The loop keeps: none of the ready server jobs after k has the rank.
use mathlib.Core.Path.{◌∙◌}
use Prim.Native.Nat.{◌-◌}
use native.Mathlib.Omega.{arith}
use Rattle.window.specs.Entries.{nodes_of}
use Rattle.plainranks.proofs.RankLaws.{found_yes, found_no, found_end}
use Rattle.plainranks.proofs.row.found_in.Goals as goal

pub loop-k-init : goal.loop-k-init
loop-k-init c = rw c.last_ready-k.ensures

pub returns-then-rank-r : goal.returns-then-rank-r
returns-then-rank-r c =
    let plan = c.args.plan.now in
    let o = c.args.offsets.now in
    let l = c.args.l.now in
    found_yes o plan.period plan.level l.complete l.released (nodes_of plan) c.args.i c.args.r (c.loop-k.k - 1) c.loop-k.k (omega arith) (omega arith) c.rank.ensures c.if-rank-r.true ∙ c.loop-k.invariant

pub loop-k-preserved : goal.loop-k-preserved
loop-k-preserved c =
    let plan = c.args.plan.now in
    let o = c.args.offsets.now in
    let l = c.args.l.now in
    found_no o plan.period plan.level l.complete l.released (nodes_of plan) c.args.i c.args.r (c.loop-k.k - 1) c.loop-k.k (omega arith) (omega arith) c.rank.ensures c.if-rank-r.false ∙ c.loop-k.invariant

pub returns : goal.returns
returns c =
    let plan = c.args.plan.now in
    let o = c.args.offsets.now in
    let l = c.args.l.now in
    found_end o plan.period plan.level l.complete l.released (nodes_of plan) c.args.i c.args.r c.loop-k.k c.loop-k-test.false ∙ c.loop-k.invariant
