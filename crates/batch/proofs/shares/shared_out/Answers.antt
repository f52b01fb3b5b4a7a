-- `shared_out` meets its contract: at each turn the calls that are still to be made complete what is there.
use Prim.Native.Nat.{◌+◌, ◌-◌}
use native.Mathlib.Omega.{arith}
use lib.ListN.{get_or}
use borrow.Author.Rules.{rules}
use Rattle.rules.specs.Batch.{share_length}
use Rattle.batch.proofs.Sharing.{begun, all_made, counted, in_tables_still, in_buffer_still, next_in_code}
use Rattle.batch.proofs.shares.shared_out.Goals as goal

pub loop-i-init : goal.loop-i-init
loop-i-init c = rw c.no_answer-none.ensures (begun _ _ _ c.requires.lengths_value)

pub overflow_add-end : goal.overflow_add-end
overflow_add-end c =
    search (rules, in_tables_still _ _ _ _ _ _ _ _ c.loop-i.invariant (omega arith) c.requires.in_bounds.1)

pub overflow_add-stop : goal.overflow_add-stop
overflow_add-stop c =
    search (rules, in_buffer_still _ _ _ _ _ _ _ _ c.loop-i.invariant (omega arith) c.requires.in_bounds.1)

pub loop-i-preserved : goal.loop-i-preserved
loop-i-preserved c =
    let lengths = c.args.lengths.now in
    let start = c.loop-i.start in
    let at = c.loop-i.at in
    next_in_code _ _ _ _ _ _ _ _ c.loop-i.invariant (omega arith) c.requires.in_bounds.1 (start + share_length lengths c.args.buffer.now - start)
    (at + get_or lengths c.loop-i.i 0 - at) (omega arith) (omega arith) _ c.phalandrix_report.result c.phalandrix_report.ensures.call

pub returns : goal.returns
returns c =
    let made = all_made _ _ _ _ _ _ _ _ c.loop-i.invariant (omega arith) in
    record { answer = rw (made.1, counted c.args.tables.now c.args.lengths.now c.args.buffer.now); bytes = made.0 }
