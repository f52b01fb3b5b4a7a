-- `put_tables` meets its contract: at each turn the texts of the tables so far stand in the buffer.
use mathlib.Core.Path.{◌≡◌, ◌∙◌}
use Prim.Native.Nat.{◌+◌, ◌-◌, ◌*◌}
use native.Mathlib.Omega.{arith}
use lib.ListN.{length}
use borrow.Author.Rules.{rules}
use Rattle.printing.specs.Batches.{slot_bytes}
use Rattle.printing.proofs.Batches.{begun, put_within, next_room, put_next}
use Rattle.printing.proofs.batching.put_tables.Goals as goal

pub loop-i-init : goal.loop-i-init
loop-i-init c = begun _ _ _ c.requires.longest_batch_in_bounds

pub slice_bounds-put_numbered-count-in-loop-i : goal.slice_bounds-put_numbered-count-in-loop-i
slice_bounds-put_numbered-count-in-loop-i c = put_within _ _ c.loop-i.invariant

pub put_numbered-at-requires : goal.put_numbered-at-requires
put_numbered-at-requires c =
    next_room _ _ c.loop-i.invariant (omega (arith, c.requires.lengths_len_bound))

pub overflow_add-at : goal.overflow_add-at
overflow_add-at c =
    search (rules, c.loop-i.invariant.short, c.loop-i.invariant.few, c.put_numbered-at.ensures.upper_bound)

pub loop-i-preserved : goal.loop-i-preserved
loop-i-preserved c =
    let start = c.loop-i.i * slot_bytes in
    let k : start + c.min.result - start ≡ c.min.result = omega arith in
    put_next _ _ c.loop-i.invariant (omega (arith, c.requires.lengths_len_bound)) (start + c.min.result - start) (k ∙ c.min.ensures)
    c.put_numbered-at.ensures.written c.put_numbered-at.ensures.upper_bound

pub returns : goal.returns
returns c =
    let e : c.loop-i.i ≡ length c.args.lengths.now = omega arith in
    record { written = rw e at c.loop-i.invariant.written; upper_bound = put_within _ _ c.loop-i.invariant }
