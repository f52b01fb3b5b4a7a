-- `put_batch` meets its contract: what stands in the slots is enough.
use Rattle.printing.proofs.Batches.{held_tables}
use Rattle.printing.proofs.batching.put_batch.Goals as goal

pub returns : goal.returns
returns c =
    record { by_index = λ input e holds. held_tables _ _ input holds e c.put_tables.ensures.written; upper_bound = c.put_tables.ensures.upper_bound }
