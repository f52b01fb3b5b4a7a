use Rattle.printing.proofs.Batches.{Put}
use Rattle.printing.proofs.batching.put_tables.Given as goal

abbrev pub invariant-loop-i : goal.invariant-loop-i
invariant-loop-i l = Put l.lengths l.room l.initial.text l.text l.at l.i
