use Rattle.salvage.proofs.Putting.{Put}
use Rattle.salvage.proofs.outputs.put_both.Given as goal

abbrev pub invariant-loop-c : goal.invariant-loop-c
invariant-loop-c l = Put l.bytes l.initial.text l.initial.list l.text l.list l.line l.n l.text_at l.list_at l.c-index
