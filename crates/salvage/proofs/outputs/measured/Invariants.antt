use Rattle.salvage.proofs.Measuring.{Counted}
use Rattle.salvage.proofs.outputs.measured.Given as goal

abbrev pub invariant-loop-c : goal.invariant-loop-c
invariant-loop-c l = Counted l.bytes l.line l.n l.text l.list l.c-index
