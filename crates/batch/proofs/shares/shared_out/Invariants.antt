use Rattle.batch.proofs.Sharing.{Underway}
use Rattle.batch.proofs.shares.shared_out.Given as goal

abbrev pub invariant-loop-i : goal.invariant-loop-i
invariant-loop-i l = Underway l.tables l.lengths l.initial.buffer l.buffer l.answers l.at l.start l.i
