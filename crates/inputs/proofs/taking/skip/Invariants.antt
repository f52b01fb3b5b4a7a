-- The bytes left fall.
use Rattle.inputs.proofs.taking.skip.Given as goal

abbrev pub decreases-loop-left : goal.decreases-loop-left
decreases-loop-left g l = l.left
