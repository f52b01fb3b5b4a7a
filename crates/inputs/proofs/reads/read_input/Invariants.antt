-- Each read is behind the bytes that are there, and within the space.
use Rattle.std.proofs.Common.{length, ◌-◌, ◌≤◌}
use Rattle.inputs.proofs.reads.read_input.Given as goal

abbrev pub invariant-loop-done : goal.invariant-loop-done
invariant-loop-done g l = l.done ≤ length l.space

abbrev pub decreases-loop-done : goal.decreases-loop-done
decreases-loop-done g l = length l.space - l.done
