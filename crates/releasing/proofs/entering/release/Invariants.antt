use mathlib.Core.Path.{◌≡◌}
use Rattle.window.specs.Loops.{in_turn}
use Rattle.window.specs.Releasing.{release_one}
use Rattle.releasing.proofs.entering.release.Given as goal

abbrev pub invariant-loop-i : goal.invariant-loop-i
invariant-loop-i l = l.state ≡ in_turn (release_one l.plan l.t l.before) l.initial.state l.i
