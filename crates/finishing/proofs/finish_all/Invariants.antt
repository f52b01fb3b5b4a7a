use mathlib.Core.Path.{◌≡◌}
use Rattle.window.specs.Finishing.{finished_all}
use Rattle.finishing.proofs.finish_all.Given as goal

abbrev pub invariant-loop-key : goal.invariant-loop-key
invariant-loop-key l = l.state ≡ finished_all l.plan l.now l.run l.initial.state l.key-index
