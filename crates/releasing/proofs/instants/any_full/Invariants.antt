use mathlib.Core.Path.{◌≡◌}
use Rattle.window.specs.Releasing.{any_full}
use Rattle.releasing.proofs.instants.any_full.Given as goal

abbrev pub invariant-loop-i : goal.invariant-loop-i
invariant-loop-i l = l.any ≡ any_full l.state.next l.state.count l.state.unfinished l.room l.t l.i
