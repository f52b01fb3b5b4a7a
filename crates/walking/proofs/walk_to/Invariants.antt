-- What the loop of `walk_to` keeps, and what falls with its turns.
use mathlib.Core.Path.{◌≡◌}
use Prim.Native.Nat.{suc, ◌+◌, ◌*◌, ◌-◌, ◌≤◌}
use Rattle.window.specs.Releasing.{earliest}
use Rattle.window.specs.Walking.{walk_from}
use Rattle.walking.proofs.Steps.{Remains}
use Rattle.walking.proofs.walk_to.Given as goal

abbrev pub invariant-loop-t : goal.invariant-loop-t
invariant-loop-t l =
    Remains l.plan l.hyper l.rounds l.asked l.last
    (walk_from l.plan l.hyper l.rounds l.asked (suc l.last) 0 l.origin 0 l.initial.state l.initial.kept)
    l.t l.boundary l.round l.state l.kept
    × (l.release ≡ earliest l.state.next l.n) × (l.round ≤ l.rounds) × (l.boundary ≡ l.origin + l.round * l.hyper) × (l.t ≤ l.boundary)

abbrev pub decreases-loop-t : goal.decreases-loop-t
decreases-loop-t l = suc l.last - l.t
