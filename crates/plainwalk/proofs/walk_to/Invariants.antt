use Prim.Native.Nat.{◌+◌, ◌*◌}
use Rattle.ledger.specs.Walking.{walk_of}
use Rattle.plainwalk.proofs.Steps.{Remains, Ahead}
use Rattle.plainwalk.proofs.walk_to.Given as goal

abbrev pub invariant-loop-t : goal.invariant-loop-t
invariant-loop-t l =
    record {
      remains : Remains l.plan l.offsets l.hyper l.rounds l.asked (l.origin + l.rounds * l.hyper) (walk_of l.plan l.offsets l.origin l.hyper l.rounds l.asked) l.t l.boundary l.round l.l l.before;
      ahead : Ahead l.origin l.hyper l.rounds l.t l.boundary l.round;
    }
