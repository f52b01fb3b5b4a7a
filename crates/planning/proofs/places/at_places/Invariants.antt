use Prim.Native.Nat.{◌<◌, ◌^◌}
use Rattle.numbers.specs.Masks.{width, ones}
use Rattle.planning.proofs.PlaceLaws.{Halfway}
use Rattle.planning.proofs.places.at_places.Given as goal

abbrev pub invariant-loop-rest : goal.invariant-loop-rest
invariant-loop-rest l = (l.placed < 2 ^ width) × (l.rest < 2 ^ width) × Halfway l.mask l.first l.placed l.rest

abbrev pub decreases-loop-rest : goal.decreases-loop-rest
decreases-loop-rest l = ones l.rest
