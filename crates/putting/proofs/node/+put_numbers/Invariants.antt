use Prim.Native.Nat.{◌-◌}
use Rattle.numbers.specs.Masks.{width, lowest}
use Rattle.putting.proofs.node.+put_numbers.Given as goal

abbrev pub decreases-put_numbers : goal.decreases-put_numbers
decreases-put_numbers l = width - lowest l.mask
