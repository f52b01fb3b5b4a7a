-- `ones` meets its contract: the machine's count of ones is that of the set bits.
use Rattle.numbers.proofs.Counts.{ones_counted}
use Rattle.numbers.proofs.masks.ones.Goals as goal

pub returns : goal.returns
returns c = ones_counted c.args.mask c.ranges.mask.fits
