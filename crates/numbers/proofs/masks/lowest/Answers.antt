-- `lowest` meets its contract: the machine's count of closing zeros is the number of the lowest set bit.
use Rattle.numbers.proofs.Counts.{lowest_counted}
use Rattle.numbers.proofs.masks.lowest.Goals as goal

pub returns : goal.returns
returns c = lowest_counted c.args.mask
