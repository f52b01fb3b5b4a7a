-- `put_ended` meets its contract: the byte goes where the number ended.
use mathlib.Core.List.{[], ◌∷◌}
use native.Mathlib.Omega.{arith}
use lib.ListN.{length-append}
use Rattle.format.specs.Bytes.{decimal}
use Rattle.writing.proofs.Writing.{then_byte}
use Rattle.writing.proofs.line.put_ended.Goals as goal

pub returns : goal.returns
returns c =
    then_byte c.put_number-n.ensures c.args.end (omega (arith, length-append (decimal c.args.v) (c.args.end ∷ []), c.requires))
