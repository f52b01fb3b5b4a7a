-- `size` meets its contract.
use Rattle.mending.proofs.Lengths.{fixes_size}
use Rattle.mending.proofs.fixes.Kinds.size.Goals as goal

pub returns : goal.returns
returns c =
    fixes_size c.args.n c.args.self _ _ _ _ _ _ c.digits-one.ensures.size c.length_if.ensures c.length_if-2.ensures c.length_if-3.ensures c.length_if-4.ensures c.length_if-5.ensures
