-- `put_margin_to` meets its contract: rooms past the limits hold enough of both inputs.
use mathlib.Core.Path.{sym}
use lib.Seq.{length-take-le}
use Rattle.printing.proofs.Printed.{written_within}
use Rattle.marginprints.proofs.Prints.{held_margin}
use Rattle.marginprints.proofs.put_margin_to.Goals as goal

pub slice_bounds-put_margin-end : goal.slice_bounds-put_margin-end
slice_bounds-put_margin-end c = sym (length-take-le _ _ c.requires.to_in_bounds.1)

pub slice_bounds-put_margin-end-2 : goal.slice_bounds-put_margin-end-2
slice_bounds-put_margin-end-2 c = sym (length-take-le _ _ c.requires.to_in_bounds_2.1)

pub returns : goal.returns
returns c =
    record { by_index = held_margin c.args.table.now c.args.limits.now _ _ c.args.n c.args.m _ c.requires.to_in_bounds.0 c.requires.to_in_bounds_2.0 c.put_margin.ensures; length_in_bounds = written_within _ _ _ _ c.put_margin.ensures.bytes }
