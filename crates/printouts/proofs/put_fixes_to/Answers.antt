-- `put_fixes_to` meets its contract: a room past the limit holds enough of the input.
use mathlib.Core.Path.{sym}
use lib.Seq.{length-take-le}
use Rattle.printouts.specs.declared.Output.TheVariants.{Fixes}
use Rattle.printouts.proofs.Outputs.{held_output, written_within}
use Rattle.printouts.proofs.put_fixes_to.Goals as goal

pub slice_bounds-put_fixes-end : goal.slice_bounds-put_fixes-end
slice_bounds-put_fixes-end c = sym (length-take-le _ _ c.requires.n_in_bounds)

pub returns : goal.returns
returns c =
    record { by_index = held_output Fixes c.args.room.now _ _ c.args.n _ c.requires.to_in_bounds c.put_fixes.ensures; upper_bound = written_within _ _ _ _ c.put_fixes.ensures }
