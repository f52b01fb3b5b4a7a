-- `looked` meets its contract: call by call.
use Rattle.plainlaws.specs.Rows.{look_of}
use Rattle.plain.proofs.rowing.looked.Goals as goal

pub returns : goal.returns
unfolding look_of
returns c =
    rw (
      c.from.ensures,
      c.row_of.ensures,
      c.offsets_of-offsets.ensures,
      c.plan_of-plan.ensures,
      c.walked-w.ensures,
    )
