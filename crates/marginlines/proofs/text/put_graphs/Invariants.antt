use lib.ListN.{take}
use Rattle.margins.specs.Margins.{margin_lines}
use Rattle.writing.specs.Written.{Written}
use Rattle.marginlines.proofs.text.put_graphs.Given as goal

abbrev pub invariant-loop-g : goal.invariant-loop-g
invariant-loop-g l = Written (margin_lines (take l.g l.figures) l.limits) l.initial.part l.part l.at
