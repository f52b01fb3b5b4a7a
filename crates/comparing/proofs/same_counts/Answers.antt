-- `same_counts` meets its contract: two slices are the same where each entry is.
use mathlib.Core.Path.{◌∙◌}
use native.Mathlib.Omega.{arith}
use lib.Dec.{eqb}
use Rattle.window.proofs.Chains.{first_same}
use Rattle.comparing.proofs.same_counts.Goals as goal

pub returns : goal.returns
returns c = c.eq.ensures ∙ first_same eqb 0 c.args.n c.args.x.now c.args.y.now (omega arith) (omega arith)
