-- The walk of a box, computed in one pass, and what antt needs opened for it.
use mathlib.Core.Path.{◌≡◌, fun_ext}
use Rattle.schedule.specs.Servers.{Box, whole}
use Rattle.schedule.specs.Walk.{Walked, whole_walk}
use Rattle.schedule.proofs.OnePass.{next_figures, next_last, pass_from, walked_in_one_pass, one_pass}
use Rattle.schedule.proofs.Computing.{computing}

-- opened by name where a test is computed
unfoldable pub walking : Unit {0}
unfolding computing next_figures next_last pass_from walked_in_one_pass
walking = tt

abbrev pub one_pass_walk : Box → Walked
one_pass_walk X = walked_in_one_pass X (whole X.servers)

-- the walk in one pass is that of the definitions
pub same_walk : one_pass_walk ≡ whole_walk
same_walk = fun_ext (λ (X : Box). one_pass X (whole X.servers))
