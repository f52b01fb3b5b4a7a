-- The worked walks hold, by computation: for the walk in one pass, and so for that of the definitions.
use mathlib.Core.Path.{◌≡◌, refl, subst}
use mathlib.Core.List.{List, ◌++◌, map}
use Rattle.schedule.specs.Servers.{Box, box_of}
use Rattle.schedule.specs.Walk.{Walked, whole_walk}
use Rattle.schedule.specs.WalkCases.{WalkCase, short_walks, long_walks}
use Rattle.schedule.proofs.Walking.{walking, one_pass_walk, same_walk}

abbrev Hold : (Box → Walked) → List WalkCase → Type 0
Hold walk cases = map (λ (c : WalkCase). walk (box_of c.table)) cases ≡ map (λ (c : WalkCase). c.gives) cases

walks_computed : Hold one_pass_walk (short_walks ++ long_walks)
unfolding walking short_walks long_walks
walks_computed = refl

pub walks_hold : Hold whole_walk (short_walks ++ long_walks)
walks_hold = subst (λ (walk : Box → Walked). Hold walk (short_walks ++ long_walks)) same_walk walks_computed
