-- The reply to a question for one of the outputs of salvage: the text that is left, or the list; or the refusal of both.
use Rattle.std.specs.Prelude.{List, ℕ}
use Rattle.rules.specs.Answers.{Reply, says, refuses}
use Rattle.salvaging.specs.Salvage.{Salvaging, left, refused, salvage_of}
use Rattle.printouts.specs.declared.Output.{Output}
use Rattle.printouts.specs.declared.Output.TheVariants.{Text, Fixes}

abbrev pub output_in : Output → Salvaging → Reply
output_in Text (left t f) = says t
output_in Fixes (left t f) = says f
output_in Text (refused r) = refuses r
output_in Fixes (refused r) = refuses r

abbrev pub output_of : Output → List ℕ → Reply
output_of o s = output_in o (salvage_of s)
