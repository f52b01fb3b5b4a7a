-- R-8: in every table that passes refusals 1 to 4, from its bytes, overlap is limited.
use mathlib.Core.List.{List}
use Prim.Native.Nat.{ℕ}
use Rattle.rules.specs.Demands.{LimitedOverlap}
use Rattle.rules.proofs.ReadWellFormed.{read_well_formed}
use Rattle.theorems.proofs.Overlap.{table_overlap_limited}

pub overlap_is_limited : (bytes : List ℕ) → LimitedOverlap bytes
unfolding LimitedOverlap
overlap_is_limited bytes U p e need needs = table_overlap_limited U (read_well_formed bytes U p e) need needs
