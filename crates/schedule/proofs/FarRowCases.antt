-- The worked cases of R-10 hold, by computation.
use mathlib.Core.Path.{◌≡◌, refl}
use mathlib.Core.List.{List, [], ◌∷◌, map}
use Rattle.schedule.specs.Servers.{Box, box_of, whole}
use Rattle.schedule.specs.Walk.{Running, row_at}
use Rattle.schedule.specs.FarRows.{matching, passed, moved, far_row}
use Rattle.schedule.specs.FarRowCases.{FarCase, far_cases, near_cases}
use Rattle.schedule.proofs.Computing.{computing}

pub far_rows_hold : map (λ (c : FarCase). far_row c.table c.stop c.at) far_cases ≡ map (λ (c : FarCase). c.shows) far_cases
unfolding computing matching passed far_row far_cases
far_rows_hold = refl

abbrev row_of : FarCase → List Running
row_of c = let X : Box = box_of c.table in row_at X (whole X.servers) c.at

pub near_rows_hold : map row_of near_cases ≡ map (λ (c : FarCase). c.shows) near_cases
unfolding computing near_cases
near_rows_hold = refl

-- 0 stays 0. (No row from the last round on has one: `rows_of_table_linked` of the crate theorems.)
pub none_stays : map (moved 3) (0 ∷ 1 ∷ 4 ∷ []) ≡ 0 ∷ 4 ∷ 7 ∷ []
none_stays = refl
