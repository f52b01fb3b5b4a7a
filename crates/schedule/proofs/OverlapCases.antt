-- The worked cases of R-8 hold, by computation.
use mathlib.Core.Path.{◌≡◌, refl}
use mathlib.Core.List.{map}
use Prim.Native.Nat.{ℕ, ◌-◌}
use lib.ListN.{length}
use Rattle.schedule.specs.Lists.{keep, tab, up_to}
use Rattle.schedule.specs.Servers.{Box, box_of}
use Rattle.schedule.specs.Overlap.{job_runs, starts}
use Rattle.schedule.specs.OverlapCases.{OverlapCase, jobs, overlap_cases}
use Rattle.schedule.proofs.Computing.{computing}

-- the jobs 1 to 5 that run, and that start, in each of the ticks that a case speaks of
abbrev ticks_of : OverlapCase → OverlapCase
ticks_of c =
    let X : Box = box_of c.table in
    let i : ℕ = c.node - 1 in
    let n : ℕ = length c.run in
    jobs c.table c.need c.node (tab (λ (t : ℕ). keep (job_runs X.servers X.cap c.need t i) (up_to 5)) 0 n)
    (tab (λ (t : ℕ). keep (starts X.servers X.cap c.need t i) (up_to 5)) 0 n)

pub overlaps_hold : map ticks_of overlap_cases ≡ overlap_cases
unfolding computing job_runs starts overlap_cases
overlaps_hold = refl
