-- `put_responses` meets its contract. The loop's invariant: the lines of the figures passed are written.
use mathlib.Core.Path.{ap}
use mathlib.Core.List.{List}
use Prim.Native.Nat.{ℕ, ◌+◌, ◌≤◌, ◌<◌}
use native.Mathlib.Omega.{arith}
use lib.ListN.{length, take, get_or}
use lib.Seq.{take_all}
use Rattle.rules.specs.Answers.{response_lines}
use Rattle.writing.proofs.Writing.{nothing, named, room, both}
use Rattle.writing.proofs.Responses.{response, response_more, response_fits}
use Rattle.writing.proofs.report.put_responses.Goals as goal

fit : (fs part : List ℕ) (g : ℕ) → g < length fs → length (response_lines fs) ≤ length part
    → length (response_lines (take g fs)) + length (response (get_or fs g 0)) ≤ length part
fit fs part g inside h =
    omega (arith, response_fits fs g inside (length fs) inside, ap (λ (l : List ℕ). length (response_lines l)) (take_all (length fs) fs (omega arith)))

pub loop-figure-init : goal.loop-figure-init
unfolding response_lines
loop-figure-init c = nothing c.args.part.now

pub put_line-at-requires : goal.put_line-at-requires
put_line-at-requires c =
    let l = c.loop-figure in
    let fs = c.args.figures.now in
    room (response (get_or fs l.figure-index 0)) l.invariant (fit fs c.args.part.now l.figure-index (omega arith) c.requires)

pub loop-figure-preserved : goal.loop-figure-preserved
loop-figure-preserved c =
    let l = c.loop-figure in
    let fs = c.args.figures.now in
    named (response_more fs l.figure-index (omega arith))
    (both (response (get_or fs l.figure-index 0)) l.invariant (fit fs c.args.part.now l.figure-index (omega arith) c.requires) c.put_line-at.ensures)
