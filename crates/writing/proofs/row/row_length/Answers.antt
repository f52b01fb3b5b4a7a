-- `row_length` meets its contract. The loop's invariant: `n` is the length of the lines passed, each of which is at most the longest.
use mathlib.Core.Path.{refl, ap}
use mathlib.Core.List.{map}
use native.Mathlib.Omega.{arith}
use lib.ListN.{length, take, get_or, length-append}
use Rattle.rules.specs.Answers.{row_text}
use Rattle.writing.specs.Row.{running_of}
use Rattle.writing.proofs.Rows.{no_run, run, run_more}
use Rattle.writing.proofs.row.row_length.Goals as goal

pub loop-x-init : goal.loop-x-init
unfolding row_text
loop-x-init c = (refl, omega arith)

pub loop-x-preserved : goal.loop-x-preserved
loop-x-preserved c =
    let l = c.loop-x in
    let xs = c.running-x-items.result.now in
    let i = l.x-index in (
      omega (arith, l.invariant.0, c.run_length-n.ensures.size, length-append (row_text (map running_of (take i xs))) (run (get_or xs i no_run)), ap length (run_more xs i (omega arith))),
      omega (arith, c.run_length-n.ensures.within),
    )
