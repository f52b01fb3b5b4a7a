-- `put_margins` meets its contract: the graphs' lines begin where the head ended.
use mathlib.Core.Path.{ap}
use mathlib.Core.List.{List, []}
use Prim.Native.Nat.{ℕ, ◌+◌, ◌≤◌}
use native.Mathlib.Omega.{arith}
use lib.ListN.{length, length-append}
use Rattle.rules.specs.Answers.{report_text}
use Rattle.margins.specs.Margins.{margin_lines, margin_text}
use Rattle.writing.proofs.Writing.{named, room, both}
use Rattle.marginlines.proofs.Margins.{head_first}
use Rattle.marginlines.proofs.text.put_margins.Goals as goal

fit : (round ticks : ℕ) (fs ls buf : List ℕ) → length (margin_text round ticks fs ls) ≤ length buf
    → length (report_text round ticks []) + length (margin_lines fs ls) ≤ length buf
fit round ticks fs ls buf h = omega (arith, ap length (head_first round ticks fs ls), length-append (report_text round ticks []) (margin_lines fs ls))

pub put_report-at-requires : goal.put_report-at-requires
put_report-at-requires c =
    omega (arith, fit c.args.round c.args.ticks c.args.figures.now c.args.limits.now c.args.buf.now c.requires)

pub put_graphs-requires : goal.put_graphs-requires
put_graphs-requires c =
    room (margin_lines c.args.figures.now c.args.limits.now) c.put_report-at.ensures
    (fit c.args.round c.args.ticks c.args.figures.now c.args.limits.now c.args.buf.now c.requires)

pub returns : goal.returns
returns c =
    named (head_first c.args.round c.args.ticks c.args.figures.now c.args.limits.now)
    (both (margin_lines c.args.figures.now c.args.limits.now) c.put_report-at.ensures
    (fit c.args.round c.args.ticks c.args.figures.now c.args.limits.now c.args.buf.now c.requires) c.put_graphs.ensures)
