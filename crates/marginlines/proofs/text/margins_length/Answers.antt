-- `margins_length` meets its contract: the head's length and that of the graphs' lines.
use mathlib.Core.Path.{ap}
use mathlib.Core.List.{[]}
use native.Mathlib.Omega.{arith}
use lib.ListN.{length, length-append}
use Rattle.rules.specs.Answers.{report_text}
use Rattle.margins.specs.Margins.{margin_lines}
use Rattle.marginlines.proofs.Margins.{head_first}
use Rattle.marginlines.proofs.text.margins_length.Goals as goal

pub returns : goal.returns
returns c =
    let head = c.report_length.ensures in
    let graphs = c.graphs_length.ensures in
    let fs = c.args.figures.now in
    let ls = c.args.limits.now in
    record {
      size =
          omega (
            arith,
            head.size,
            graphs.size,
            ap length (head_first c.args.round c.args.ticks fs ls),
            length-append (report_text c.args.round c.args.ticks []) (margin_lines fs ls),
          );
      within = omega (arith, head.within, graphs.within);
    }
