-- `margin_length` meets its contract: a minus sign is one byte more.
use mathlib.Core.Path.{◌∙◌, ap}
use Prim.Native.Nat.{◌-◌}
use native.Mathlib.Omega.{arith}
use lib.ListN.{length, length-append}
use Rattle.format.specs.Bytes.{bytes, line_feed}
use Rattle.writing.specs.Line.{ended}
use Rattle.marginlines.proofs.Margins.{kept_line, over_line}
use Rattle.marginlines.proofs.line.margin_length.Goals as goal

pub returns-then-response-limit : goal.returns-then-response-limit
returns-then-response-limit c =
    let told = c.line_length.ensures in
    record { size = told.size ∙ ap length (kept_line c.args.limit c.args.response (omega arith)); within = omega (arith, told.within) }

pub returns : goal.returns
returns c =
    let told = c.line_length-2.ensures in
    record {
      size =
          omega (
            arith,
            told.size,
            ap length (over_line c.args.limit c.args.response (omega arith)),
            length-append (bytes "margin=-") (ended (c.args.response - c.args.limit) line_feed),
            length-append (bytes "margin=") (ended (c.args.response - c.args.limit) line_feed),
          );
      within = omega (arith, told.within);
    }
