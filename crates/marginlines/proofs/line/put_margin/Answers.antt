-- `put_margin` meets its contract: a line as the others, or one whose digits begin behind a minus sign.
use mathlib.Core.Path.{ap}
use mathlib.Core.List.{List}
use Prim.Native.Nat.{ℕ, ◌+◌, ◌-◌, ◌≤◌, ◌<◌}
use native.Mathlib.Omega.{arith}
use lib.ListN.{length, length-append}
use Rattle.format.specs.Bytes.{bytes, line_feed}
use Rattle.margins.specs.Margins.{margin_line}
use Rattle.writing.specs.Line.{ended}
use Rattle.writing.proofs.Writing.{named, room, both}
use Rattle.marginlines.proofs.Margins.{kept_line, over_line}
use Rattle.marginlines.proofs.line.put_margin.Goals as goal

-- the digits of what is over
abbrev over : ℕ → ℕ → List ℕ
over limit response = ended (response - limit) line_feed

fit : (limit response : ℕ) (part : List ℕ) → limit < response → length (margin_line limit response) ≤ length part
    → length (bytes "margin=-") + length (over limit response) ≤ length part
fit limit response part h room = omega (arith, ap length (over_line limit response h), length-append (bytes "margin=-") (over limit response))

pub put_line-requires : goal.put_line-requires
put_line-requires c =
    omega (arith, ap length (kept_line c.args.limit c.args.response (omega arith)), c.requires)

pub returns-then-response-limit : goal.returns-then-response-limit
returns-then-response-limit c =
    named (kept_line c.args.limit c.args.response (omega arith)) c.put_line.ensures

pub put_bytes-at-requires : goal.put_bytes-at-requires
put_bytes-at-requires c =
    let a = c.args in
    omega (arith, fit a.limit a.response a.part.now (omega arith) c.requires)

pub put_ended-requires : goal.put_ended-requires
put_ended-requires c =
    let a = c.args in
    room (over a.limit a.response) c.put_bytes-at.ensures (fit a.limit a.response a.part.now (omega arith) c.requires)

pub returns : goal.returns
returns c =
    let a = c.args in
    named (over_line a.limit a.response (omega arith))
    (both (over a.limit a.response) c.put_bytes-at.ensures (fit a.limit a.response a.part.now (omega arith) c.requires) c.put_ended.ensures)
