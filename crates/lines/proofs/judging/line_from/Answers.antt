-- `line_from` meets its contract: behind its heading stands the line's value.
use Rattle.std.proofs.Common.{drop, sym}
use Rattle.lines.proofs.LineLaws.{value_read}
use Rattle.lines.proofs.judging.line_from.Goals as goal

pub returns-then-is_after : goal.returns-then-is_after
returns-then-is_after g c =
    rw (sym c.if-is_after.ensures, value_read (g.K.Keyed.key_number c.args.k) (drop c.args.at c.args.s.now) _ c.in_ok-p.ensures, ← c.in_ok-p.ensures) c.list_value.ensures

pub returns-else-is_after : goal.returns-else-is_after
returns-else-is_after g c =
    rw (sym c.if-is_after.ensures, value_read (g.K.Keyed.key_number c.args.k) (drop c.args.at c.args.s.now) _ c.in_ok-p.ensures, ← c.in_ok-p.ensures) c.number_value.ensures
