-- `byte_at` meets its contract: a text of one byte.
use Rattle.std.proofs.Common.{drop, sym, ◌∙◌}
use Rattle.scanning.proofs.ScannerLaws.{byte_found, byte_missed}
use Rattle.scanning.proofs.scanners.byte_at.Goals as goal

pub returns-then-next_is : goal.returns-then-next_is
returns-then-next_is c = sym (byte_found c.args.b c.args.s.now c.args.at (sym c.next_is.ensures ∙ c.if-next_is.true))

pub returns-else-next_is : goal.returns-else-next_is
returns-else-next_is c = sym (byte_missed c.args.b (drop c.args.at c.args.s.now) (sym c.next_is.ensures ∙ c.if-next_is.false))
