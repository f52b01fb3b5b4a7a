-- `list_at` meets its contract: `none` behind an n, and else numbers.
use mathlib.Core.Path.{sym, ◌∙◌}
use lib.ListN.{drop}
use Rattle.scanning.proofs.Predecessors.{none_wrong, none_read, some_listed}
use Rattle.std.proofs.lemmas.Result.{err_from_is_err_and}
use Rattle.scanning.proofs.lists.list_at.Goals as goal

pub returns-in_err-end : goal.returns-in_err-end
returns-in_err-end c =
    let p = err_from_is_err_and c.from_residual.result c.from_residual.ensures.1 in
    rw (p.1, p.2)
    (none_wrong c.args.range c.args.own (drop c.args.at c.args.s.now) (drop c.in_err-end.field-0.0.at c.args.s.now) (sym c.next_is.ensures ∙ c.if-next_is.true) c.in_err-end.ensures)

pub returns-in_ok-end : goal.returns-in_ok-end
returns-in_ok-end c =
    none_read c.args.range c.args.own (drop c.args.at c.args.s.now) (drop c.in_ok-end.end c.args.s.now) (sym c.next_is.ensures ∙ c.if-next_is.true) c.in_ok-end.ensures

pub returns-else-next_is : goal.returns-else-next_is
returns-else-next_is c =
    c.numbers_at.ensures ∙ some_listed c.args.range c.args.own (drop c.args.at c.args.s.now) (sym c.next_is.ensures ∙ c.if-next_is.false)
