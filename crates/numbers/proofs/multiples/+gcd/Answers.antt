-- `gcd` meets its contract: each call takes Euclid's step, and the second number falls.
use mathlib.Core.Path.{sym, ◌∙◌, ap}
use Rattle.schedule.specs.Table as Rules
use Rattle.numbers.proofs.Euclid.{gcd_zero, gcd_step}
use Rattle.numbers.proofs.multiples.+gcd.Goals as goal

pub returns-then-b-eq0 : goal.returns-then-b-eq0
returns-then-b-eq0 t c = let a = c.args in sym (ap (Rules.gcd a.a) c.if-b-eq0.true ∙ gcd_zero a.a)

pub returns-else-b-eq0 : goal.returns-else-b-eq0
returns-else-b-eq0 t c = let a = c.args in c.gcd.ensures ∙ sym (gcd_step a.a a.b c.if-b-eq0.false)
