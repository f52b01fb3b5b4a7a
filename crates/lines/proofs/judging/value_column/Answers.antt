-- `value_column` meets its contract: no name is long.
use Rattle.std.proofs.Common.{List, ℕ, length, ap, arith}
use Rattle.lines.proofs.KeyLaws.{name_fits}
use Rattle.lines.proofs.judging.value_column.Goals as goal

pub overflow_cast-result : goal.overflow_cast-result
overflow_cast-result g c = omega (arith, ap (λ (n : List ℕ). length n) c.key_name-name.ensures, name_fits (g.K.Keyed.key_number c.args.k))

pub overflow_add-result : goal.overflow_add-result
overflow_add-result g c = omega (arith, ap (λ (n : List ℕ). length n) c.key_name-name.ensures, name_fits (g.K.Keyed.key_number c.args.k))
