-- `three_at` meets its contract: one line behind the other, up to the first that is refused.
use Rattle.std.proofs.Common.{sym, arith}
use Rattle.std.proofs.lemmas.Result.{err_from_is_err_and}
use Rattle.rules.proofs.Outcomes.{told}
use Rattle.lines.specs.Numbered.{place_of, three_lines}
use Rattle.lines.proofs.NumberedLaws.{coded_goes}
use Rattle.lines.proofs.numbering.three_at.Goals as goal

pub one_at-requires-2 : goal.one_at-requires-2
one_at-requires-2 g c =
    let a = c.args in
    let one = told _ (sym c.in_ok-first.ensures) (coded_goes (g.K.Keyed.key_number a.one) a.own (place_of a.s.now a.place) c.requires.1) in
    (omega (arith, one.0, c.requires.0), c.requires.1, c.requires.2)

pub one_at-requires-3 : goal.one_at-requires-3
one_at-requires-3 g c =
    let a = c.args in
    let one = told _ (sym c.in_ok-first.ensures) (coded_goes (g.K.Keyed.key_number a.one) a.own (place_of a.s.now a.place) c.requires.1) in
    let two = told _ (sym c.in_ok-second.ensures) (coded_goes (g.K.Keyed.key_number a.two) a.own (place_of a.s.now c.in_ok-first.p) c.requires.1) in
    (omega (arith, one.0, two.0, c.requires.0), c.requires.1, c.requires.2)

pub returns-in_err-first : goal.returns-in_err-first
unfolding three_lines
returns-in_err-first g c =
    let p = err_from_is_err_and c.from_residual.result c.from_residual.ensures.1 in
    rw (p.1, p.2, ← c.in_err-first.ensures)

pub returns-in_err-second : goal.returns-in_err-second
unfolding three_lines
returns-in_err-second g c =
    let p = err_from_is_err_and c.from_residual-in_err-second.result c.from_residual-in_err-second.ensures.1 in
    rw (p.1, p.2, ← c.in_ok-first.ensures, ← c.in_err-second.ensures)

pub returns-in_err-third : goal.returns-in_err-third
unfolding three_lines
returns-in_err-third g c =
    let p = err_from_is_err_and c.from_residual-in_err-third.result c.from_residual-in_err-third.ensures.1 in
    rw (p.1, p.2, ← c.in_ok-first.ensures, ← c.in_ok-second.ensures, ← c.in_err-third.ensures)

pub returns : goal.returns
unfolding three_lines
returns g c = rw (← c.in_ok-first.ensures, ← c.in_ok-second.ensures, ← c.in_ok-third.ensures)
