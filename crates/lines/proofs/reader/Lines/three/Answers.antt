-- `Lines::three` meets its contract: each of the lines takes a byte or more.
use Rattle.std.proofs.Common.{sym, arith}
use Rattle.rules.proofs.Outcomes.{told}
use Rattle.table.specs.Keys.{place as row_of}
use Rattle.lines.specs.Numbered.{stands}
use Rattle.lines.proofs.NumberedLaws.{three_go}
use Rattle.lines.proofs.reader.Lines.three.Goals as goal

pub invariant_of-self : goal.invariant_of-self
invariant_of-self c =
    let l = c.args.self.now in
    let a = c.args in
    let go = told _ (sym c.in_ok-values.ensures) (three_go (row_of a.one) (row_of a.two) (row_of a.three) a.own (stands l) c.requires) in
    record { begun = omega (arith, go.0); whole = l.whole; short = omega (arith, go.0, go.1, l.short) }
