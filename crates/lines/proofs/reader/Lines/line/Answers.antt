-- `Lines::line` meets its contract: the line takes a byte or more.
use Rattle.std.proofs.Common.{sym, arith}
use Rattle.rules.proofs.Outcomes.{told}
use Rattle.table.specs.Keys.{place as row_of}
use Rattle.lines.specs.Numbered.{stands}
use Rattle.lines.proofs.NumberedLaws.{coded_goes}
use Rattle.lines.proofs.reader.Lines.line.Goals as goal

pub invariant_of-self : goal.invariant_of-self
invariant_of-self c =
    let l = c.args.self.now in
    let goes = told _ (sym c.in_ok-v.ensures) (coded_goes (row_of c.args.k) c.args.own (stands l) c.requires) in
    record { begun = omega (arith, goes.0); whole = l.whole; short = omega (arith, goes.0, goes.1, l.short) }
