-- `one_at` meets its contract.
use Rattle.lines.proofs.NumberedLaws.{line_read, line_refused}
use Rattle.lines.proofs.numbering.one_at.Goals as goal

pub returns-in-Ok : goal.returns-in-Ok
returns-in-Ok g c = line_read c.args.s.now c.args.place (g.K.Keyed.key_number c.args.k) c.args.own c.requires.1 c.in-Ok.v c.in-Ok.at c.in-Ok.ensures

pub returns-in-Err : goal.returns-in-Err
returns-in-Err g c = rw c.refusal.ensures (line_refused c.args.s.now c.args.place (g.K.Keyed.key_number c.args.k) c.args.own c.requires.1 c.in-Err.fault c.in-Err.ensures)
