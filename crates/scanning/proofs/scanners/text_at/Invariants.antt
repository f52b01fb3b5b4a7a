use Rattle.std.proofs.Common.{◌≡◌, drop}
use Rattle.format.specs.Spelling.{text}
use Rattle.scanning.proofs.scanners.text_at.Given as goal

abbrev pub invariant-loop-b : goal.invariant-loop-b
invariant-loop-b l = text l.t (drop l.at l.s) ≡ text (drop l.b-index l.t) (drop l.p l.s)
