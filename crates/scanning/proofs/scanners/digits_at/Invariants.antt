use Rattle.std.proofs.Common.{◌≡◌, ◌≤◌, drop}
use Rattle.format.specs.Spelling.{digits}
use Rattle.scanning.specs.Positions.{far, capped}
use Rattle.scanning.proofs.scanners.digits_at.Given as goal

abbrev pub invariant-loop-p : goal.invariant-loop-p
invariant-loop-p l = (l.v ≤ far) × (capped (digits l.first (drop l.at l.s)) ≡ capped (digits l.v (drop l.p l.s)))
