use Rattle.std.proofs.Common.{◌≡◌, ◌-◌, length, take}
use Rattle.schedule.specs.Limits as Limits
use Rattle.margins.specs.Margins.{limits_from}
use Rattle.lines.specs.Numbered.{map_outcome, stands}
use Rattle.agelimits.specs.Read.{behind}
use Rattle.agelimits.proofs.limits_from.Given as goal

abbrev pub invariant-loop-g : goal.invariant-loop-g
invariant-loop-g l = (length l.limits ≡ (Limits.graphs).to) × (l.lines.text ≡ l.initial.lines.text)
    × (limits_from l.n (stands l.initial.lines) ≡ map_outcome (behind (take l.g l.limits)) (limits_from (l.n - l.g) (stands l.lines)))
