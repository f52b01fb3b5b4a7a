use mathlib.Core.Path.{◌≡◌}
use Rattle.window.specs.Choosing.{Picks, picks}
use Rattle.choosing.proofs.choose.Given as goal

abbrev pub invariant-loop-m : goal.invariant-loop-m
invariant-loop-m l =
    ◌≡◌ {A = Picks} (record { run = l.run; at = l.at; heads = l.heads; taken = l.taken; from = l.from; count = l.m }) (picks l.first l.count l.level l.step l.n l.initial.run l.initial.at l.m)
