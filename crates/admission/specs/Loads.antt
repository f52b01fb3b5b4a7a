-- The steps by which code comes to the hyperperiod and the load.
use Rattle.std.specs.Prelude.{cond, List, [], ◌∷◌, Option, Some, None, ℕ, ◌-◌, ◌*◌, ◌/◌, leb}
use Rattle.schedule.specs.Lists.{sum}
use Rattle.schedule.specs.Table.{Node, Graph, lcm}

-- the steps of the least common multiple from h on, up to the first that is past `most`
unfoldable pub hyperperiod_within : ℕ → ℕ → List Graph → Option ℕ
hyperperiod_within most h [] = Some h
hyperperiod_within most h (G ∷ Gs) =
    let more : Option ℕ = hyperperiod_within most (lcm h G.period) Gs in
    cond (leb (lcm h G.period) most) more None

-- what is left of some room after a need
abbrev pub room_after : ℕ → ℕ → Option ℕ
room_after room need = cond (leb need room) (Some (room - need)) None

-- the load of a graph whose nodes run so many times, and of graphs in h ticks
abbrev pub graph_load : ℕ → Graph → ℕ
graph_load times G = sum (λ (x : Node). x.budget * times) G.nodes

abbrev pub graphs_load : ℕ → List Graph → ℕ
graphs_load h Gs = sum (λ (G : Graph). graph_load (h / G.period) G) Gs
