-- The code's row as the rules' running server jobs.
use Rattle.std.specs.Prelude.{List, map, take}
use Rattle.schedule.specs.Walk.{Running}
use Rattle.writing.specs.declared.row.Run.{Run}
use Rattle.writing.specs.declared.row.Row.{Row}

abbrev pub running_of : Run → Running
running_of x = record { graph = x.graph; node = x.node; server_job = x.server_job; invocation = x.invocation }

-- the first `count` entries, in priority order
abbrev pub running_in : Row → List Running
running_in x = map running_of (take x.count x.run)
