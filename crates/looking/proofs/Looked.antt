-- What is asked of an engine's look: before the rules' stop the walk comes to the instant and shows the rules' row; from it on it ended as the
-- rules' walk does.
use mathlib.Core.Path.{◌≡◌}
use Prim.Native.Nat.{ℕ, ◌≤◌, ◌<◌}
use lib.ListN.{length}
use Rattle.schedule.specs.Servers.{Box, whole}
use Rattle.schedule.specs.Walk.{Stop, settled, unsettled, backlog, Stopped, stopped, row_at}
use Rattle.writing.specs.Row.{running_in}
use Rattle.looking.specs.declared.End.{End}
use Rattle.looking.specs.declared.Look.{Look}

abbrev pub end_of : Stop → End
end_of (settled k) = End.Settled
end_of unsettled = End.Stopped
end_of backlog = End.Stopped

abbrev pub stop : Box → Stopped
stop X = stopped X (whole X.servers)

pub record Looked (X : Box) (t : ℕ) (l : Look) : Type 0 where
  pub reached : t < (stop X).ticks → l.end ≡ End.Reached
  pub shows : t < (stop X).ticks → running_in l.row ≡ row_at X (whole X.servers) t
  pub end : (stop X).ticks ≤ t → l.end ≡ end_of (stop X).how
  pub ticks : (stop X).ticks ≤ t → l.ticks ≡ (stop X).ticks
  pub room : l.row.count ≤ length l.row.run
