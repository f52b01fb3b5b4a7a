-- The row call in memory, where `look t` is what an engine's walk to t shows: what the calls answer and tell. For the proof, not for belief.
use Rattle.std.specs.Prelude.{cond, List, ℕ, ltb}
use Rattle.schedule.specs.Limits as Limits
use Rattle.schedule.specs.FarRows.{matching}
use Rattle.format.specs.declared.Refusal.TheVariants.{PastTheStop}
use Rattle.rules.specs.Answers.{Reply, says, refuses, row_text}
use Rattle.table.specs.declared.Graph.{Graph}
use Rattle.writing.specs.declared.row.Row.{Row}
use Rattle.writing.specs.Row.{running_in}
use Rattle.repeating.specs.Moving.{far_row}
use Rattle.looking.specs.declared.End.{End}
use Rattle.looking.specs.declared.End.TheVariants.{Reached, Settled, Stopped}
use Rattle.window.specs.declared.How.{How}
use Rattle.looking.specs.declared.Look.{Look}

-- how a walk to an instant ended, by how it stopped
abbrev pub end_by : How → End
end_by (How.Settled k) = End.Settled
end_by How.Unsettled = End.Stopped
end_by How.Backlog = End.Stopped
end_by How.Reached = End.Reached

abbrev pub says_row : Row → Reply
says_row row = says (row_text (running_in row))

-- a walk that came to the instant asked has its row, and one that settled before has a far one
abbrev pub row_by : End → Reply → Reply → Reply
row_by Reached near far = near
row_by Settled near far = far
row_by Stopped near far = refuses PastTheStop

abbrev pub ticks_by : End → ℕ → ℕ → ℕ
ticks_by Reached stop t = t
ticks_by Settled stop t = stop
ticks_by Stopped stop t = stop

module _ (look : ℕ → Look) (graph : List Graph) (hyper : ℕ) where
  -- the row at t, at or past the stop
  abbrev pub far_at : ℕ → ℕ → Row
  far_at stop t = far_row graph hyper stop t (look (matching hyper stop t)).row

  abbrev pub reply_at : ℕ → Reply
  reply_at t = row_by (look t).end (says_row (look t).row) (says_row (far_at (look t).ticks t))

  -- none above the limit of an instant
  abbrev pub reply_within : ℕ → Reply
  reply_within t = cond (ltb (Limits.instant).to t) (refuses PastTheStop) (reply_at t)

  abbrev pub ticks_at : ℕ → ℕ
  ticks_at t = ticks_by (look t).end (look t).ticks t
