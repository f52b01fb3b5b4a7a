-- The rules' limits in the form of the code's struct: what the associated constants are proved to be.
use Rattle.std.specs.Prelude.{Bool, ◌&&◌, ℕ, leb}
use Rattle.schedule.specs.Limits as Rules
use Rattle.table.specs.declared.Range.{Range}
use Rattle.table.specs.declared.Limits.{Limits}

abbrev pub coded : Rules.Range → Range
coded r = record { from = r.from; to = r.to }

-- a number within limits as code has them
abbrev pub in_range : Range → ℕ → Bool
in_range r v = leb r.from v && leb v r.to

abbrev pub limits : Limits
limits =
    record {
      table_bytes = coded Rules.table_bytes;
      processors = coded Rules.processors;
      rounds = coded Rules.rounds;
      graphs = coded Rules.graphs;
      period = coded Rules.period;
      budget = coded Rules.budget;
      offset = coded Rules.offset;
      nodes = coded Rules.nodes;
      all_nodes = coded Rules.all_nodes;
      level = coded Rules.level;
      hyperperiod = coded Rules.hyperperiod;
      instant = coded Rules.instant;
      predecessor = coded Rules.predecessor;
      pending = Rules.pending;
      unfinished = Rules.unfinished;
      tables = coded Rules.tables;
      limit_bytes = coded Rules.limit_bytes;
      limit = coded Rules.limit;
    }
