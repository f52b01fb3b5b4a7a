-- What reading into memory returns, and the reply to `rewrite`.
use Rattle.std.specs.Prelude.{List, ℕ, Result, Ok, Err}
use Rattle.format.specs.declared.Refusal.{Refusal}
use Rattle.schedule.specs.Table as Rules
use Rattle.format.specs.Reading.{Outcome, refused, done, read_of}
use Rattle.rules.specs.Answers.{Reply, refuses}
use Rattle.reading.specs.Memory.{memory_of}
use Rattle.writer.specs.Judging.{write_of}
use Rattle.memory.specs.declared.plain.PhalandrixTable.{PhalandrixTable}
use Rattle.editing.specs.Plains.{plain_of}

-- the table in memory, all zeros past its counts; or the refusal
abbrev pub read_table : Outcome Rules.Table → Result PhalandrixTable Refusal
read_table (refused r) = Err r
read_table (done T p) = Ok (plain_of (memory_of T))

-- a table read and written again: what the writer says of the table that was read, or refusals 1 to 4
abbrev pub rewritten : Outcome Rules.Table → Reply
rewritten (refused r) = refuses r
rewritten (done T p) = write_of T

unfoldable pub rewrite_of : List ℕ → Reply
rewrite_of s = rewritten (read_of s)
