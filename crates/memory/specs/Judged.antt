-- What code says of a judgement. For the proof, not for belief.
use Rattle.std.specs.Prelude.{ℕ, Result, Ok, Err}
use Rattle.std.specs.Int.Bits.{bit_or}
use Rattle.format.specs.declared.Refusal.{Refusal}
use Rattle.format.specs.declared.Refusal.TheVariants.{OutsideLimits, AgainstPredecessorRules}
use Rattle.writer.specs.Judging.{Judgement, passes, fails, ◌then◌, no_column, number_at}
use Rattle.memory.specs.declared.plain.PhalandrixNode.{PhalandrixNode}

-- refusals 3 and 4 of line l
abbrev pub outside_at : ℕ → Refusal
outside_at l = OutsideLimits l no_column

abbrev pub against_at : ℕ → Refusal
against_at l = AgainstPredecessorRules l no_column

-- l is the line behind what passes
abbrev pub judged_as : ℕ → Result (Unit {0}) Refusal → Judgement
judged_as l (Ok done) = passes l
judged_as l (Err r) = fails r

-- the line left aside
abbrev pub judged_of : Judgement → Result (Unit {0}) Refusal
judged_of (passes l) = Ok tt
judged_of (fails r) = Err r

-- a number of key i, one of key j and one of key k
abbrev pub three_at : ℕ → ℕ → ℕ → ℕ → ℕ → ℕ → ℕ → Judgement
three_at i a j b k c l = number_at i a l then λ l. number_at j b l then λ l. number_at k c l

-- a node's mask put into the mask m
abbrev pub with_after : ℕ → PhalandrixNode → ℕ
with_after m x = bit_or m x.after
