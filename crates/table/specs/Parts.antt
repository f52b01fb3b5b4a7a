-- A pending server job from two parts: by how many numbers its job lies behind it, and whether there is one. Of an unlinked one no number is kept.
use Rattle.std.specs.Prelude.{Some, None, Bool, cond, ℕ}
use Rattle.table.specs.declared.Pending.{Pending}

abbrev pub pending_of : ℕ → Bool → Pending
pending_of behind linked = record { behind = cond linked (Some behind) None }
