-- A key is one of ten.
use Rattle.std.proofs.Common.{◌≡◌, refl, eqb, false}
use Rattle.format.specs.Keys as Rules
use Rattle.table.specs.declared.Key.{Key}
use Rattle.table.specs.declared.Key.TheVariants.{Processors, Rounds, Graphs, Period, Offset, Nodes, Budget, Level, After, Limit}
use Rattle.table.specs.Keys.{place}

pub data Which (k : Key) : Type 0 where
  processors : k ≡ Processors → Which k
  rounds : k ≡ Rounds → Which k
  graphs : k ≡ Graphs → Which k
  period : k ≡ Period → Which k
  offset : k ≡ Offset → Which k
  nodes : k ≡ Nodes → Which k
  budget : k ≡ Budget → Which k
  level : k ≡ Level → Which k
  after : k ≡ After → Which k
  limit : k ≡ Limit → Which k

pub which : (k : Key) → Which k
which Processors = processors refl
which Rounds = rounds refl
which Graphs = graphs refl
which Period = period refl
which Offset = offset refl
which Nodes = nodes refl
which Budget = budget refl
which Level = level refl
which After = after refl
which Limit = limit refl

-- no other stands at the place of `after`
pub not_after : (k : Key) → (k ≡ After → ⊥) → eqb (place k) Rules.after ≡ false
not_after Processors n = refl
not_after Rounds n = refl
not_after Graphs n = refl
not_after Period n = refl
not_after Offset n = refl
not_after Nodes n = refl
not_after Budget n = refl
not_after Level n = refl
not_after After n = absurd (n refl)
not_after Limit n = refl
