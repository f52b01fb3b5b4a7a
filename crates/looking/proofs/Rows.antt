-- What is answered of an engine's looks is the rules' row, and the ticks told are the rules'.
use mathlib.Core.Path.{◌≡◌, refl}
use Prim.Native.Nat.{ℕ, ◌≤◌, ◌<◌, min}
use native.Mathlib.Omega.{arith}
use lib.Dec.{T}
use Rattle.schedule.specs.Limits as Limits
use Rattle.schedule.specs.Table.{Table, hyperperiod}
use Rattle.schedule.specs.Servers.{Box, box_of}
use Rattle.schedule.specs.Walk.{Stop, settled, unsettled, backlog}
use Rattle.schedule.specs.WellFormed.{well_formed}
use Rattle.schedule.proofs.Tests.{by_lt}
use Rattle.rules.specs.Answers.{row_on}
use Rattle.reading.specs.Memory.{memory_of}
use Rattle.looking.specs.declared.Look.{Look}
use Rattle.looking.specs.Looking.{ticks_by, reply_at, ticks_at}
use Rattle.looking.proofs.HasRow.{has_before, has_settled, has_none_unsettled, has_none_backlog}
use Rattle.looking.proofs.Looked.{end_of, stop, Looked}
use Rattle.looking.proofs.MovedRows.{far_shown}

ticks_past : (how : Stop) (u t : ℕ) → ticks_by (end_of how) u t ≡ u
ticks_past (settled k) u t = refl
ticks_past unsettled u t = refl
ticks_past backlog u t = refl

module _ (U : Table) (ok : T (well_formed U)) (look : ℕ → Look) (sees : (t : ℕ) → Looked (box_of U) t (look t)) (t : ℕ) where
  abbrev X : Box
  X = box_of U

  -- at or past the stop
  past : t ≤ (Limits.instant).to → (stop X).ticks ≤ t → (how : Stop) → (stop X).how ≡ how
      → reply_at look (memory_of U).graph (hyperperiod U) t ≡ row_on X (stop X).how (stop X).ticks t
  unfolding row_on
  past near l (settled k) h =
      rw ((sees t).end l, (sees t).ticks l, h, has_settled k (stop X).ticks t near, far_shown U ok look sees k h t l near)
  past near l unsettled h = rw ((sees t).end l, h, has_none_unsettled (stop X).ticks t near l)
  past near l backlog h = rw ((sees t).end l, h, has_none_backlog (stop X).ticks t near l)

  before : t ≤ (Limits.instant).to → t < (stop X).ticks → reply_at look (memory_of U).graph (hyperperiod U) t ≡ row_on X (stop X).how (stop X).ticks t
  unfolding row_on
  before near l = rw ((sees t).reached l, (sees t).shows l, has_before (stop X).how (stop X).ticks t near l)

  pub row_same : t ≤ (Limits.instant).to → reply_at look (memory_of U).graph (hyperperiod U) t ≡ row_on X (stop X).how (stop X).ticks t
  row_same near = by_lt t (stop X).ticks (before near) (λ l. past near l (stop X).how refl)

  pub ticks_same : ticks_at look (memory_of U).graph (hyperperiod U) t ≡ min t (stop X).ticks
  ticks_same =
      by_lt t (stop X).ticks (λ l. rw ((sees t).reached l) (omega arith))
      (λ l. rw ((sees t).end l, ticks_past (stop X).how (look t).ticks t, (sees t).ticks l) (omega arith))
