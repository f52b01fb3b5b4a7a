-- What the functions of rowing.rt tell: of a walk, of an instant above its limit, and of a table that is refused.
use mathlib.Core.Path.{◌≡◌, sym, ap, ◌∙◌}
use mathlib.Core.List.{List}
use Prim.Native.Nat.{ℕ, ◌≤◌, ◌<◌}
use borrow.Author.Tests.{lt-ltb, le-ltb}
use Rattle.schedule.specs.Limits as Limits
use Rattle.format.specs.declared.Refusal.{Refusal}
use Rattle.format.specs.declared.Refusal.TheVariants.{PastTheStop}
use Rattle.std.specs.Prelude.{Err}
use Rattle.rules.specs.Admission.{refused, admission_of}
use Rattle.rules.specs.Answers.{RowAnswer, refuses, call_of}
use Rattle.table.specs.declared.Graph.{Graph}
use Rattle.writing.specs.declared.row.Row.{Row}
use Rattle.looking.specs.declared.End.TheVariants.{Reached, Settled, Stopped}
use Rattle.looking.specs.declared.Look.{Look}
use Rattle.looking.specs.Looking.{says_row, far_at, ticks_at}
use Rattle.sheet.specs.Rows.{Answered, RowAt}
use Rattle.sheet.proofs.CallLaws.{refused_call}
use Rattle.sheet.proofs.RowCalls.{Promised, refused_row}

-- a refusal tells no ticks, whichever they are
told_refused : (buffer : List ℕ) (f : Refusal) (ticks : ℕ) → Answered (refuses f) ticks buffer buffer (Err f)
told_refused buffer f ticks = record { call = refused_call buffer f; walked = tt }

-- by how the walk to t ended; `l` and `row` are what the code has
module _ (look : ℕ → Look) (graph : List Graph) (hyper t : ℕ) (near : t ≤ (Limits.instant).to) (l : Look) (e : l ≡ look t) where
  pub near_told : (before after : List ℕ) (r : RowAnswer) → l.end ≡ Reached → Answered (says_row l.row) t before after r
      → RowAt look graph hyper t before after r
  unfolding RowAt
  near_told before after r h x = rw (le-ltb (Limits.instant).to t near, ← e, h) x

  pub far_told : (before after : List ℕ) (r : RowAnswer) → l.end ≡ Settled → (row : Row) → row ≡ far_at look graph hyper l.ticks t
      → Answered (says_row row) l.ticks before after r → RowAt look graph hyper t before after r
  unfolding RowAt
  far_told before after r h row f x = rw (le-ltb (Limits.instant).to t near, ← e, h, ← f) x

  pub stopped_told : (buffer : List ℕ) → l.end ≡ Stopped → RowAt look graph hyper t buffer buffer (Err PastTheStop)
  unfolding RowAt
  stopped_told buffer h = rw (le-ltb (Limits.instant).to t near, ← e, h) (told_refused buffer PastTheStop l.ticks)

pub above_told : (look : ℕ → Look) (graph : List Graph) (hyper t : ℕ) (buffer : List ℕ) → (Limits.instant).to < t
    → RowAt look graph hyper t buffer buffer (Err PastTheStop)
unfolding RowAt
above_told look graph hyper t buffer l = rw (lt-ltb (Limits.instant).to t l) (told_refused buffer PastTheStop (ticks_at look graph hyper t))

pub refused_told : (bytes : List ℕ) (t : ℕ) (buffer : List ℕ) (f : Refusal) → admission_of bytes ≡ refused f → Promised bytes t buffer buffer (Err f)
refused_told bytes t buffer f e = (refused_call buffer f ∙ ap (call_of buffer) (sym (refused_row bytes t f e)), tt)
