-- The work done up to an instant: what `finish` and its functions compute.
use Rattle.std.specs.Prelude.{Bool, cond, List, ℕ, zero, suc, ◌+◌, ◌-◌, max, leb, eqb, get_or}
use Rattle.window.specs.declared.Plan.{Plan}
use Rattle.window.specs.Entries.{further, budget_at, period_at, nodes_of}
use Rattle.window.specs.Loops.{replaced}
use Rattle.ledger.specs.declared.Done.{Done}
use Rattle.ledger.specs.declared.Ledger.{Ledger}
use Rattle.ledger.specs.Entries.{slot_at, instant_after, offset_at, released_at, complete_at, finished_at, worst_at}

-- the response of job j, which finishes at t
abbrev pub response_of : (offset period j t : ℕ) → ℕ
response_of offset period j t = t - instant_after offset period (j - 1)

-- one server job more is complete; job j is linked to it, 0 for none
abbrev pub with_one : Done → (j offset period t : ℕ) → Done
with_one d j offset period t =
    record {
      complete = further d.complete 1;
      finished = cond (eqb j 0) d.finished (further d.finished 1);
      worst = cond (eqb j 0) d.worst (max d.worst (response_of offset period j t));
    }

-- after m server jobs in turn, from the first that was not complete
module _ (used link : List ℕ) (i : ℕ) (from : Done) (budget offset period t : ℕ) where
  abbrev pub full : ℕ → Bool
  full k = leb budget (get_or used (slot_at i k) 0)

  unfoldable pub done_by : ℕ → Done
  done_by zero = from
  done_by (suc m) =
      cond (full (from.complete + suc m)) (with_one (done_by m) (get_or link (slot_at i (from.complete + suc m)) 0) offset period t) (done_by m)

abbrev pub from_at : Ledger → ℕ → Done
from_at l i = record { complete = complete_at l i; finished = finished_at l i; worst = worst_at l i }

module _ (plan : Plan) (offsets : List ℕ) (l : Ledger) (t : ℕ) where
  -- at place i
  abbrev pub done_at : ℕ → Done
  done_at i =
      done_by l.used l.link i (from_at l i) (budget_at plan i) (offset_at offsets i) (period_at plan i) t (released_at l i - complete_at l i)

  -- at the first n places
  abbrev pub finish_to : ℕ → Ledger
  finish_to n =
      record {
        released = l.released;
        complete = replaced (λ (i : ℕ). (done_at i).complete) l.complete n;
        linked = l.linked;
        finished = replaced (λ (i : ℕ). (done_at i).finished) l.finished n;
        worst = replaced (λ (i : ℕ). (done_at i).worst) l.worst n;
        used = l.used;
        link = l.link;
      }

  unfoldable pub finish : Ledger
  finish = finish_to (nodes_of plan)
