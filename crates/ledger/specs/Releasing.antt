-- The releases of an instant and their links, and the backlog test: what `release`, `backlogged` and their functions compute.
use Rattle.std.specs.Prelude.{Bool, not, ◌&&◌, ◌||◌, cond, List, Option, Some, None, unwrap_or, ℕ, ◌-◌, leb, ltb, eqb, get_or}
use Rattle.schedule.specs.Limits as Limits
use Rattle.numbers.specs.Masks.{bit}
use Rattle.window.specs.declared.Plan.{Plan}
use Rattle.window.specs.Entries.{places, further, after_at, period_at, nodes_of}
use Rattle.window.specs.Loops.{some_below, all_below}
use Rattle.ledger.specs.declared.Ledger.{Ledger}
use Rattle.ledger.specs.Entries.{slot_at, instant_after, offset_at, released_at, linked_at}
use Rattle.ledger.specs.Loops.{changed}

-- rule 1: the next server job, after `released` of them, is released at t
abbrev pub releases : (offset period released t : ℕ) → Bool
releases offset period released t = eqb (instant_after offset period released) t

-- job j of each predecessor is finished
abbrev pub all_finished : List ℕ → (mask j : ℕ) → Bool
all_finished finished mask j = all_below (λ (p : ℕ). not (bit mask p) || leb j (get_or finished p 0)) places

-- rule 2
abbrev pub is_due : List ℕ → (mask j released : ℕ) → Bool
is_due finished mask j released = cond (eqb mask 0) (leb j released) (all_finished finished mask j)

-- rule 3: the number of the job that is linked now, if there is one; and how many are linked after that
abbrev pub link_now : List ℕ → (mask j released : ℕ) → Option ℕ
link_now finished mask j released = cond (is_due finished mask j released) (Some j) None

abbrev pub linked_after : (linked : ℕ) → Option ℕ → ℕ
linked_after linked now = unwrap_or now linked

module _ (plan : Plan) (offsets : List ℕ) (l : Ledger) (t : ℕ) where
  -- at place i: whether it releases, the number of its next server job, and the job linked to that, also as the ledger has it, 0 for none
  abbrev pub releases_at : ℕ → Bool
  releases_at i = releases (offset_at offsets i) (period_at plan i) (released_at l i) t

  abbrev pub next_at : ℕ → ℕ
  next_at i = further (released_at l i) 1

  abbrev pub new_job : ℕ → Option ℕ
  new_job i = link_now l.finished (after_at plan i) (further (linked_at l i) 1) (next_at i)

  abbrev pub new_link : ℕ → ℕ
  new_link i = unwrap_or (new_job i) 0

  abbrev pub new_slot : ℕ → ℕ
  new_slot i = slot_at i (next_at i)

  -- at the first n places
  abbrev pub release_to : ℕ → Ledger
  release_to n =
      record {
        released = changed releases_at (λ (i : ℕ). i) next_at l.released n;
        complete = l.complete;
        linked = changed releases_at (λ (i : ℕ). i) (λ (i : ℕ). linked_after (linked_at l i) (new_job i)) l.linked n;
        finished = l.finished;
        worst = l.worst;
        used = changed releases_at new_slot (λ (i : ℕ). 0) l.used n;
        link = changed releases_at new_slot new_link l.link n;
      }

  unfoldable pub release : Ledger
  release = release_to (nodes_of plan)

-- more pending server jobs than are allowed or, at a sink, more unfinished invocations
abbrev pub overfull : (released complete finished room : ℕ) → Bool
overfull released complete finished room =
    ltb Limits.pending (released - complete) || (eqb room Limits.unfinished && ltb Limits.unfinished (released - finished))

abbrev pub backlogged : (released complete finished room : List ℕ) → ℕ → Bool
backlogged released complete finished room n =
    some_below (λ (i : ℕ). overfull (get_or released i 0) (get_or complete i 0) (get_or finished i 0) (get_or room i 0)) n
