-- Document 01's state formed from a ledger, and two of them compared: what `form`, `same_state` and their functions compute.
use Rattle.std.specs.Prelude.{Bool, true, ◌&&◌, cond, List, ℕ, ◌+◌, ◌*◌, ◌-◌, ◌%◌, min, eqb, get_or, replicate}
use Rattle.window.specs.declared.Plan.{Plan}
use Rattle.window.specs.Entries.{places, further, budget_at, period_at, nodes_of}
use Rattle.window.specs.Loops.{all_below, replaced}
use Rattle.ledger.specs.declared.Ledger.{Ledger}
use Rattle.ledger.specs.declared.Formed.{Formed}
use Rattle.ledger.specs.Entries.{room, slots, slot_at, offset_at, released_at, complete_at, linked_at, finished_at}
use Rattle.ledger.specs.Loops.{changed, blocks}

abbrev pub phase_of : (t offset period : ℕ) → ℕ
phase_of t offset period = cond (eqb period 0) 0 ((t - offset) % period)

-- 0 for an unlinked server job k, else one more than by how many numbers job j lies behind it
abbrev pub behind_of : (k j : ℕ) → ℕ
behind_of k j = cond (eqb j 0) 0 (further (k - j) 1)

-- the d-th pending server job after the complete ones
abbrev pub job_at : (complete d : ℕ) → ℕ
job_at complete d = further complete (d + 1)

-- how many server jobs are pending at place i, and how many of them the state has room for
abbrev pub pending_of : Ledger → ℕ → ℕ
pending_of l i = released_at l i - complete_at l i

abbrev pub shown_of : Ledger → ℕ → ℕ
shown_of l i = min (pending_of l i) room

abbrev pub left_by : (used : List ℕ) → (i complete budget : ℕ) → List ℕ → ℕ → List ℕ
left_by used i complete budget left m =
    changed (λ (d : ℕ). true) (λ (d : ℕ). i * room + d) (λ (d : ℕ). budget - get_or used (slot_at i (job_at complete d)) 0) left m

abbrev pub behind_by : (link : List ℕ) → (i complete : ℕ) → List ℕ → ℕ → List ℕ
behind_by link i complete behind m =
    changed (λ (d : ℕ). true) (λ (d : ℕ). i * room + d) (λ (d : ℕ). behind_of (job_at complete d) (get_or link (slot_at i (job_at complete d)) 0)) behind m

abbrev pub zeros : ℕ → List ℕ
zeros n = replicate n 0

abbrev pub blank_state : Formed
blank_state =
    record {
      phase = zeros places;
      unfinished = zeros places;
      unlinked = zeros places;
      pending = zeros places;
      left = zeros slots;
      behind = zeros slots;
    }

module _ (plan : Plan) (offsets : List ℕ) (l : Ledger) (t : ℕ) where
  abbrev pub count_at : ℕ → ℕ
  count_at i = pending_of l i

  -- of the d-th pending server job at place i
  abbrev pub left_of : ℕ → ℕ → ℕ
  left_of i d = budget_at plan i - get_or l.used (slot_at i (job_at (complete_at l i) d)) 0

  abbrev pub behind_at : ℕ → ℕ → ℕ
  behind_at i d = behind_of (job_at (complete_at l i) d) (get_or l.link (slot_at i (job_at (complete_at l i) d)) 0)

  abbrev pub shown : ℕ → ℕ
  shown i = shown_of l i

  -- of the first n places
  abbrev pub form_to : ℕ → Formed
  form_to n =
      record {
        phase = replaced (λ (i : ℕ). phase_of t (offset_at offsets i) (period_at plan i)) (zeros places) n;
        unfinished = replaced (λ (i : ℕ). released_at l i - finished_at l i) (zeros places) n;
        unlinked = replaced (λ (i : ℕ). released_at l i - linked_at l i) (zeros places) n;
        pending = replaced count_at (zeros places) n;
        left = blocks left_of shown (zeros slots) n;
        behind = blocks behind_at shown (zeros slots) n;
      }

  unfoldable pub form : Formed
  form = form_to (nodes_of plan)

abbrev pub same_numbers : List ℕ → List ℕ → ℕ → Bool
same_numbers x y n = all_below (λ (i : ℕ). eqb (get_or x i 0) (get_or y i 0)) n

abbrev pub same_pending : List ℕ → List ℕ → (i count : ℕ) → Bool
same_pending x y i count = all_below (λ (d : ℕ). eqb (get_or x (i * room + d) 0) (get_or y (i * room + d) 0)) (min count room)

abbrev pub same_slots : List ℕ → List ℕ → List ℕ → ℕ → Bool
same_slots x y pending n = all_below (λ (i : ℕ). same_pending x y i (get_or pending i 0)) n

abbrev pub same_formed : Formed → Formed → ℕ → Bool
same_formed a b n =
    same_numbers a.phase b.phase n
    && (same_numbers a.unfinished b.unfinished n
    && (same_numbers a.unlinked b.unlinked n
    && (same_numbers a.pending b.pending n
    && (same_slots a.left b.left a.pending n && same_slots a.behind b.behind a.pending n))))
