-- Forming: one entry more, one place more. Comparing: one test after another.
use mathlib.Core.Path.{◌≡◌, refl, ap, ◌∙◌}
use mathlib.Core.Bool.{Bool, true, false, ◌&&◌}
use mathlib.Core.List.{List}
use Prim.Native.Nat.{ℕ, ◌+◌, ◌*◌, ◌-◌, ◌≤◌}
use native.Mathlib.Numerals.{add-one}
use native.Mathlib.Omega.{arith}
use lib.ListN.{get_or, set}
use Rattle.window.specs.Loops.{replaced}
use Rattle.window.specs.declared.Plan.{Plan}
use Rattle.window.specs.Entries.{budget_at, period_at, nodes_of}
use Rattle.ledger.specs.declared.Ledger.{Ledger}
use Rattle.ledger.specs.declared.Formed.{Formed}
use Rattle.ledger.specs.Entries.{room, slot_at, offset_at, released_at, complete_at, linked_at, finished_at}
use Rattle.ledger.specs.Loops.{changed, blocks}
use Rattle.ledger.specs.Forming.{phase_of, behind_of, job_at, left_by, behind_by, blank_state, count_at, shown, form_to, form}

-- one entry more
module _ (used : List ℕ) (i complete budget : ℕ) (left : List ℕ) where
  pub left_start : left ≡ left_by used i complete budget left 0
  unfolding changed
  left_start = refl

  pub left_more : (d : ℕ) {u : List ℕ} {k s e x : ℕ} → u ≡ left_by used i complete budget left d → k ≡ job_at complete d → s ≡ slot_at i k → e ≡ i * room + d
      → x ≡ budget - get_or used s 0 → set u e x ≡ left_by used i complete budget left (d + 1)
  unfolding changed
  left_more d ue ke se ee xe = rw (add-one d, xe, ee, se, ke, ue)

module _ (link : List ℕ) (i complete : ℕ) (behind : List ℕ) where
  pub behind_start : behind ≡ behind_by link i complete behind 0
  unfolding changed
  behind_start = refl

  pub behind_more : (d : ℕ) {u : List ℕ} {k s e x : ℕ} → u ≡ behind_by link i complete behind d → k ≡ job_at complete d → s ≡ slot_at i k → e ≡ i * room + d
      → x ≡ behind_of k (get_or link s 0) → set u e x ≡ behind_by link i complete behind (d + 1)
  unfolding changed
  behind_more d ue ke se ee xe = rw (add-one d, xe, ee, se, ke, ue)

-- one place more of the state, and all of them
module _ (plan : Plan) (offsets : List ℕ) (l : Ledger) (t : ℕ) where
  pub form_start : {f : Formed} → f ≡ blank_state → f ≡ form_to plan offsets l t 0
  unfolding replaced blocks
  form_start e = e

  pub form_more : (i : ℕ) {f : Formed} {ph uf ul count : ℕ} {left behind : List ℕ} → f ≡ form_to plan offsets l t i
      → ph ≡ phase_of t (offset_at offsets i) (period_at plan i) → uf ≡ released_at l i - finished_at l i → ul ≡ released_at l i - linked_at l i
      → count ≡ count_at plan offsets l t i → left ≡ left_by l.used i (complete_at l i) (budget_at plan i) f.left (shown plan offsets l t i)
      → behind ≡ behind_by l.link i (complete_at l i) f.behind (shown plan offsets l t i)
      → ◌≡◌ {A = Formed}
      (record {
        phase = set f.phase i ph;
        unfinished = set f.unfinished i uf;
        unlinked = set f.unlinked i ul;
        pending = set f.pending i count;
        left = left;
        behind = behind;
      })
      (form_to plan offsets l t (i + 1))
  unfolding replaced blocks
  form_more i fe phe ufe ule ce le he = rw (add-one i, he, le, ce, ule, ufe, phe, fe)

  pub form_all : (n i : ℕ) {f : Formed} → n ≡ nodes_of plan → f ≡ form_to plan offsets l t i → i ≤ n → n ≤ i → f ≡ form plan offsets l t
  unfolding form
  form_all n i e fe h g = let z : i ≡ nodes_of plan = omega arith in fe ∙ ap (form_to plan offsets l t) z

-- one test after another, as far as they are made: the first, r, passes or fails
pub and_then : {a r : Bool} (b : Bool) {v : Bool} → r ≡ a → r ≡ true → v ≡ b → v ≡ (a && b)
and_then b e f g = rw (← e, f) g

pub and_else : {a r : Bool} (b : Bool) {v : Bool} → r ≡ a → r ≡ false → v ≡ r → v ≡ (a && b)
and_else b e f g = rw (← e, f) (g ∙ f)
