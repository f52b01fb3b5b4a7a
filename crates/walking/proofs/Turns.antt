-- A span: its choice, its ticks and its work, over the lists of the server jobs that run, cut off behind the last one.
use mathlib.Core.Path.{◌≡◌, refl, ap, ◌∙◌}
use mathlib.Core.List.{List}
use Prim.Native.Nat.{ℕ, zero, suc, ◌+◌, ◌≤◌, ◌<◌}
use native.Mathlib.Omega.{arith}
use lib.ListN.{get_or, length, take}
use Rattle.std.proofs.lemmas.List.{get_or-take, length-take-le}
use Rattle.schedule.specs.Limits as Limits
use Rattle.schedule.proofs.Tests.{by_test}
use Rattle.table.specs.declared.State.{State}
use Rattle.window.specs.declared.Plan.{Plan}
use Rattle.window.specs.Entries.{nodes_of}
use Rattle.window.specs.Loops.{in_turn}
use Rattle.window.specs.Releasing.{earliest}
use Rattle.window.specs.Choosing.{Picked, picks, no_run, no_at, chosen_by, place_of}
use Rattle.window.specs.Spending.{ticks_to, least_left, spent}
use Rattle.window.specs.Finishing.{done_at, finish_at, finished_all}
use Rattle.window.specs.Working.{with_left, span_of, worked}
use Rattle.window.proofs.Fewer.{picks_most}

-- no more are chosen than there are processors
pub few_picked : (first count level step : List ℕ) (n processors m : ℕ) {run at : List ℕ} → Picked (picks first count level step n no_run no_at processors) m run at
    → processors ≤ (Limits.processors).to → m ≤ (Limits.processors).to
few_picked first count level step n processors m picked h =
    let most = picks_most first count level step n no_run no_at processors in
    omega (arith, picked.0)

-- of a list only its first m entries are looked at
module _ (at : List ℕ) (m : ℕ) where
  least_to : (left : List ℕ) (most k : ℕ) → k ≤ m → least_left left (take m at) most k ≡ least_left left at most k
  unfolding least_left
  least_to left most zero h = refl
  least_to left most (suc k) h = let l : k < m = omega arith in rw (least_to left most k (omega arith), get_or-take m at k 0 l)

  spent_to : (left : List ℕ) (d k : ℕ) → k ≤ m → spent left (take m at) d k ≡ spent left at d k
  unfolding spent
  spent_to left d zero h = refl
  spent_to left d (suc k) h = let l : k < m = omega arith in rw (spent_to left d k (omega arith), get_or-take m at k 0 l)

  finished_to : (plan : Plan) (now : ℕ) (st : State) (k : ℕ) → k ≤ m → finished_all plan now (take m at) st k ≡ finished_all plan now at st k
  unfolding in_turn
  finished_to plan now st zero h = refl
  finished_to plan now st (suc k) h = let l : k < m = omega arith in rw (finished_to plan now st k (omega arith), get_or-take m at k 0 l)

-- no next release changes by what runs
next_once : (plan : Plan) (now : ℕ) (st : State) (i : ℕ) → (finish_at plan now st i).next ≡ st.next
next_once plan now st i = by_test (done_at st.left st.count i) (λ t. rw t) (λ t. rw t)

pub next_kept : (plan : Plan) (now : ℕ) (run : List ℕ) (st : State) (k : ℕ) → (finished_all plan now run st k).next ≡ st.next
unfolding in_turn
next_kept plan now run st zero = refl
next_kept plan now run st (suc k) = next_once plan now (finished_all plan now run st k) (place_of (get_or run k 0)) ∙ next_kept plan now run st k

-- a span's choice, and its work
module _ (plan : Plan) (t boundary asked n m : ℕ) (run at : List ℕ) (a : State) (same : n ≡ nodes_of plan)
    (picked : Picked (picks a.first a.count plan.level plan.step n no_run no_at plan.processors) m run at) where
  c : Picked (chosen_by plan a.first a.count) m run at
  c = rw same at picked

  module _ (long : m ≤ length at) where
    pub span_is : (release most d : ℕ) → release ≡ earliest a.next (nodes_of plan) → most ≡ ticks_to t release boundary asked
        → d ≡ least_left a.left (take m at) most (length (take m at)) → d ≡ span_of plan t boundary asked a
    unfolding span_of
    span_is release most d next e f =
        let cut : length (take m at) ≡ m = length-take-le m at long in
        rw (← next, ← c.0, ← c.1.1, ← e) (f ∙ ap (least_left a.left (take m at) most) cut ∙ least_to at m a.left most m (omega arith))

    pub left_is : (d : ℕ) (left : List ℕ) → left ≡ spent a.left (take m at) d (length (take m at)) → left ≡ spent a.left at d m
    left_is d left f =
        let cut : length (take m at) ≡ m = length-take-le m at long in
        f ∙ ap (spent a.left (take m at) d) cut ∙ spent_to at m a.left d m (omega arith)

  pub worked_all : (d : ℕ) (left : List ℕ) (later : State) → m ≤ length run → left ≡ spent a.left at d m
      → later ≡ finished_all plan (t + d) (take m run) (with_left a left) (length (take m run)) → later ≡ worked plan t d a
  unfolding worked
  worked_all d left later long e f =
      let cut : length (take m run) ≡ m = length-take-le m run long in
      rw (← c.0, ← c.1.0, ← c.1.1, ← e)
      (f ∙ ap (finished_all plan (t + d) (take m run) (with_left a left)) cut ∙ finished_to run m plan (t + d) (with_left a left) m (omega arith))
