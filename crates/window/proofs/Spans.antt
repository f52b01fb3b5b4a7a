-- The span from t on ends at the next release, boundary or instant asked, or where the first of the budgets of those that run is used up: it has
-- a tick at least, and it is quiet.
use mathlib.Core.Path.{◌≡◌, sym, ◌∙◌}
use mathlib.Core.List.{List}
use Prim.Native.Nat.{ℕ, zero, suc, ◌+◌, ◌*◌, ◌-◌, ◌≤◌, ◌<◌}
use native.Mathlib.Nat.{le_refl, not-suc-le-zero}
use native.Mathlib.Omega.{arith}
use lib.Dec.{T}
use lib.ListN.{length, get_or}
use borrow.Author.Tests.{lt-ltb, le-ltb}
use Rattle.schedule.specs.Servers.{Server, Box}
use Rattle.schedule.proofs.Tests.{by_lt}
use Rattle.theorems.proofs.InTurn.{budget_of, used_by, running, completed}
use Rattle.theorems.proofs.InTurn as InTurn
use Rattle.theorems.proofs.QuietSpans.{Quiet, quiet_until}
use Rattle.table.specs.declared.State.{State}
use Rattle.window.specs.declared.Plan.{Plan}
use Rattle.window.specs.Entries.{window, last_key, count_at, left_at, nodes_of}
use Rattle.window.specs.Releasing.{earliest}
use Rattle.window.specs.Choosing.{Picks, chosen}
use Rattle.window.specs.Spending.{first_of, ticks_to, place_at, lesser, least_left}
use Rattle.window.specs.Working.{span_of}
use Rattle.window.proofs.Relation.{last_instant, Fits, Released}
use Rattle.window.proofs.Earliest.{earliest_after, earliest_release}
use Rattle.window.proofs.Chosen.{ChosenAt, entry_runs, runs_at}

module _ (x least : ℕ) where
  lesser_most : lesser x least ≤ least
  lesser_most =
      by_lt 0 x
      (λ h. rw (lt-ltb 0 x h)
      (by_lt x least (λ l. rw (lt-ltb x least l) (omega arith)) (λ l. rw (le-ltb x least l) (le_refl least))))
      (λ h. rw (le-ltb 0 x h) (le_refl least))

  lesser_own : 0 < x → lesser x least ≤ x
  lesser_own h = rw (lt-ltb 0 x h) (by_lt x least (λ l. rw (lt-ltb x least l) (omega arith)) (λ l. rw (le-ltb x least l) (omega arith)))

  lesser_some : 1 ≤ least → 1 ≤ lesser x least
  lesser_some s =
      by_lt 0 x (λ h. rw (lt-ltb 0 x h) (by_lt x least (λ l. rw (lt-ltb x least l) h) (λ l. rw (le-ltb x least l) s)))
      (λ h. rw (le-ltb 0 x h) s)

module _ (left at : List ℕ) (most : ℕ) where
  abbrev least : ℕ → ℕ
  least m = least_left left at most m

  abbrev entry : ℕ → ℕ
  entry r = get_or left (place_at at r) 0

  least_most : (m : ℕ) → least m ≤ most
  unfolding least_left
  least_most zero = le_refl most
  least_most (suc m) = omega (arith, lesser_most (entry m) (least m), least_most m)

  least_some : (m : ℕ) → 1 ≤ most → 1 ≤ least m
  unfolding least_left
  least_some zero s = s
  least_some (suc m) s = lesser_some (entry m) (least m) (least_some m s)

  least_each : (m r : ℕ) → r < m → 0 < entry r → least m ≤ entry r
  unfolding least_left
  least_each zero r h s = absurd (not-suc-le-zero h)
  least_each (suc m) r h s =
      by_lt r m (λ l. omega (arith, lesser_most (entry m) (least m), least_each m r l s))
      (λ l. let e : r ≡ m = omega arith in rw e (let s' : 0 < entry m = rw e at s in lesser_own (entry m) (least m) s'))

earliest_most : (next : List ℕ) (n : ℕ) → earliest next n ≤ last_key
unfolding earliest
earliest_most next zero = le_refl last_key
earliest_most next (suc n) = omega (arith, earliest_most next n)

-- where an entry of the choice has its budget left
pub entry_place : (X : Box) (plan : Plan) (t : ℕ) (st : State) → Fits X plan → Released X t st → (r : ℕ) (e : ChosenAt X plan t st r)
    → place_at (chosen plan st).at r ≡ e.place * window + e.slot
entry_place X plan t st fits rel r e =
    rw e.at (omega (arith, e.inside, fits.small, e.within, (rel.row e.place e.inside).room))

-- what a span of d ticks from t on keeps to
pub record Span (X : Box) (plan : Plan) (t boundary asked : ℕ) (st : State) (d : ℕ) : Type 0 where
  pub some : 1 ≤ d
  pub to_boundary : t + d ≤ boundary
  pub to_asked : t + d ≤ asked
  pub to_last : t + d ≤ last_key
  pub quiet : Quiet X.servers X.cap t d
  pub left : (r : ℕ) (e : ChosenAt X plan t st r) → r < (chosen plan st).count → d ≤ left_at st e.place e.slot

module _ (X : Box) (plan : Plan) (t : ℕ) (st : State) (fits : Fits X plan) (rel : Released X t st) (near : t ≤ last_instant) where
  abbrev S : List Server
  S = X.servers

  abbrev c : Picks
  c = chosen plan st

  abbrev release : ℕ
  release = earliest st.next (nodes_of plan)

  -- one that runs has budget left
  some_left : (r : ℕ) (e : ChosenAt X plan t st r) → r < c.count → 0 < left_at st e.place e.slot
  some_left r e l =
      let k = completed S X.cap t e.place + 1 + e.slot in
      let p = InTurn.running_ready S X.cap t e.place k (entry_runs X plan t st fits rel near r l e) in
      omega (arith, p.pends.left, (rel.row e.place e.inside).left e.slot (omega (arith, e.within)))

  module _ (boundary asked : ℕ) (later : t < boundary) (more : t < asked) where
    abbrev to : ℕ
    to = first_of release boundary asked

    abbrev d : ℕ
    d = least_left st.left c.at (ticks_to t release boundary asked) c.count

    ticks : ticks_to t release boundary asked ≡ to - t
    ticks =
        let l : t < to = omega (arith, earliest_after X plan fits t near st rel) in
        rw (lt-ltb t to l)

    ends : t + d ≤ to
    ends =
        omega (
          arith,
          ticks,
          least_most st.left c.at (ticks_to t release boundary asked) c.count,
          earliest_after X plan fits t near st rel,
        )

    to_left : (r : ℕ) (e : ChosenAt X plan t st r) → r < c.count → d ≤ left_at st e.place e.slot
    to_left r e l =
        let p = entry_place X plan t st fits rel r e in
        let z = some_left r e l in
        rw p at (least_each st.left c.at (ticks_to t release boundary asked) c.count r l (rw p z))

    to_budget : (i k : ℕ) → T (running S X.cap t i k) → used_by S X.cap t i k + d ≤ budget_of S i
    to_budget i k r =
        let a = runs_at X plan t st fits rel near i k r in
        let e = a.entry in
        let h : i < length S = rw a.place at e.inside in
        let own : d ≤ left_at st i e.slot = rw a.place at (to_left a.at e a.below_count) in
        let w : e.slot < count_at st i = rw a.place at (within a.at e) in
        let sum : left_at st i e.slot + used_by S X.cap t i k ≡ budget_of S i = rw a.number at ((rel.row i h).left e.slot w) in
        omega arith
      where
        within : (r : ℕ) (e : ChosenAt X plan t st r) → e.slot < count_at st e.place
        within r e = omega (arith, e.within)

    pub spans : Span X plan t boundary asked st (span_of plan t boundary asked st)
    unfolding span_of
    spans =
        record {
          some = least_some st.left c.at (ticks_to t release boundary asked) c.count
              (omega (arith, ticks, earliest_after X plan fits t near st rel));
          to_boundary = omega (arith, ends);
          to_asked = omega (arith, ends);
          to_last = omega (arith, ends, earliest_most st.next (nodes_of plan));
          quiet = quiet_until S X.cap t d (λ i h. (fits.at i h).period_some)
              (λ i h. omega (arith, ends, earliest_release X plan fits t near st rel i h)) to_budget (λ e l. fits.cap (t + e) ∙ sym (fits.cap t));
          left = to_left;
        }
