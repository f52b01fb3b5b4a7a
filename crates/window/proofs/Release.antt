-- Release and link keep the relation: where the rules have no backlog at t, the engine's releases take a state in step at t to the state
-- after the rules' releases and links. The counts have room, and no key and no instant is cut off at the largest.
use mathlib.Core.Path.{◌≡◌, refl, ◌∙◌}
use mathlib.Core.Bool.{Bool, true, false, ◌&&◌, ◌||◌, cond}
use mathlib.Core.List.{List}
use Prim.Native.Nat.{ℕ, suc, ◌+◌, ◌*◌, ◌-◌, ◌^◌, ◌≤◌, ◌<◌}
use native.Mathlib.Omega.{arith}
use native.Mathlib.Decide.{ℕ_discrete}
use lib.Dec.{T, leb, ltb, eqb, ltb→lt, lt→ltb, le→leb, eqb→eq}
use lib.ListN.{length, get_or, set, length-set}
use lib.Seq.{get_or-set_same, get_or-set_other}
use borrow.Author.Tests.{eqb-false}
use Rattle.schedule.specs.Limits as Limits
use Rattle.schedule.specs.Lists.{any?}
use Rattle.schedule.specs.Servers.{Server, srv, Box, whole}
use Rattle.schedule.specs.ServerJobs.{release_of, released, released_before, priority_of}
use Rattle.schedule.specs.Walk.{figure}
use Rattle.schedule.proofs.Tests.{and_r, and_i, or_l, or_r, by_lt, either_way, dec, T_true, true_T, eq→eqb}
use Rattle.theorems.proofs.InTurn.{used_by, used_out, completed, completed_le}
use Rattle.theorems.proofs.Linking.{link_of, links_old, same_count}
use Rattle.table.specs.declared.State.{State}
use Rattle.window.specs.declared.Plan.{Plan}
use Rattle.window.specs.Entries.{places, window, no_server, server_at, count_at, unfinished_at, unlinked_at, next_at}
use Rattle.window.specs.Entries.{budget_at, room_at, nodes_of}
use Rattle.window.specs.Loops.{in_turn}
use Rattle.window.specs.Releasing.{earliest, full_at, any_full, releases_at, one_more}
use Rattle.window.specs.Releasing.{due_at, key_at, later_at, counted_unlinked, released_with, release_one, released_at}
use Rattle.window.specs.Releasing as Engine
use Rattle.window.proofs.Relation.{last_instant, Fits, Row, Sized, InStep, Released}
use Rattle.window.proofs.Loops.{below_some, SameAt, same_at_self, PlaceByPlace, in_turn_sized, in_turn_at}
use Rattle.window.proofs.Instants.{next_release}
use Rattle.window.proofs.Places.{nodes_are, sink_inside, releases_are}
use Rattle.window.proofs.Ancestors.{few_in_step, unlinked_in_step}
use Rattle.window.proofs.Earliest.{earliest_now}
use Rattle.window.proofs.Rows.{pushed_length, row_carried, row_relinked, PushedAt, row_pushed}
use Rattle.window.proofs.Due.{new_link_lem}

-- what both branches have
cond_has : {A : Type 0} (P : A → Type 0) (b : Bool) (x y : A) → (T b → P x) → P y → P (cond b x y)
cond_has P true x y f g = f tt
cond_has P false x y f g = g

by_eq : {C : Type 0} (a b : ℕ) → (a ≡ b → C) → ((a ≡ b → ⊥) → C) → C
by_eq {C} a b f g = go (ℕ_discrete a b)
  where
    go : Dec (a ≡ b) → C
    go (yes e) = f e
    go (no e) = g e

-- a number written, or not
length_if_lem : (b : Bool) (xs : List ℕ) (i x : ℕ) → length (cond b (set xs i x) xs) ≡ length xs
length_if_lem true xs i x = length-set xs i x
length_if_lem false xs i x = refl

length_unless : (b : Bool) (xs : List ℕ) (i x : ℕ) → length (cond b xs (set xs i x)) ≡ length xs
length_unless true xs i x = refl
length_unless false xs i x = length-set xs i x

other_if : (b : Bool) (xs : List ℕ) (n i x : ℕ) → (i ≡ n → ⊥) → get_or (cond b (set xs n x) xs) i 0 ≡ get_or xs i 0
other_if true xs n i x e = get_or-set_other xs n i x 0 e
other_if false xs n i x e = refl

other_unless : (b : Bool) (xs : List ℕ) (n i x : ℕ) → (i ≡ n → ⊥) → get_or (cond b xs (set xs n x)) i 0 ≡ get_or xs i 0
other_unless true xs n i x e = refl
other_unless false xs n i x e = get_or-set_other xs n i x 0 e

first_entered : (b : Bool) (xs : List ℕ) (i key : ℕ) → i < length xs → get_or (cond b (set xs i key) xs) i 0 ≡ cond b key (get_or xs i 0)
first_entered true xs i key h = get_or-set_same xs i key 0 h
first_entered false xs i key h = refl

unlinked_counted : (due : Bool) (xs : List ℕ) (i : ℕ) → i < length xs → get_or xs i 0 < 2 ^ 8 - 1
    → get_or (counted_unlinked xs i due) i 0 ≡ get_or xs i 0 + cond due 0 1
unlinked_counted true xs i h l = omega arith
unlinked_counted false xs i h l = omega (arith, get_or-set_same xs i (one_more (get_or xs i 0)) 0 h)

-- one release touches its own place only
module _ (plan : Plan) (t : ℕ) (before : List ℕ) where
  abbrev step : State → ℕ → State
  step st n = release_one plan t before st n

  abbrev now? : State → ℕ → Bool
  now? st n = releases_at st.next st.count n t

  with_sized : (st : State) (n : ℕ) → n < places → Sized st → Sized (released_with plan t before st n)
  with_sized st n l ok =
      record {
        servers = length-set st.servers n _ ∙ ok.servers;
        jobs = λ i h.
            by_eq i n
            (λ e. rw (e, get_or-set_same st.servers n _ no_server (omega (arith, ok.servers)))
            (pushed_length (server_at st n) (count_at st n) _ (ok.jobs n l)))
            (λ e. rw (get_or-set_other st.servers n i _ no_server e) (ok.jobs i h));
        left = length-set st.left (n * window + count_at st n) _ ∙ ok.left;
        first = length_if_lem (eqb (count_at st n) 0) st.first n _ ∙ ok.first;
        count = length-set st.count n _ ∙ ok.count;
        unfinished = length-set st.unfinished n _ ∙ ok.unfinished;
        unlinked = length_unless (due_at plan before st n) st.unlinked n _ ∙ ok.unlinked;
        worst = ok.worst;
        next = length-set st.next n _ ∙ ok.next;
      }

  with_others : (st : State) (n i : ℕ) → count_at st n < window → (i ≡ n → ⊥) → SameAt i st (released_with plan t before st n)
  with_others st n i room e =
      record {
        server = get_or-set_other st.servers n i _ no_server e;
        count = get_or-set_other st.count n i _ 0 e;
        first = other_if (eqb (count_at st n) 0) st.first n i _ e;
        unfinished = get_or-set_other st.unfinished n i _ 0 e;
        unlinked = other_unless (due_at plan before st n) st.unlinked n i _ e;
        worst = refl;
        next = get_or-set_other st.next n i _ 0 e;
        left = λ d h. get_or-set_other st.left (n * window + count_at st n) (i * window + d) _ 0 (λ q. omega arith);
      }

  place_by_place : (m : ℕ) → m ≤ places → PlaceByPlace step m
  place_by_place m h =
      record {
        sized = λ st n l ok. cond_has Sized (now? st n) (released_with plan t before st n) st (λ _. with_sized st n (omega arith) ok) ok;
        others = λ st n i l e.
            cond_has (SameAt i st) (now? st n) (released_with plan t before st n) st
            (λ w.
            let room = ltb→lt (count_at st n) window (and_r (eqb (next_at st n) t) (ltb (count_at st n) window) w) in with_others st n i room e)
            (same_at_self i st);
      }

  -- what it puts there
  with_pushed : (st : State) (i budget : ℕ) → i < places → Sized st → count_at st i < window → unfinished_at st i < 2 ^ 8 - 1
      → unlinked_at st i < 2 ^ 8 - 1 → budget_at plan i ≡ budget
      → PushedAt i (due_at plan before st i) budget (key_at plan t i) (later_at plan st i) st (released_with plan t before st i)
  with_pushed st i budget l ok room few fewer e =
      record {
        server = get_or-set_same st.servers i _ no_server (omega (arith, ok.servers));
        count = get_or-set_same st.count i (count_at st i + 1) 0 (omega (arith, ok.count));
        first = first_entered (eqb (count_at st i) 0) st.first i (key_at plan t i) (omega (arith, ok.first));
        left = λ d h. get_or-set_other st.left (i * window + count_at st i) (i * window + d) _ 0 (λ q. omega arith);
        left_new = get_or-set_same st.left (i * window + count_at st i) _ 0 (omega (arith, ok.left)) ∙ e;
        unfinished = omega (arith, get_or-set_same st.unfinished i (one_more (unfinished_at st i)) 0 (omega (arith, ok.unfinished)));
        unlinked = unlinked_counted (due_at plan before st i) st.unlinked i (omega (arith, ok.unlinked)) fewer;
        worst = refl;
        next_is = get_or-set_same st.next i (later_at plan st i) 0 (omega (arith, ok.next));
      }

module _ (X : Box) (plan : Plan) (fits : Fits X plan) (t : ℕ) (st : State) (now : InStep X t st) (early : t ≤ last_instant)
    (free : (eqb t (earliest st.next (nodes_of plan)) && any_full st.next st.count st.unfinished plan.room t (nodes_of plan)) ≡ false)
  where
    abbrev S : List Server
    S = X.servers

    abbrev first : ℕ
    first = earliest st.next (nodes_of plan)

    abbrev releasing : ℕ → Bool
    releasing i = eqb (next_at st i) t

    first_now : (i : ℕ) → i < length S → T (releasing i) → t ≡ first
    first_now i h r = earliest_now X plan fits t early st now i h (eqb→eq (next_at st i) t r)

    -- a server that releases has room in its window, and a sink for one more unfinished invocation
    abbrev full : ℕ → Bool
    full i = full_at st.next st.count st.unfinished plan.room t i

    not_full : (i : ℕ) → i < length S → T (releasing i) → T (leb window (count_at st i) || leb (room_at plan i) (unfinished_at st i)) → ⊥
    not_full i h r f =
        let b = below_some full (nodes_of plan) i (omega (arith, nodes_are X plan fits)) (and_i (releasing i) _ r f) in
        let z : T false =
        rw free at
        (and_i (eqb t first) (any_full st.next st.count st.unfinished plan.room t (nodes_of plan)) (eq→eqb t first (first_now i h r)) b) in
        absurd z

    has_room : (i : ℕ) → i < length S → T (releasing i) → count_at st i < window
    has_room i h r =
        let full? = leb window (count_at st i) in
        let late = leb (room_at plan i) (unfinished_at st i) in
        by_lt (count_at st i) window (λ l. l) (λ l. absurd (not_full i h r (or_l full? late (le→leb window (count_at st i) l))))

    few_more : (i : ℕ) → T (any? (eqb i) X.sinks) → T (releasing i) → unfinished_at st i < Limits.unfinished
    few_more i m r =
        let h = sink_inside X plan fits i m in
        let room : room_at plan i ≡ Limits.unfinished = (fits.at i h).room ∙ rw (T_true {b = any? (eqb i) X.sinks} m) in
        let full? = leb window (count_at st i) in
        let late = leb (room_at plan i) (unfinished_at st i) in
        by_lt (unfinished_at st i) Limits.unfinished (λ l. l)
        (λ l. absurd (not_full i h r (or_r full? late (le→leb (room_at plan i) (unfinished_at st i) (omega arith)))))

    -- the key of the server job released at t is its priority and its place
    key_is : (i : ℕ) → i < length S → T (releasing i)
        → key_at plan t i ≡ priority_of (srv S i) (suc (released_before (srv S i) t)) * places + i
    unfolding priority_of
    key_is i h r =
        let p = fits.at i h in
        omega (arith, p.lead, p.point_most, (now.row i h).next, eqb→eq (next_at st i) t r, fits.small)

    next_is : (i : ℕ) → i < length S → T (releasing i)
        → later_at plan st i ≡ release_of (srv S i) (suc (suc (released_before (srv S i) t)))
    next_is i h r =
        let p = fits.at i h in
        let n = released_before (srv S i) t in
        omega (arith, p.period, p.period_most, (now.row i h).next, eqb→eq (next_at st i) t r, next_release (srv S i) (suc n) (omega arith))

    abbrev RowAfter : ℕ → State → Type 0
    RowAfter i after =
        Row (srv S i) i (used_by S X.cap t i) (link_of S X.cap (whole S) (suc t) i) (released (srv S i) t) (completed S X.cap t i)
        (figure X (whole S) i t) after

    -- the server at i in a state that has there what `st` has
    module _ (i : ℕ) (h : i < length S) (before : State) (ok : Sized before) (same : SameAt i st before) where
      abbrev s : Server
      s = srv S i

      abbrev N : ℕ
      N = released_before s t

      abbrev U : ℕ → ℕ
      U = used_by S X.cap t i

      abbrev L : ℕ → ℕ
      L = link_of S X.cap (whole S) t i

      abbrev L' : ℕ → ℕ
      L' = link_of S X.cap (whole S) (suc t) i

      abbrev c : ℕ
      c = completed S X.cap t i

      abbrev W : ℕ
      W = figure X (whole S) i t

      old : (k : ℕ) → 1 ≤ k → k ≤ N → L' k ≡ L k
      old k a b = links_old S X.cap (whole S) t i k a b

      row_before : Row s i U L N c W before
      row_before = row_carried s i U L N c W st before same (now.row i h)

      -- where none is released: the next release is still the same
      kept : releasing i ≡ false → RowAfter i before
      kept e =
          let n : released s t ≡ N = releases_are X plan fits t st now i h ∙ rw e (omega arith) in
          rw n (row_relinked s i U L L' N c W old before row_before)

      abbrev after : State
      after = released_with plan t st.unfinished before i

      pushed_row : releasing i ≡ true → RowAfter i after
      pushed_row e =
          let r : T (releasing i) = true_T (releasing i) e in
          let n : released s t ≡ suc N = releases_are X plan fits t st now i h ∙ rw e (omega arith) in
          let inside : i < places = omega (arith, fits.small) in
          let room : count_at before i < window = rw same.count (has_room i h r) in
          let few = few_in_step X plan fits t st now i h in
          let push =
          with_pushed plan t st.unfinished before i s.budget inside ok room (omega (arith, same.unfinished))
          (omega (arith, same.unlinked, unlinked_in_step X plan fits t st now i h)) (fits.at i h).budget in
          rw n
          (row_pushed s i U L L' N c W old (due_at plan st.unfinished before i) (key_at plan t i) (later_at plan before i) before after row_before push
          (ok.jobs i inside) room
          (used_out S X.cap t i (suc N) (omega arith)) (rw same.unlinked (new_link_lem X plan fits t st now i h (omega arith)))
          (λ _. key_is i h r) (rw same.next (next_is i h r)))

      row_step : RowAfter i (release_one plan t st.unfinished before i)
      row_step =
          let room? = ltb (count_at before i) window in
          let e : eqb (next_at before i) t ≡ releasing i = rw same.next in
          either_way (dec (releasing i))
          (λ yes.
          let r : T room? = lt→ltb (count_at before i) window (omega (arith, same.count, has_room i h (true_T (releasing i) yes))) in
          rw (e, yes, T_true {b = room?} r) (pushed_row yes))
          (λ not. rw (e, not) (kept not))

    released_if : (after : State) → Sized after → ((i : ℕ) → i < length S → RowAfter i after) → Released X t after
    released_if after ok row =
        record {
          sized = ok;
          row = row;
          sinks = λ i m.
              let h = sink_inside X plan fits i m in
              let n = released_before (srv S i) t in
              let c = completed S X.cap t i in
              let same = same_count S X.cap (whole S) t i c (completed_le S X.cap t i) in
              either_way (dec (releasing i))
              (λ yes.
              let e : released (srv S i) t ≡ suc n = releases_are X plan fits t st now i h ∙ rw yes (omega arith) in
              omega (arith, e, same, (row i h).unfinished, (now.row i h).unfinished, few_more i m (true_T (releasing i) yes)))
              (λ not.
              let e : released (srv S i) t ≡ n = releases_are X plan fits t st now i h ∙ rw not (omega arith) in
              omega (arith, e, same, (row i h).unfinished, (now.row i h).unfinished, now.sinks i m));
        }

    abbrev each_step : State → ℕ → State
    each_step = release_one plan t st.unfinished

    by_place_lem : PlaceByPlace each_step (nodes_of plan)
    by_place_lem = place_by_place plan t st.unfinished (nodes_of plan) (omega arith)

    some_release : Released X t (Engine.released plan t st)
    unfolding Engine.released
    some_release =
        released_if (in_turn each_step st (nodes_of plan)) (in_turn_sized each_step (nodes_of plan) by_place_lem st now.sized (nodes_of plan) (omega arith))
        (λ i h.
        let a =
        in_turn_at each_step (nodes_of plan) by_place_lem st now.sized (nodes_of plan) i (omega arith) (omega (arith, nodes_are X plan fits)) in
        row_carried (srv S i) i (used_by S X.cap t i) (link_of S X.cap (whole S) (suc t) i) (released (srv S i) t) (completed S X.cap t i)
        (figure X (whole S) i t) (each_step a.before i) (in_turn each_step st (nodes_of plan)) a.step
        (row_step i h a.before a.sized a.same))

    none_releases : (t ≡ first → ⊥) → Released X t st
    none_releases none =
        released_if st now.sized
        (λ i h. either_way (dec (releasing i)) (λ yes. absurd (none (first_now i h (true_T (releasing i) yes))))
        (λ not. kept i h st now.sized (same_at_self i st) not))

    pub release_keeps : Released X t (released_at plan t st)
    release_keeps =
        either_way (dec (eqb t first)) (λ yes. rw yes some_release) (λ not. rw not (none_releases (eqb-false t first not)))
