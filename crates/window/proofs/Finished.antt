-- What is complete at a span's end is dropped, one server job for each entry of the choice: a server job that became complete ran, so it has an
-- entry, and of one server the entries come in number order. So after all of them none that is complete is left.
use mathlib.Core.Path.{◌≡◌, sym, ◌∙◌}
use mathlib.Core.Bool.{true, false, ◌&&◌, cond}
use mathlib.Core.List.{List}
use Prim.Native.Nat.{ℕ, zero, suc, ◌+◌, ◌*◌, ◌-◌, ◌≤◌, ◌<◌, max, zero-le}
use native.Mathlib.Nat.{le_refl, mul-zero}
use native.Mathlib.Omega.{arith}
use lib.Dec.{T, leb, ltb, eqb, ltb→lt, eqb→eq}
use lib.ListN.{length, get_or}
use borrow.Author.Tests.{lt-ltb, le-ltb, le-leb, eq-eqb}
use Rattle.schedule.specs.Lists.{one?}
use Rattle.schedule.specs.Servers.{Server, srv, Box, whole}
use Rattle.schedule.specs.ServerJobs.{release_of, released, released_before, priority_of}
use Rattle.schedule.proofs.Tests.{by_lt, either_way, dec, true_T, and_l, and_r}
use Rattle.theorems.proofs.Counts.{server_job}
use Rattle.theorems.proofs.Releases.{released_before_le}
use Rattle.theorems.proofs.InTurn.{used_by, running, completed, completed_le, is_complete, not_complete}
use Rattle.theorems.proofs.Linking.{link_of}
use Rattle.theorems.proofs.Finishing.{link_le}
use Rattle.theorems.proofs.QuietSpans.{grown}
use Rattle.table.specs.declared.State.{State}
use Rattle.window.specs.declared.Plan.{Plan}
use Rattle.window.specs.Entries.{places, window, further, count_at, first_at, next_at, left_at, period_at, step_at}
use Rattle.window.specs.Loops.{in_turn}
use Rattle.window.specs.Choosing.{place_of, chosen}
use Rattle.window.specs.Finishing.{done_at, response_of, finished_with, finish_at, finished_all}
use Rattle.window.proofs.Relation.{last_instant, Fits, Row, Sized, Released}
use Rattle.window.proofs.Loops.{SameAt, same_at_self}
use Rattle.window.proofs.Rows.{row_carried}
use Rattle.window.proofs.Keys.{slot_job, next_key}
use Rattle.window.proofs.Ranks.{ready_at, rank_at}
use Rattle.window.proofs.Picking.{by_same}
use Rattle.window.proofs.Chosen.{ChosenAt, ChosenIs, chosen_is, running_ready, running_among}
use Rattle.window.proofs.Spans.{Span}
use Rattle.window.proofs.Spending.{ran_on, ran_sized, ran_row}
use Rattle.window.proofs.Responding.{response_by_next, left_over, worst_up_to, released_at_end, worst_at_first, worst_next}
use Rattle.window.proofs.Dropping.{drop_elsewhere, drop_sized, drop_row}

-- the oldest server job is complete: there is one, and no budget of it is left
record Done (st : State) (i : ℕ) : Type 0 where
  some : 0 < count_at st i
  none_left : left_at st i 0 ≡ 0

done_is : (st : State) (i : ℕ) → done_at st.left st.count i ≡ true → Done st i
done_is st i e =
    let A = ltb 0 (count_at st i) in
    let B = leb (count_at st i) window in
    let C = eqb (get_or st.left (i * window) 0) 0 in
    let t : T (A && (B && C)) = true_T (A && (B && C)) e in
    let z : i * window + 0 ≡ i * window = omega arith in
    record {
      some = ltb→lt 0 (count_at st i) (and_l A (B && C) t);
      none_left = rw z (eqb→eq (get_or st.left (i * window) 0) 0 (and_r B C (and_r A (B && C) t)));
    }

is_done : (st : State) (i : ℕ) → 0 < count_at st i → count_at st i ≤ window → left_at st i 0 ≡ 0 → done_at st.left st.count i ≡ true
is_done st i a b e =
    let z : i * window + 0 ≡ i * window = omega arith in
    let e' : get_or st.left (i * window) 0 ≡ 0 = rw z at e in
    rw (lt-ltb 0 (count_at st i) a, le-leb (count_at st i) window b, eq-eqb (get_or st.left (i * window) 0) 0 e')

module _ (X : Box) (t d : ℕ) where
  abbrev S : List Server
  S = X.servers

  abbrev done : ℕ → ℕ
  done i = completed S X.cap (t + d) i

  abbrev RowOf : (i gone : ℕ) → State → Type 0
  RowOf i gone st =
      Row (srv S i) i (used_by S X.cap (t + d) i) (link_of S X.cap (whole S) (suc t) i) (released (srv S i) t) gone (worst_up_to X t d i gone) st

  -- the window of server i after the turns of the first r entries: `gone` are no longer in it, all of them complete at the end; and the next
  -- that is complete then has its turn yet
  pub record Dropped (r i : ℕ) (st : State) : Type 0 where
    pub gone : ℕ
    pub from : completed S X.cap t i ≤ gone
    pub to : gone ≤ done i
    pub row : RowOf i gone st
    pub later : gone < done i → r ≤ rank_at X t (server_job i (gone + 1))

  -- of all servers
  pub record After (r : ℕ) (st : State) : Type 0 where
    pub sized : Sized st
    pub each : (i : ℕ) → i < length S → Dropped r i st

module _ (X : Box) (plan : Plan) (t : ℕ) (st : State) (fits : Fits X plan) (rel : Released X t st) (near : t ≤ last_instant) (boundary asked d : ℕ)
    (span : Span X plan t boundary asked st d) where
  abbrev cap : ℕ → ℕ
  cap = X.cap

  in_places : (i : ℕ) → i < length X.servers → i < places
  in_places i h = omega (arith, fits.small)

  -- what became complete ran
  became : (i k : ℕ) → i < length X.servers → completed X.servers cap t i < k → k ≤ done X t d i → T (running X.servers cap t i k)
  became i k h l g =
      either_way (dec (running X.servers cap t i k)) (λ y. true_T (running X.servers cap t i k) y)
      (λ y.
      let m : d * one? (running X.servers cap t i k) ≡ 0 = rw (y, mul-zero d) in
      absurd
      (let z : ⊥ = omega (
        arith,
        grown X.servers cap t d span.quiet d (le_refl d) i k,
        left_over X.servers cap t i k (fits.at i h).budget_some l,
        is_complete X.servers cap (t + d) i k (omega arith) g,
      ) in
      z))

  released_all : (i : ℕ) → i < length X.servers → done X t d i ≤ released (srv X.servers i) t
  released_all i h =
      omega (arith, completed_le X.servers cap (t + d) i, released_at_end X t d span.quiet span.some i h)

  -- what is complete at t is so at the end
  stays_complete : (i : ℕ) → i < length X.servers → completed X.servers cap t i ≤ done X t d i
  stays_complete i h =
      let k = completed X.servers cap t i in
      by_lt (done X t d i) k
      (λ l.
      let n : k ≤ released_before (srv X.servers i) (t + d) =
      omega (
        arith,
        completed_le X.servers cap t i,
        released_before_le (srv X.servers i) t,
        released_at_end X t d span.quiet span.some i h,
      ) in
      absurd
      (let z : ⊥ = omega (
        arith,
        is_complete X.servers cap t i k (omega arith) (le_refl k),
        grown X.servers cap t d span.quiet d (le_refl d) i k,
        not_complete X.servers cap (t + d) i k (omega arith) n l,
      ) in
      z))
      (λ l. l)

  module _ (u : State) (i : ℕ) (h : i < length X.servers) (r : ℕ) (q : Dropped X t d r i u) where
    abbrev s : Server
    s = srv X.servers i

    abbrev U : ℕ → ℕ
    U k = used_by X.servers cap (t + d) i k

    abbrev L : ℕ → ℕ
    L k = link_of X.servers cap (whole X.servers) (suc t) i k

    abbrev c : ℕ
    c = q.gone

    oldest : 0 < count_at u i → left_at u i 0 + U (c + 1) ≡ s.budget
    oldest some = let z : c + 1 + 0 ≡ c + 1 = omega arith in rw z at (q.row.left 0 some)

    -- one that is complete is left exactly where the test says so
    more_left : done_at u.left u.count i ≡ true → c < done X t d i
    more_left e =
        let y = done_is u i e in
        let sum = oldest y.some in
        by_lt c (done X t d i) (λ l. l)
        (λ l.
        let n : c + 1 ≤ released_before s (t + d) = omega (arith, y.some, q.row.count, released_at_end X t d span.quiet span.some i h) in
        absurd (let z : ⊥ = omega (arith, y.none_left, not_complete X.servers cap (t + d) i (c + 1) (omega arith) n (omega arith)) in z))

    none_left : done_at u.left u.count i ≡ false → done X t d i ≤ c
    none_left e =
        by_lt c (done X t d i)
        (λ l.
        let some : 0 < count_at u i = omega (arith, q.row.count, released_all i h) in
        let zero_left : left_at u i 0 ≡ 0 = omega (arith, oldest some, is_complete X.servers cap (t + d) i (c + 1) (omega arith) (omega arith)) in
        let y = is_done u i some q.row.room zero_left in
        absurd (let w : ◌≡◌ {A = ℕ} 0 1 = cc in omega arith))
        (λ l. l)

    -- the oldest one is complete and goes: its job's response is taken where it is linked
    gone_row : done_at u.left u.count i ≡ true → Sized u → RowOf X t d i (c + 1) (finished_with plan (t + d) u i)
    unfolding released_before
    gone_row e sized =
        drop_row plan (t + d) u i sized (in_places i h) s U L N c W q.row some (worst_up_to X t d i (c + 1)) taken key
      where
        N : ℕ
        N = released s t

        W : ℕ
        W = worst_up_to X t d i c

        some : 0 < count_at u i
        some = (done_is u i e).some

        full : s.budget ≤ U (c + 1)
        full = omega (arith, oldest some, (done_is u i e).none_left)

        response : 0 < L (c + 1)
            → response_of (t + d) (next_at u i) (count_at u i) (c + 1 - L (c + 1)) (period_at plan i) ≡ t + d - release_of s (L (c + 1))
        response l =
            rw (q.row.next, (fits.at i h).period)
            (response_by_next s N c (L (c + 1)) (count_at u i) (t + d) q.row.count l
            (link_le X.servers cap (whole X.servers) (suc t) i (c + 1) (omega arith) (omega (arith, some, q.row.count))) span.to_last)

        next_worst : worst_up_to X t d i (c + 1) ≡ cond (ltb 0 (L (c + 1))) (max W (t + d - release_of s (L (c + 1)))) W
        next_worst = worst_next X t d span.quiet span.some i h (fits.at i h).budget_some c q.from full

        taken : cond (ltb 0 (L (c + 1))) (max W (response_of (t + d) (next_at u i) (count_at u i) (c + 1 - L (c + 1)) (period_at plan i))) W
            ≡ worst_up_to X t d i (c + 1)
        taken =
            by_lt 0 (L (c + 1)) (λ l. rw (response l) (sym next_worst))
            (λ l. rw (le-ltb 0 (L (c + 1)) l) (sym (next_worst ∙ rw (le-ltb 0 (L (c + 1)) l))))

        key : 1 < count_at u i → further (first_at u i) (step_at plan i) ≡ priority_of s (c + 2) * places + i
        key l =
            let z : suc (c + 1) ≡ c + 2 = omega arith in
            let n : suc (c + 1) ≤ released s t = omega (arith, q.row.count) in
            rw (q.row.first some) (rw z at (next_key X plan t st fits rel near i (c + 1) h (omega arith) n))

  abbrev choice : ChosenIs X plan t st
  choice = chosen_is X plan t st fits rel near

  abbrev rank_of : ℕ → ℕ → ℕ
  rank_of i k = rank_at X t (server_job i k)

  ready_too : (i k : ℕ) → i < length X.servers → completed X.servers cap t i < k → k ≤ done X t d i
      → T (ready_at X t (server_job i k))
  ready_too i k h l g = running_ready X plan t st fits rel near i k (became i k h l g)

  module _ (u : State) (r : ℕ) (a : After X t d r u) (e : ChosenAt X plan t st r) where
    abbrev p : ℕ
    p = e.place

    abbrev own : Dropped X t d r p u
    own = a.each p e.inside

    abbrev turned : State
    turned = finish_at plan (t + d) u p

    -- the turn of an entry's server: it drops one, or has none to drop
    by_turn : (P : State → Type 0) → (done_at u.left u.count p ≡ true → P (finished_with plan (t + d) u p))
        → (done_at u.left u.count p ≡ false → P u) → P turned
    by_turn P dropped stays = either_way (dec (done_at u.left u.count p)) (λ y. rw y (dropped y)) (λ y. rw y (stays y))

    own_turn : Dropped X t d (suc r) p turned
    own_turn =
        by_turn (Dropped X t d (suc r) p)
        (λ y.
        let l = more_left u p e.inside r own y in
        record {
          gone = own.gone + 1;
          from = omega (arith, own.from);
          to = omega arith;
          row = gone_row u p e.inside r own y a.sized;
          later = λ g.
              omega (
                arith,
                own.later l,
                choice.rising p (own.gone + 1) (own.gone + 1 + 1) (ready_too p (own.gone + 1) e.inside (omega (arith, own.from)) (omega arith))
                    (ready_too p (own.gone + 1 + 1) e.inside (omega (arith, own.from)) (omega arith)) (omega arith),
              );
        })
        (λ y.
        let l = none_left u p e.inside r own y in
        record {
          gone = own.gone;
          from = own.from;
          to = own.to;
          row = own.row;
          later = λ g. absurd (let z : ⊥ = omega arith in z);
        })

    elsewhere : (j : ℕ) → (j ≡ p → ⊥) → SameAt j u turned
    elsewhere j z =
        by_turn (SameAt j u)
        (λ y. drop_elsewhere plan (t + d) u p a.sized (in_places p e.inside) j own.row.room z) (λ y. same_at_self j u)

    other_turn : (j : ℕ) → j < length X.servers → (j ≡ p → ⊥) → Dropped X t d (suc r) j turned
    other_turn j h z =
        let q = a.each j h in
        record {
          gone = q.gone;
          from = q.from;
          to = q.to;
          row = row_carried (srv X.servers j) j (used_by X.servers cap (t + d) j) (link_of X.servers cap (whole X.servers) (suc t) j)
              (released (srv X.servers j) t) q.gone (worst_up_to X t d j q.gone) u turned (elsewhere j z) q.row;
          later = λ g.
              let k = q.gone + 1 in
              let ready = ready_too j k h (omega (arith, q.from)) (omega arith) in
              by_lt r (rank_of j k) (λ l. l)
              (λ l.
              let same : rank_of j k ≡ r = omega (arith, q.later g) in
              let (w, v) = choice.one_rank (server_job j k) (slot_job X t p e.slot) ready e.ready_slot (same ∙ sym e.ranked) in
              absurd (z w));
        }

    turn : After X t d (suc r) turned
    turn =
        record {
          sized = by_turn Sized (λ y. drop_sized plan (t + d) u p a.sized (in_places p e.inside)) (λ y. a.sized);
          each = λ j h. by_same j p (λ z. rw z own_turn) (λ z. other_turn j h z);
        }

  abbrev ran : State
  ran = ran_on plan d st

  start : After X t d 0 ran
  start =
      record {
        sized = ran_sized X plan t st fits rel near boundary asked d span;
        each = λ i h.
            record {
              gone = completed X.servers cap t i;
              from = le_refl (completed X.servers cap t i);
              to = stays_complete i h;
              row = rw (worst_at_first X t d span.quiet span.some i h (fits.at i h).budget_some)
                  (ran_row X plan t st fits rel near boundary asked d span i h);
              later = λ g. zero-le;
            };
      }

  abbrev place : ℕ → ℕ
  place r = place_of (get_or (chosen plan st).run r 0)

  next_turn : (u : State) (m : ℕ) → m < (chosen plan st).count → After X t d m u → After X t d (suc m) (finish_at plan (t + d) u (place m))
  next_turn u m h a =
      let e = choice.entry m h in
      let own : place m ≡ e.place = rw e.run (omega (arith, in_places e.place e.inside)) in
      rw own (turn u m a e)

  turns : (m : ℕ) → m ≤ (chosen plan st).count → After X t d m (finished_all plan (t + d) (chosen plan st).run ran m)
  unfolding in_turn
  turns zero h = start
  turns (suc m) h = next_turn (finished_all plan (t + d) (chosen plan st).run ran m) m h (turns m (omega arith))

  -- after the turns of all entries those gone are the ones complete at the end
  pub finished : After X t d (chosen plan st).count (finished_all plan (t + d) (chosen plan st).run ran (chosen plan st).count)
  finished = turns (chosen plan st).count (le_refl (chosen plan st).count)

  pub all_gone : (i : ℕ) (u : State) → i < length X.servers → (q : Dropped X t d (chosen plan st).count i u) → q.gone ≡ done X t d i
  all_gone i u h q =
      by_lt q.gone (done X t d i)
      (λ l.
      let runs = became i (q.gone + 1) h (omega (arith, q.from)) (omega arith) in
      absurd (let z : ⊥ = omega (arith, q.later l, running_among X plan t st fits rel near i (q.gone + 1) runs) in z))
      (λ l. omega (arith, q.to))
