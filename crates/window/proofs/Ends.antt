-- The walk over windows, from event to event, ends where the rules' walk stops first, or at the instant asked where that comes before: each of
-- its spans is quiet, so the rules' walk does not stop inside.
use mathlib.Core.Path.{◌≡◌, refl, sym, ap, subst, ◌∙◌}
use mathlib.Core.Bool.{Bool, true, false, ◌&&◌, cond}
use mathlib.Core.List.{List}
use mathlib.Core.Option.{none, some}
use mathlib.Core.Logic.{◌⊎◌, inl, inr}
use Prim.Native.Nat.{ℕ, zero, suc, ◌+◌, ◌*◌, ◌-◌, ◌≤◌, ◌<◌}
use native.Mathlib.Nat.{zero-mul, suc-mul, not-suc-le-zero}
use native.Mathlib.Omega.{arith}
use lib.Dec.{ltb, eqb}
use lib.ListN.{length}
use borrow.Author.Tests.{eqb-true, eqb-false, ltb-true}
use Rattle.schedule.specs.Servers.{Box, srv, whole}
use Rattle.schedule.specs.ServerJobs.{used}
use Rattle.schedule.specs.Links.{links}
use Rattle.schedule.specs.State.{same_state, state_at}
use Rattle.schedule.specs.Walk as Rules
use Rattle.schedule.specs.Walk.{Stop, settled, unsettled, backlog, boundary, at_boundary, round_at, stop_with, stop_at}
use Rattle.schedule.proofs.Tests.{by_lt, either_way, dec}
use Rattle.theorems.proofs.Unique.{FirstStop}
use Rattle.theorems.proofs.QuietSpans.{Quiet}
use Rattle.theorems.proofs.QuietWalk.{whole_ahead, goes_on_within}
use Rattle.table.specs.declared.State.{State}
use Rattle.table.specs.declared.Kept.{Kept}
use Rattle.table.specs.Fresh.{fresh_state}
use Rattle.window.specs.declared.Plan.{Plan}
use Rattle.window.specs.Entries.{further, nodes_of}
use Rattle.window.specs.Releasing.{released_at}
use Rattle.window.specs.Comparing.{keep}
use Rattle.window.specs.Working.{worked}
use Rattle.window.proofs.Relation.{last_instant, Fits, InStep, Released}
use Rattle.window.proofs.Places.{sink_at}
use Rattle.window.proofs.Backlog.{backlog_is}
use Rattle.window.proofs.Release.{release_keeps}
use Rattle.window.proofs.Keeping.{KeptSized, Holds, keep_sized, keep_holds}
use Rattle.window.proofs.Compare.{same_states_lem}
use Rattle.window.proofs.Working.{works}
use Rattle.window.specs.declared.How.{How}
use Rattle.window.specs.declared.How.TheVariants.{Settled, Unsettled, Backlog, Reached}
use Rattle.table.specs.declared.Seen.{Seen}
use Rattle.window.specs.declared.Walk.{Walk}
use Rattle.window.specs.Walking.{seen_of, kept_of, ended, settles, runs_out, backlogs, later_of, round_of, kept_from, ticks_from, decided}
use Rattle.window.specs.Walking.{walk_from, walk_of}
use Rattle.window.proofs.Boundaries.{Next, boundary_is, round_is, last_is, within, not_at, next_most, later_same, later_next, next_within}

-- the engine's word for a stop of the rules
abbrev pub how_of : Stop → How
how_of (settled k) = Settled k
how_of unsettled = Unsettled
how_of backlog = Backlog

module _ (X : Box) where
  abbrev need : ℕ → ℕ → ℕ
  need = whole X.servers

  -- the walk stopped as the rules' does, at or before the instant asked; it shows a state in step
  pub record Stops (asked : ℕ) (w : Walk Seen) : Type 0 where
    pub stop : Stop
    pub how : w.how ≡ how_of stop
    pub first : FirstStop X need stop w.ticks
    pub state : State
    pub shows : w.state ≡ seen_of state
    pub in_step : InStep X w.ticks state
    pub by : w.ticks ≤ asked

  -- it came to the instant asked, and the rules' walk does not stop up to there
  pub record Comes (asked : ℕ) (w : Walk Seen) : Type 0 where
    pub how : w.how ≡ Reached
    pub ticks : w.ticks ≡ asked
    pub state : State
    pub shows : w.state ≡ seen_of state
    pub released : Released X asked state
    pub goes_on : (u : ℕ) → u ≤ asked → stop_at X need u ≡ none

  abbrev pub Ends : ℕ → Walk Seen → Type 0
  Ends asked w = Stops asked w ⊎ Comes asked w

  -- what is kept of the boundary u: the first n places of a state in step there
  record Keeps (n u : ℕ) (kept : Kept) : Type 0 where
    of : State
    in_step : InStep X u of
    holds : Holds of n kept

module _ (X : Box) (plan : Plan) (fits : Fits X plan) (hyper_some : 0 < X.hyper) (time : X.origin + X.rounds * X.hyper ≤ last_instant)
    (late : (i : ℕ) → i < length X.servers → (srv X.servers i).offset ≤ X.origin) where
  abbrev nodes : ℕ
  nodes = nodes_of plan

  -- what is known when the walk comes to t
  record Known (asked t next round : ℕ) (st : State) (kept : Kept) : Type 0 where
    next_is : Next X t next round
    in_step : InStep X t st
    keeps : 0 < round → Keeps X nodes (next - X.hyper) kept
    sized : KeptSized kept
    most : round ≤ X.rounds
    goes_on : (u : ℕ) → u < t → stop_at X (need X) u ≡ none
    asked_later : t ≤ asked

  module _ (asked t next round : ℕ) (st : State) (kept : Kept) (k : Known asked t next round st kept) where
    -- the three tests of the rules, by the windows
    A : Bool
    A = settles plan X.hyper X.rounds asked t next round st kept

    B : Bool
    B = runs_out plan X.hyper X.rounds asked t next round

    C : Bool
    C = backlogs plan X.hyper X.rounds asked t st

    in_time : t ≤ boundary X (need X) X.rounds
    in_time = within X (need X) hyper_some t next round k.next_is k.most

    early : t ≤ last_instant
    unfolding boundary
    early = omega (arith, in_time)

    settled_test : (at_boundary X (need X) t && same_state (state_at X (need X) t) (state_at X (need X) (t - X.hyper))) ≡ A
    unfolding A
    settled_test =
        rw (boundary_is X (need X) hyper_some t next round k.next_is)
        (either_way (dec (eqb t next))
        (λ e. either_way (dec (ltb 0 round))
        (λ f.
        let q : t ≡ next = eqb-true t next e in
        let p : 0 < round = ltb-true 0 round f in
        let far : X.origin + X.hyper ≤ next = far_from round refl p in
        let z : Keeps X nodes (t - X.hyper) kept = rw q (k.keeps p) in
        let same =
        same_states_lem X plan fits t (t - X.hyper) (omega arith) early st z.of k.in_step z.in_step (λ i h. omega (arith, late i h)) kept z.holds in
        rw (e, f) (sym same))
        (λ f. rw (e, f)))
        (λ e. rw e))
      where
        far_from : (r : ℕ) → round ≡ r → 0 < r → X.origin + X.hyper ≤ next
        far_from zero e p = absurd (not-suc-le-zero p)
        far_from (suc r) e p =
            let w : next ≡ X.origin + suc r * X.hyper = k.next_is.is ∙ rw e in omega (arith, suc-mul r X.hyper)

    numbered : cond A (some (settled (round_at X (need X) t))) (cond B (some unsettled) (cond C (some backlog) none))
        ≡ cond A (some (settled round)) (cond B (some unsettled) (cond C (some backlog) none))
    unfolding A
    numbered = either_way (dec (eqb t next)) (λ e. rw (round_is X (need X) hyper_some t next round k.next_is (eqb-true t next e))) (λ e. rw e)

    last_test : eqb t (boundary X (need X) X.rounds) ≡ B
    unfolding B
    last_test = last_is X (need X) hyper_some t next round k.next_is k.most

    backlog_test : Rules.backlogged X.servers (need X) (used X.servers X.cap t) (links X.servers X.cap (need X) t) t X.sinks ≡ C
    unfolding C
    backlog_test = sym (backlog_is X plan fits t st k.in_step early)

    stop_is : stop_at X (need X) t ≡ cond A (some (settled round)) (cond B (some unsettled) (cond C (some backlog) none))
    unfolding stop_at stop_with state_at
    stop_is =
        rw (last_test, backlog_test)
        (ap (λ (b : Bool). cond b (some (settled (round_at X (need X) t))) (cond B (some unsettled) (cond C (some backlog) none))) settled_test ∙ numbered)

    none_now : A ≡ false → B ≡ false → C ≡ false → stop_at X (need X) t ≡ none
    none_now a b c = stop_is ∙ rw (a, b, c)

    now_released : C ≡ false → Released X t (released_at plan t st)
    unfolding C
    now_released c = release_keeps X plan fits t st k.in_step early c

    abbrev later : ℕ
    later = later_of plan X.hyper X.rounds asked t next

    abbrev round' : ℕ
    round' = round_of plan X.hyper X.rounds asked t next round

    abbrev kept' : Kept
    kept' = kept_from plan X.hyper X.rounds asked t next st kept

    -- `later` is the first boundary after t, number `r`; `held` what is kept of the one before it
    record Later (later r : ℕ) (held : Kept) : Type 0 where
      ahead : t < later
      next_later : (e : ℕ) → 1 ≤ e → t + e ≤ later → Next X (t + e) later r
      by_last : later ≤ boundary X (need X) X.rounds
      most : r ≤ X.rounds
      keeps : 0 < r → Keeps X nodes (later - X.hyper) held
      sized : KeptSized held

    later_next_is : B ≡ false → eqb t next ≡ true → Later (further next X.hyper) (suc round) (keep st kept nodes)
    unfolding B boundary
    later_next_is b e =
        let q : t ≡ next = eqb-true t next e in
        let r : eqb round X.rounds ≡ false = rw e at b in
        let more : round < X.rounds = omega (arith, k.most, eqb-false round X.rounds r) in
        let by = next_within X (need X) hyper_some t next round k.next_is more in
        let uncut : further next X.hyper ≡ next + X.hyper = omega (arith, by) in
        let back : next + X.hyper - X.hyper ≡ t = omega arith in
        rw uncut
        (record {
          ahead = omega arith;
          next_later = λ d l m. later_next X (need X) hyper_some t next round k.next_is d q l m;
          by_last = by;
          most = more;
          keeps = λ p. rw back (record { of = st; in_step = k.in_step; holds = keep_holds st kept nodes k.sized (omega arith) });
          sized = keep_sized st kept nodes k.sized;
        })

    later_same_is : eqb t next ≡ false → Later next round kept
    later_same_is e =
        record {
          ahead = omega (arith, k.next_is.ahead, eqb-false t next e);
          next_later = λ d l m. later_same X (need X) hyper_some t next round k.next_is d m;
          by_last = next_most X (need X) hyper_some t next round k.next_is X.rounds k.most;
          most = k.most;
          keeps = k.keeps;
          sized = k.sized;
        }

    later_is : B ≡ false → Later later round' kept'
    later_is b = either_way (dec (eqb t next)) (λ e. rw e (later_next_is b e)) (λ e. rw e (later_same_is e))

    abbrev a : State
    a = released_at plan t st

    abbrev ticks : ℕ
    ticks = ticks_from plan X.hyper X.rounds asked t next a

    -- the walk goes on: the end of the span is known in turn
    module _ (no-a : A ≡ false) (no-b : B ≡ false) (no-c : C ≡ false) (no-d : eqb t asked ≡ false) where
      before : t < asked
      before = omega (arith, k.asked_later, eqb-false t asked no-d)

      span : (1 ≤ ticks) × (t + ticks ≤ later) × (t + ticks ≤ asked) × Quiet X.servers X.cap t ticks × InStep X (t + ticks) (worked plan t ticks a)
      span = works X plan fits t later asked a (now_released no-c) (later_is no-b).ahead before early

      none_inside : (e : ℕ) → e < ticks → stop_at X (need X) (t + e) ≡ none
      none_inside =
          let (least, by, by-asked, quiet, now) = span in
          let l = later_is no-b in
          goes_on_within X (need X) t ticks quiet (λ i h. whole_ahead X.servers X.cap t ticks quiet i h (fits.at i h).budget_some) (sink_at X plan fits)
          (λ e m n. not_at X (need X) hyper_some (t + e) later round' (l.next_later e m (omega arith)) (omega arith)) (omega (arith, l.by_last))
          (none_now no-a no-b no-c)

      none_yet : (u : ℕ) → u < t + ticks → stop_at X (need X) u ≡ none
      none_yet u m =
          by_lt u t (λ h. k.goes_on u h)
          (λ h. let e : u ≡ t + (u - t) = omega arith in rw e (none_inside (u - t) (omega arith)))

      known_later : Known asked (t + ticks) later round' (worked plan t ticks a) kept'
      known_later =
          let (least, by, by-asked, quiet, now) = span in
          let l = later_is no-b in
          record {
            next_is = l.next_later ticks least by;
            in_step = now;
            keeps = l.keeps;
            sized = l.sized;
            most = l.most;
            goes_on = none_yet;
            asked_later = by-asked;
          }

    stops : (s : Stop) → stop_at X (need X) t ≡ some s → Ends X asked (ended (how_of s) t st)
    stops s e =
        inl (record {
          stop = s;
          how = refl;
          first = record { stops = e; not_before = k.goes_on };
          state = st;
          shows = refl;
          in_step = k.in_step;
          by = k.asked_later;
        })

    comes : A ≡ false → B ≡ false → C ≡ false → eqb t asked ≡ true → Ends X asked (ended Reached t a)
    comes no-a no-b no-c d =
        let e : t ≡ asked = eqb-true t asked d in
        inr (record {
          how = refl;
          ticks = e;
          state = a;
          shows = refl;
          released = subst (λ (u : ℕ). Released X u a) e (now_released no-c);
          goes_on = λ u l. by_lt u t (λ h. k.goes_on u h) (λ h. let q : u ≡ t = omega arith in rw q (none_now no-a no-b no-c));
        })

    ends_now : (rest : Walk Seen) → (A ≡ false → B ≡ false → C ≡ false → eqb t asked ≡ false → Ends X asked rest)
        → Ends X asked (decided plan X.hyper X.rounds asked t next round st kept rest)
    unfolding A B C
    ends_now rest later =
        either_way (dec A) (λ e. rw e (stops (settled round) (stop_is ∙ rw e)))
        (λ e. either_way (dec B) (λ f. rw (e, f) (stops unsettled (stop_is ∙ rw (e, f))))
        (λ f. either_way (dec C) (λ g. rw (e, f, g) (stops backlog (stop_is ∙ rw (e, f, g))))
        (λ g. either_way (dec (eqb t asked)) (λ h. rw (e, f, g, h) (comes e f g h)) (λ h. rw (e, f, g, h) (later e f g h)))))

  -- from any instant on: a span takes a tick at least, so there are events left while there is time left up to the last boundary
  ends_from : (asked left t next round : ℕ) (st : State) (kept : Kept) → Known asked t next round st kept → boundary X (need X) X.rounds < t + left
      → Ends X asked (walk_from plan X.hyper X.rounds asked left t next round st kept)
  unfolding walk_from
  ends_from asked zero t next round st kept k l = absurd (let x : ⊥ = omega (arith, in_time asked t next round st kept k) in x)
  ends_from asked (suc left) t next round st kept k l =
      ends_now asked t next round st kept k
      (walk_from plan X.hyper X.rounds asked left (t + ticks asked t next round st kept k) (later asked t next round st kept k)
      (round' asked t next round st kept k) (worked plan t (ticks asked t next round st kept k) (released_at plan t st)) (kept' asked t next round st kept k))
      (λ a b c d.
      ends_from asked left (t + ticks asked t next round st kept k) (later asked t next round st kept k) (round' asked t next round st kept k)
      (worked plan t (ticks asked t next round st kept k) (released_at plan t st)) (kept' asked t next round st kept k)
      (known_later asked t next round st kept k a b c d) (omega (arith, (span asked t next round st kept k a b c d).0)))

  pub walk_ends : (offsets : List ℕ) → InStep X 0 (fresh_state offsets) → (asked : ℕ)
      → Ends X asked (walk_of plan offsets X.origin X.hyper X.rounds asked)
  unfolding walk_of boundary
  walk_ends offsets fresh asked =
      ends_from asked (suc (X.origin + X.rounds * X.hyper)) 0 X.origin 0 (fresh_state offsets) (kept_of (fresh_state offsets))
      (record {
        next_is = record { is = omega (arith, zero-mul X.hyper); ahead = omega arith; near = λ p. absurd (not-suc-le-zero p) };
        in_step = fresh;
        keeps = λ p. absurd (not-suc-le-zero p);
        sized = record { servers = fresh.sized.servers; left = fresh.sized.left };
        most = omega arith;
        goes_on = λ u l. absurd (not-suc-le-zero l);
        asked_later = omega arith;
      })
      (omega arith)
