-- The plain walk, tick by tick, ends where the rules' walk stops first, or at the instant asked where that comes before.
use mathlib.Core.Path.{◌≡◌, refl, sym, ap, subst, ◌∙◌}
use mathlib.Core.Bool.{Bool, true, false, ◌&&◌, cond}
use mathlib.Core.List.{List}
use mathlib.Core.Option.{none, some}
use mathlib.Core.Logic.{◌⊎◌, inl, inr}
use Prim.Native.Nat.{ℕ, zero, suc, ◌+◌, ◌*◌, ◌-◌, ◌≤◌, ◌<◌}
use native.Mathlib.Nat.{zero-mul, not-suc-le-zero}
use native.Mathlib.Omega.{arith}
use lib.Dec.{ltb, eqb}
use lib.ListN.{length}
use borrow.Author.Tests.{eqb-true, eqb-false, ltb-true}
use Rattle.schedule.specs.Servers.{Box, srv, whole}
use Rattle.schedule.specs.ServerJobs as ServerJobs
use Rattle.schedule.specs.ServerJobs.{used}
use Rattle.schedule.specs.Links.{links}
use Rattle.schedule.specs.State.{same_state, state_at}
use Rattle.schedule.specs.Walk as Rules
use Rattle.schedule.specs.Walk.{Stop, settled, unsettled, backlog, figure, boundary, at_boundary, round_at, stop_with, stop_at}
use Rattle.schedule.proofs.Tests.{by_lt, either_way, dec}
use Rattle.theorems.proofs.InTurn.{completed}
use Rattle.theorems.proofs.Unique.{FirstStop}
use Rattle.window.specs.declared.Plan.{Plan}
use Rattle.window.specs.Entries.{window, further}
use Rattle.window.proofs.Relation.{last_instant}
use Rattle.window.proofs.Ends.{how_of}
use Rattle.window.proofs.Boundaries.{Next, boundary_is, round_is, last_is, within, later_same, later_next, next_within}
use Rattle.ledger.specs.declared.Ledger.{Ledger}
use Rattle.ledger.specs.declared.Formed.{Formed}
use Rattle.ledger.specs.Entries.{worst_at}
use Rattle.ledger.specs.Releasing.{release}
use Rattle.ledger.specs.Ranks.{run}
use Rattle.ledger.specs.Forming.{blank_state, form}
use Rattle.ledgerlaws.proofs.Relation.{Laid, InStep, Released}
use Rattle.ledgerlaws.proofs.Releasing.{release_keeps}
use Rattle.ledgerlaws.proofs.Backlog.{backlog_is, few_pending}
use Rattle.ledgerlaws.proofs.Running.{run_keeps}
use Rattle.ledgerlaws.proofs.Finishing.{finish_keeps}
use Rattle.ledgerlaws.proofs.Forming.{Shows, form_shows}
use Rattle.ledgerlaws.proofs.Comparing.{same_formed_lem}
use Rattle.window.specs.declared.How.TheVariants.{Reached}
use Rattle.window.specs.declared.Walk.{Walk}
use Rattle.ledger.specs.Walking.{fresh, ended, settles, runs_out, backlogs, later_of, round_of, before_of, ticked, decided, walk_from, walk_of}
use Rattle.ledgerlaws.proofs.Fresh.{fresh_in_step}

module _ (X : Box) where
  abbrev need : ℕ → ℕ → ℕ
  need = whole X.servers

  -- the walk stopped as the rules' does, at or before the instant asked; it has kept the figures
  pub record Stops (asked : ℕ) (w : Walk Ledger) : Type 0 where
    pub stop : Stop
    pub how : w.how ≡ how_of stop
    pub first : FirstStop X need stop w.ticks
    pub worst : (i : ℕ) → i < length X.servers → worst_at w.state i ≡ figure X need i w.ticks
    pub by : w.ticks ≤ asked

  -- it came to the instant asked, and the rules' walk does not stop up to there
  pub record Comes (asked : ℕ) (w : Walk Ledger) : Type 0 where
    pub how : w.how ≡ Reached
    pub released : Released X asked w.state
    pub goes_on : (u : ℕ) → u ≤ asked → stop_at X need u ≡ none

  abbrev pub Ends : ℕ → Walk Ledger → Type 0
  Ends asked w = Stops asked w ⊎ Comes asked w

module _ (X : Box) (plan : Plan) (offsets : List ℕ) (laid : Laid X plan offsets) (hyper_some : 0 < X.hyper)
    (time : X.origin + X.rounds * X.hyper ≤ last_instant) where
  -- what is known when the walk comes to t
  record Known (asked t next round : ℕ) (l : Ledger) (before : Formed) : Type 0 where
    next_is : Next X t next round
    in_step : InStep X t l
    keeps : 0 < round → Shows X (next - X.hyper) before
    most : round ≤ X.rounds
    goes_on : (u : ℕ) → u < t → stop_at X (need X) u ≡ none
    asked_later : t ≤ asked

  module _ (asked t next round : ℕ) (l : Ledger) (before : Formed) (k : Known asked t next round l before) where
    abbrev a : Ledger
    a = release plan offsets l t

    -- the three tests of the rules, by the ledger
    A : Bool
    A = settles plan offsets X.hyper X.rounds asked t next round l before

    B : Bool
    B = runs_out plan offsets X.hyper X.rounds asked t next round

    C : Bool
    C = backlogs plan offsets X.hyper X.rounds asked a

    in_time : t ≤ boundary X (need X) X.rounds
    in_time = within X (need X) hyper_some t next round k.next_is k.most

    early : t ≤ last_instant
    unfolding boundary
    early = omega (arith, in_time)

    released : Released X t a
    released = release_keeps X plan offsets laid t l k.in_step early

    shows : Shows X t (form plan offsets l t)
    shows = form_shows X plan offsets laid t l k.in_step early

    settled_test : (at_boundary X (need X) t && same_state (state_at X (need X) t) (state_at X (need X) (t - X.hyper))) ≡ A
    unfolding A
    settled_test =
        rw (boundary_is X (need X) hyper_some t next round k.next_is)
        (either_way (dec (eqb t next))
        (λ e. either_way (dec (ltb 0 round))
        (λ f.
        let q : t ≡ next = eqb-true t next e in
        let p : 0 < round = ltb-true 0 round f in
        let z : Shows X (t - X.hyper) before = rw q (k.keeps p) in
        let same = same_formed_lem X plan offsets laid t (t - X.hyper) (form plan offsets l t) before shows z in
        rw (e, f) (sym same))
        (λ f. rw (e, f)))
        (λ e. rw e))

    numbered : cond A (some (settled (round_at X (need X) t))) (cond B (some unsettled) (cond C (some backlog) none))
        ≡ cond A (some (settled round)) (cond B (some unsettled) (cond C (some backlog) none))
    unfolding A
    numbered = either_way (dec (eqb t next)) (λ e. rw (round_is X (need X) hyper_some t next round k.next_is (eqb-true t next e))) (λ e. rw e)

    last_test : eqb t (boundary X (need X) X.rounds) ≡ B
    unfolding B
    last_test = last_is X (need X) hyper_some t next round k.next_is k.most

    backlog_test : Rules.backlogged X.servers (need X) (used X.servers X.cap t) (links X.servers X.cap (need X) t) t X.sinks ≡ C
    unfolding C
    backlog_test = sym (backlog_is X plan offsets laid t a released)

    stop_is : stop_at X (need X) t ≡ cond A (some (settled round)) (cond B (some unsettled) (cond C (some backlog) none))
    unfolding stop_at stop_with state_at
    stop_is =
        rw (last_test, backlog_test)
        (ap (λ (b : Bool). cond b (some (settled (round_at X (need X) t))) (cond B (some unsettled) (cond C (some backlog) none))) settled_test ∙ numbered)

    none_now : A ≡ false → B ≡ false → C ≡ false → stop_at X (need X) t ≡ none
    none_now a b c = stop_is ∙ rw (a, b, c)

    abbrev later : ℕ
    later = later_of plan offsets X.hyper X.rounds asked t next

    abbrev round' : ℕ
    round' = round_of plan offsets X.hyper X.rounds asked t next round

    abbrev before' : Formed
    before' = before_of plan offsets X.hyper X.rounds asked t next l before

    -- `later` is the first boundary after t, number `r`; `held` the state at the one before it
    record Later (later r : ℕ) (held : Formed) : Type 0 where
      next_later : Next X (suc t) later r
      most : r ≤ X.rounds
      keeps : 0 < r → Shows X (later - X.hyper) held

    abbrev tick : t + 1 ≡ suc t
    tick = omega arith

    later_next_is : B ≡ false → eqb t next ≡ true → Later (further next X.hyper) (suc round) (form plan offsets l t)
    unfolding B boundary
    later_next_is b e =
        let q : t ≡ next = eqb-true t next e in
        let r : eqb round X.rounds ≡ false = rw e at b in
        let more : round < X.rounds = omega (arith, k.most, eqb-false round X.rounds r) in
        let by = next_within X (need X) hyper_some t next round k.next_is more in
        let uncut : further next X.hyper ≡ next + X.hyper = omega (arith, by) in
        let back : next + X.hyper - X.hyper ≡ t = omega arith in
        rw uncut
        (record {
          next_later = subst (λ (u : ℕ). Next X u (next + X.hyper) (suc round)) tick (later_next X (need X) hyper_some t next round k.next_is 1 q (omega arith) (omega arith));
          most = more;
          keeps = λ p. rw back shows;
        })

    later_same_is : eqb t next ≡ false → Later next round before
    later_same_is e =
        record {
          next_later = subst (λ (u : ℕ). Next X u next round) tick (later_same X (need X) hyper_some t next round k.next_is 1 (omega (arith, k.next_is.ahead, eqb-false t next e)));
          most = k.most;
          keeps = k.keeps;
        }

    later_is : B ≡ false → Later later round' before'
    later_is b = either_way (dec (eqb t next)) (λ e. rw e (later_next_is b e)) (λ e. rw e (later_same_is e))

    -- the walk goes on: the next instant is known in turn
    module _ (no-a : A ≡ false) (no-b : B ≡ false) (no-c : C ≡ false) (no-d : eqb t asked ≡ false) where
      few : (i : ℕ) → i < length X.servers → ServerJobs.released (srv X.servers i) t ≤ completed X.servers X.cap t i + window
      unfolding C
      few = few_pending X plan offsets laid t a released no-c

      in_step_later : InStep X (suc t) (ticked plan offsets X.hyper X.rounds asked t a)
      in_step_later =
          finish_keeps X plan offsets laid t (run plan offsets a) (run_keeps X plan offsets laid t a released early) early few

      known_later : Known asked (suc t) later round' (ticked plan offsets X.hyper X.rounds asked t a) before'
      known_later =
          let l = later_is no-b in
          record {
            next_is = l.next_later;
            in_step = in_step_later;
            keeps = l.keeps;
            most = l.most;
            goes_on = λ u m. by_lt u t (λ h. k.goes_on u h) (λ h. let e : u ≡ t = omega arith in rw e (none_now no-a no-b no-c));
            asked_later = omega (arith, k.asked_later, eqb-false t asked no-d);
          }

    stops : (s : Stop) (at : Ledger) → ((i : ℕ) → i < length X.servers → worst_at at i ≡ figure X (need X) i t) → stop_at X (need X) t ≡ some s
        → Ends X asked (ended (how_of s) t at)
    stops s at worst e =
        inl (record {
          stop = s;
          how = refl;
          first = record { stops = e; not_before = k.goes_on };
          worst = worst;
          by = k.asked_later;
        })

    comes : A ≡ false → B ≡ false → C ≡ false → eqb t asked ≡ true → Ends X asked (ended Reached t a)
    comes no-a no-b no-c d =
        let e : t ≡ asked = eqb-true t asked d in
        inr (record {
          how = refl;
          released = subst (λ (u : ℕ). Released X u a) e released;
          goes_on = λ u l. by_lt u t (λ h. k.goes_on u h) (λ h. let q : u ≡ t = omega arith in rw q (none_now no-a no-b no-c));
        })

    ends_now : (rest : Walk Ledger) → (A ≡ false → B ≡ false → C ≡ false → eqb t asked ≡ false → Ends X asked rest)
        → Ends X asked (decided plan offsets X.hyper X.rounds asked t next round l a before rest)
    unfolding A B C
    ends_now rest later =
        let own : (i : ℕ) → i < length X.servers → worst_at l i ≡ figure X (need X) i t = λ i h. (k.in_step.row i h).worst in
        either_way (dec A) (λ e. rw e (stops (settled round) l own (stop_is ∙ rw e)))
        (λ e. either_way (dec B) (λ f. rw (e, f) (stops unsettled l own (stop_is ∙ rw (e, f))))
        (λ f. either_way (dec C) (λ g. rw (e, f, g) (stops backlog a (λ i h. (released.row i h).worst) (stop_is ∙ rw (e, f, g))))
        (λ g. either_way (dec (eqb t asked)) (λ h. rw (e, f, g, h) (comes e f g h)) (λ h. rw (e, f, g, h) (later e f g h)))))

  -- from any instant on: there are ticks left while there is time left up to the last boundary
  ends_from : (asked left t next round : ℕ) (l : Ledger) (before : Formed) → Known asked t next round l before → boundary X (need X) X.rounds < t + left
      → Ends X asked (walk_from plan offsets X.hyper X.rounds asked left t next round l before)
  unfolding walk_from
  ends_from asked zero t next round l before k g = absurd (let x : ⊥ = omega (arith, in_time asked t next round l before k) in x)
  ends_from asked (suc left) t next round l before k g =
      ends_now asked t next round l before k
      (walk_from plan offsets X.hyper X.rounds asked left (suc t) (later asked t next round l before k) (round' asked t next round l before k)
      (ticked plan offsets X.hyper X.rounds asked t (release plan offsets l t)) (before' asked t next round l before k))
      (λ a b c d.
      ends_from asked left (suc t) (later asked t next round l before k) (round' asked t next round l before k)
      (ticked plan offsets X.hyper X.rounds asked t (release plan offsets l t)) (before' asked t next round l before k)
      (known_later asked t next round l before k a b c d) (omega arith))

  pub walk_ends : (asked : ℕ) → Ends X asked (walk_of plan offsets X.origin X.hyper X.rounds asked)
  unfolding walk_of boundary
  walk_ends asked =
      ends_from asked (suc (X.origin + X.rounds * X.hyper)) 0 X.origin 0 fresh blank_state
      (record {
        next_is = record { is = omega (arith, zero-mul X.hyper); ahead = omega arith; near = λ p. absurd (not-suc-le-zero p) };
        in_step = fresh_in_step X plan offsets laid;
        keeps = λ p. absurd (not-suc-le-zero p);
        most = omega arith;
        goes_on = λ u l. absurd (not-suc-le-zero l);
        asked_later = omega arith;
      })
      (omega arith)
