-- Demand 3 over any sound box: where the walk with whole budgets settles, the figure of a node is the least true one. Every invocation
-- is one finished by the stop, or repeats one a hyperperiod before it; and smaller needs finish none later.
use mathlib.Core.Path.{◌≡◌, refl, ap, subst, ◌∙◌}
use mathlib.Core.Bool.{Bool, true, false, ◌&&◌, cond}
use mathlib.Core.Option.{none, some}
use Prim.Native.Nat.{ℕ, zero, suc, ◌+◌, ◌-◌, ◌%◌, ◌≤◌, ◌<◌}
use native.Mathlib.Nat.{le_refl, mod-eq_of_lt, zero-mul}
use native.Mathlib.Omega.{arith}
use lib.Dec.{T, ltb, eqb, eqb→eq, ltb→lt}
use lib.ListN.{length}
use Rattle.schedule.specs.Servers.{srv, Box, whole}
use Rattle.schedule.specs.ServerJobs.{release_of, used}
use Rattle.schedule.specs.Links.{links, finished_by}
use Rattle.schedule.specs.State.{same_state, state, state_at}
use Rattle.schedule.specs.Walk.{settled, unsettled, backlog, backlogged, boundary, at_boundary, round_at, stop_with, stop_at, stopped}
use Rattle.schedule.specs.Walk.{figure}
use Rattle.schedule.specs.LeastTrue.{Needs, Takes, LeastTrue}
use Rattle.schedule.proofs.Tests.{by_lt, either_way, dec, and_l, and_r, T_true, true_T}
use Rattle.theorems.proofs.Releases.{released_before_early, release_shift}
use Rattle.theorems.proofs.Finishing.{Finished, finished_is, is_finished, finished_stays}
use Rattle.theorems.proofs.Sustained.{finished_no_later}
use Rattle.theorems.proofs.SameRunning.{periods_some}
use Rattle.theorems.proofs.Repeating.{Repeated}
use Rattle.theorems.proofs.Boundaries.{Sound, first_finished}
use Rattle.theorems.proofs.Repetition.{repetition}
use Rattle.theorems.proofs.FirstStop.{stopped_is_first}
use Rattle.theorems.proofs.Responses.{Exact, figure_bounds, figure_exact}

-- only the first test gives a settled stop
settled_by : (a b c : Bool) (x k : ℕ) → cond a (some (settled x)) (cond b (some unsettled) (cond c (some backlog) none)) ≡ some (settled k) → T a
settled_by true b c x k e = tt
settled_by false true c x k e = let z : ◌≡◌ {A = ℕ} 0 1 = cc in absurd (let w : ⊥ = omega arith in w)
settled_by false false true x k e = let z : ◌≡◌ {A = ℕ} 0 1 = cc in absurd (let w : ⊥ = omega arith in w)
settled_by false false false x k e = let z : ◌≡◌ {A = ℕ} 0 1 = cc in absurd (let w : ⊥ = omega arith in w)

-- a settled stop u is a boundary after the first whose state is that of the boundary before it
pub record Settled (X : Box) (need : ℕ → ℕ → ℕ) (u : ℕ) : Type 0 where
  pub before : ℕ
  pub late : X.origin ≤ before
  pub apart : before + X.hyper ≡ u
  pub equal : same_state (state_at X need (before + X.hyper)) (state_at X need before) ≡ true

pub settled_is : (X : Box) (need : ℕ → ℕ → ℕ) (u k : ℕ) → stop_at X need u ≡ some (settled k) → Settled X need u
unfolding stop_at stop_with state_at at_boundary
settled_is X need u k e =
    let σ = used X.servers X.cap u in
    let ls = links X.servers X.cap need u in
    let A = ltb X.origin u in
    let B = eqb ((u - X.origin) % X.hyper) 0 in
    let C = same_state (state X.servers need σ ls u X.sinks) (state_at X need (u - X.hyper)) in
    let t : T ((A && B) && C) =
    settled_by ((A && B) && C) (eqb u (boundary X need X.rounds)) (backlogged X.servers need σ ls u X.sinks) (round_at X need u) k e in
    let after : X.origin < u = ltb→lt X.origin u (and_l A B (and_l (A && B) C t)) in
    let round : (u - X.origin) % X.hyper ≡ 0 = eqb→eq ((u - X.origin) % X.hyper) 0 (and_r A B (and_l (A && B) C t)) in
    let far : X.hyper ≤ u - X.origin =
    by_lt (u - X.origin) X.hyper (λ z. absurd (let x : ⊥ = omega (arith, mod-eq_of_lt {n = u - X.origin} {m = X.hyper} z) in x)) (λ z. z) in
    let apart : u - X.hyper + X.hyper ≡ u = omega arith in
    record { before = u - X.hyper; late = omega arith; apart = apart; equal = rw apart (T_true {b = C} (and_r (A && B) C t)) }

module _ (X : Box) (h : ℕ → ℕ) (sound : Sound X h) (need : ℕ → ℕ → ℕ) (again : Repeated X.servers h need) (u : ℕ) (s : Settled X need u) where
  abbrev Fin : ℕ → ℕ → ℕ → Type 0
  Fin t i j = Finished X.servers X.cap need t i j

  abbrev release : ℕ → ℕ → ℕ
  release i j = release_of (srv X.servers i) j

  pub first_by_stop : (i j : ℕ) → i < length X.servers → 1 ≤ j → j ≤ h i → Fin u i j
  first_by_stop i j l a o = rw s.apart at (first_finished X h sound need again s.before s.late s.equal i j l a o)

  -- R is at least each response of node i by the stop
  module _ (i R : ℕ) (l : i < length X.servers) (bound : (j : ℕ) → 1 ≤ j → Fin u i j → Fin (release i j + R) i j) where
    periods_later : (t j : ℕ) → s.before ≤ t → 1 ≤ j → Fin t i j → Fin (t + X.hyper) i (j + h i)
    periods_later t j late a f =
        let same = (repetition X h need sound again s.before s.late s.equal t late).finishes i j l a in
        finished_is X.servers X.cap need (t + X.hyper) i (j + h i) (rw same (is_finished X.servers X.cap need t i j f))

    later : (j : ℕ) → 1 ≤ j → (Fin u i (j + h i) → ⊥) → Fin (release i j + R) i j → Fin (release i (j + h i) + R) i (j + h i)
    later j a not_yet f =
        let t = release i j + R in
        by_lt t s.before
        (λ o. absurd
        (not_yet
        (rw s.apart at
        (periods_later s.before j (le_refl s.before) a (finished_stays X.servers X.cap need t s.before i j (omega arith) f)))))
        (λ o.
        let e : t + X.hyper ≡ release i (j + h i) + R =
        omega
        (arith, release_shift (srv X.servers i) (h i) X.hyper (sound.periodic.periods i) (sound.periodic.period_some i) j a) in
        rw e at (periods_later t j o a f))

    next : (n : ℕ) → ((j : ℕ) → j ≤ n → 1 ≤ j → Fin (release i j + R) i j) → (j : ℕ) → j ≤ suc n → 1 ≤ j → Fin (release i j + R) i j
    next n ih j o a =
        either_way (dec (finished_by X.servers X.cap need u i j))
        (λ e. bound j a (finished_is X.servers X.cap need u i j (true_T (finished_by X.servers X.cap need u i j) e)))
        (λ e.
        let not_yet : Fin u i j → ⊥ = λ f. subst T e (is_finished X.servers X.cap need u i j f) in
        by_lt (h i) j
        (λ m.
        let k = j - h i in
        let e' : k + h i ≡ j = omega arith in
        let some = periods_some X.servers X.cap X.hyper h sound.periodic i in
        rw e' at (later k (omega arith) (rw e' not_yet) (ih k (omega (arith, some)) (omega arith))))
        (λ m. absurd (not_yet (first_by_stop i j l a m))))

    up_to : (n j : ℕ) → j ≤ n → 1 ≤ j → Fin (release i j + R) i j
    up_to zero j o a = absurd (let x : ⊥ = omega arith in x)
    up_to (suc n) j o a = next n (up_to n) j o a

    -- every invocation
    pub bounds_all : (j : ℕ) → 1 ≤ j → Fin (release i j + R) i j
    bounds_all j a = up_to j j (le_refl j) a

module _ (X : Box) (h : ℕ → ℕ) (sound : Sound X h) where
  abbrev w : ℕ → ℕ → ℕ
  w = whole X.servers

  pub whole_repeats : Repeated X.servers h w
  unfolding whole
  whole_repeats = record { same = λ i j l a. refl; most = λ i j l a. le_refl (srv X.servers i).budget }

  module _ (u k : ℕ) (e : stop_at X w u ≡ some (settled k)) (i : ℕ) (l : i < length X.servers) (p : 0 < (srv X.servers i).budget) where
    some_ticks : (j : ℕ) → 1 ≤ j → 1 ≤ w i j
    unfolding whole
    some_ticks j a = p

    is_settled_lem : Settled X w u
    is_settled_lem = settled_is X w u k e

    true_for_all : (need : ℕ → ℕ → ℕ) → Needs X.servers need → (j : ℕ) → 1 ≤ j
        → T (finished_by X.servers X.cap need (release_of (srv X.servers i) j + figure X w i u) i j)
    unfolding whole
    true_for_all need n j a =
        finished_no_later X.servers X.cap need w n.most (release_of (srv X.servers i) j + figure X w i u) i j a
        (is_finished X.servers X.cap w (release_of (srv X.servers i) j + figure X w i u) i j
        (bounds_all X h sound w whole_repeats u is_settled_lem i (figure X w i u) l (figure_bounds X w i some_ticks u) j a))

    -- invocation 1 has finished by the stop, and not at its release
    not_zero : figure X w i u ≡ 0 → ⊥
    unfolding release_of
    not_zero z =
        let s = srv X.servers i in
        let one = first_by_stop X h sound w whole_repeats u is_settled_lem i 1 l (omega arith)
        (periods_some X.servers X.cap X.hyper h sound.periodic i) in
        let f = figure_bounds X w i some_ticks u 1 (omega arith) one in
        let at_release : release_of s 1 + figure X w i u ≤ s.offset = omega (arith, zero-mul s.period) in
        omega (arith, f.from, f.to, released_before_early s (release_of s 1 + figure X w i u) at_release)

    takes : (j : ℕ) × Takes X i u (figure X w i u) j
    takes = either_way (figure_exact X w i some_ticks u) (λ z. absurd (not_zero z)) (λ x. (x.j, of x))
      where
        of : (x : Exact X w i some_ticks u (figure X w i u)) → Takes X i u (figure X w i u) x.j
        of x =
            let t = release_of (srv X.servers i) x.j + figure X w i u in
            record {
              from = x.from;
              by = x.no_earlier u x.by;
              finishes = is_finished X.servers X.cap w t i x.j (figure_bounds X w i some_ticks u x.j x.from x.by);
              no_earlier = λ v f. x.no_earlier v (finished_is X.servers X.cap w v i x.j f);
            }

  pub least_true_box : (k : ℕ) → (stopped X w).how ≡ settled k → (i : ℕ) → i < length X.servers → 0 < (srv X.servers i).budget
      → LeastTrue X i (stopped X w).ticks (figure X w i (stopped X w).ticks)
  least_true_box k e i l p =
      let u = (stopped X w).ticks in
      let at : stop_at X w u ≡ some (settled k) = (stopped_is_first X w).stops ∙ ap some e in
      record { true_for_all = true_for_all u k at i l p; attained = takes u k at i l p }
