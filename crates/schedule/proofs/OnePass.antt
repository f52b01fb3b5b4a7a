-- The walk computed in one pass. What it carries from instant to instant are the values of the plain definitions of specs/Walk.antt, so it
-- gives what they give, and antt computes it in steps linear in the ticks. Shown at the end: `one_pass`, that the two are equal for every box.
use mathlib.Core.Path.{◌≡◌, refl, sym, ap, ◌∙◌}
use mathlib.Core.Bool.{◌&&◌, cond}
use mathlib.Core.List.{List, [], ◌∷◌, map}
use mathlib.Core.Option.{Option, none, some}
use Prim.Native.Nat.{ℕ, zero, suc, ◌+◌, ◌-◌, ◌%◌, ◌≤◌, ◌<◌, max}
use native.Mathlib.Nat.{not-suc-le-zero, zero-add, add-mod, add-mod_right, mod-eq_of_lt, mod-zero}
use native.Mathlib.Decide.{dec_lt}
use native.Mathlib.Omega.{arith}
use lib.Dec.{leb, ltb, eqb}
use borrow.Author.Tests.{ltb-true, le-leb, eq-eqb, ne_eqb, eqb-true}
use Rattle.schedule.specs.Servers.{Box}
use Rattle.schedule.specs.ServerJobs.{tick, used}
use Rattle.schedule.specs.Links.{link, links}
use Rattle.schedule.specs.State.{State, state, state_at}
use Rattle.schedule.specs.Walk.{Stop, unsettled, Stopped, Walked, at_boundary, boundary, stop_with, stop_at, first_stop, stopped, finishing, figure, figures, walked}
use Rattle.schedule.proofs.Tests.{by_test}

module _ (X : Box) (need : ℕ → ℕ → ℕ) where
  -- the largest responses so far of each sink, one instant on
  unfoldable pub next_figures : (old σ ls : List (List ℕ)) → ℕ → List ℕ → List ℕ → List ℕ
  next_figures old σ ls t [] fs = []
  next_figures old σ ls t (i ∷ is) [] = []
  next_figures old σ ls t (i ∷ is) (f ∷ fs) = max (finishing X need old σ ls t i) f ∷ next_figures old σ ls t is fs

  -- the state at a boundary is kept for the next
  unfoldable pub next_last : (σ ls : List (List ℕ)) → ℕ → State → State
  next_last σ ls t last =
      let now : State = state X.servers need σ ls t X.sinks in
      cond (leb X.origin t && eqb ((t - X.origin) % X.hyper) 0) now last

  -- t, the ticks used and the links before t, the state at the last boundary before t, and the figures at t
  unfoldable pub pass_from : ℕ → ℕ → (σ ls : List (List ℕ)) → State → List ℕ → Walked
  pass_from zero t σ ls last fs = record { how = unsettled; ticks = t; figures = fs }
  pass_from (suc left) t σ ls last fs =
      elim (stop_with X need σ ls last t) [
        | some s ↦ record { how = s; ticks = t; figures = fs }
        | none ↦ let σ' = tick X.servers X.cap t σ in
            let ls' = link X.servers need σ ls t in
            pass_from left (suc t) σ' ls' (next_last σ ls t last) (next_figures σ σ' ls' t X.sinks fs)
      ]

  unfoldable pub walked_in_one_pass : Walked
  walked_in_one_pass =
      pass_from (suc (boundary X need X.rounds)) 0 [] [] (record { phases = []; nodes = [] }) (map (λ (i : ℕ). 0) X.sinks)

-- a test is true or false; a number is below another or not
by_less : {C : Type 0} (a b : ℕ) → (a < b → C) → (b ≤ a → C) → C
by_less {C} a b f g = go (dec_lt a b)
  where
    go : Dec (a < b) → C
    go (yes h) = f h
    go (no h) = g (omega arith)

module _ (X : Box) (need : ℕ → ℕ → ℕ) where
  abbrev us : ℕ → List (List ℕ)
  us t = used X.servers X.cap t

  abbrev lks : ℕ → List (List ℕ)
  lks t = links X.servers X.cap need t

  -- what `last` is at t: the state at a boundary v among the instants of the hyperperiod before t
  Last : ℕ → State → Type 0
  Last t last = (v : ℕ) → X.origin ≤ v → v < t → (v - X.origin) % X.hyper ≡ 0 → t ≤ v + X.hyper → last ≡ state_at X need v

  -- a boundary after the first lies a hyperperiod or more behind the origin; with no hyperperiod there is none
  far : (t : ℕ) → X.origin < t → (t - X.origin) % X.hyper ≡ 0 → (0 < X.hyper) × (X.hyper ≤ t - X.origin)
  far t o m =
      by_less 0 X.hyper
      (λ p. (p, by_less (t - X.origin) X.hyper (λ z. absurd (let x : ⊥ = omega (arith, mod-eq_of_lt {n = t - X.origin} {m = X.hyper} z) in x)) (λ z. z)))
      (λ p.
      let z : X.hyper ≡ 0 = omega arith in
      let q : t - X.origin ≡ 0 = sym (mod-zero (t - X.origin)) ∙ (rw z at m) in
      absurd (let x : ⊥ = omega arith in x))

  -- where it counts, the carried state is that of a hyperperiod before
  stop_same : (t : ℕ) (last : State) → Last t last → stop_with X need (us t) (lks t) last t ≡ stop_at X need t
  unfolding Last stop_at stop_with at_boundary
  stop_same t last l =
      by_test (ltb X.origin t)
      (λ e. by_test (eqb ((t - X.origin) % X.hyper) 0)
      (λ f.
      let m : (t - X.origin) % X.hyper ≡ 0 = eqb-true ((t - X.origin) % X.hyper) 0 f in
      let o : X.origin < t = ltb-true X.origin t e in
      let d = far t o m in
      let e' : t - X.origin ≡ (t - X.hyper - X.origin) + X.hyper = omega arith in
      rw (l (t - X.hyper) (omega arith) (omega arith) (sym (add-mod_right (t - X.hyper - X.origin) X.hyper) ∙ (rw e' at m)) (omega arith)))
      (λ f. rw (e, f)))
      (λ e. rw e)

  last_step : (t : ℕ) (last : State) → Last t last → Last (suc t) (next_last X need (us t) (lks t) t last)
  unfolding Last next_last state_at
  last_step t last l v a b m c =
      by_less v t
      (λ lt.
      let d = t - v in
      let e : t - X.origin ≡ (v - X.origin) + d = omega arith in
      let between : (t - X.origin) % X.hyper ≡ d =
      rw (e, add-mod (v - X.origin) d X.hyper, m, mod-eq_of_lt {n = d} {m = X.hyper} (omega arith), zero-add d)
      (mod-eq_of_lt {n = d} {m = X.hyper} (omega arith)) in
      rw (le-leb X.origin t (omega arith), ne_eqb ((t - X.origin) % X.hyper) 0 (λ z. omega arith)) (l v a lt m (omega arith)))
      (λ ge.
      let e : v ≡ t = omega arith in
      rw (← e, le-leb X.origin v a, eq-eqb ((v - X.origin) % X.hyper) 0 m))

  figures_step : (t : ℕ) (is : List ℕ)
      → next_figures X need (us t) (us (suc t)) (lks (suc t)) t is (map (λ (i : ℕ). figure X need i t) is) ≡ map (λ (i : ℕ). figure X need i (suc t)) is
  unfolding next_figures figure
  figures_step t [] = refl
  figures_step t (i ∷ is) = ap (λ (l : List ℕ). figure X need i (suc t) ∷ l) (figures_step t is)

  abbrev full : Stopped → Walked
  full s = record { how = s.how; ticks = s.ticks; figures = figures X need s.ticks }

  pass_some : (n t : ℕ) (σ ls : List (List ℕ)) (last : State) (fs : List ℕ) (s : Stop) → stop_with X need σ ls last t ≡ some s
      → pass_from X need (suc n) t σ ls last fs ≡ record { how = s; ticks = t; figures = fs }
  unfolding pass_from
  pass_some n t σ ls last fs s e = rw (e, pass_from)

  pass_none : (n t : ℕ) (σ ls : List (List ℕ)) (last : State) (fs : List ℕ) → stop_with X need σ ls last t ≡ none
      → pass_from X need (suc n) t σ ls last fs
      ≡ pass_from X need n (suc t) (tick X.servers X.cap t σ) (link X.servers need σ ls t) (next_last X need σ ls t last)
      (next_figures X need σ (tick X.servers X.cap t σ) (link X.servers need σ ls t) t X.sinks fs)
  unfolding pass_from
  pass_none n t σ ls last fs e = rw (e, pass_from)

  first_some : (n t : ℕ) (s : Stop) → stop_at X need t ≡ some s → first_stop X need (suc n) t ≡ record { how = s; ticks = t }
  unfolding first_stop
  first_some n t s e = rw (e, first_stop)

  first_none : (n t : ℕ) → stop_at X need t ≡ none → first_stop X need (suc n) t ≡ first_stop X need n (suc t)
  unfolding first_stop
  first_none n t e = rw (e, first_stop)

  -- one instant, given that the rest of the pass is right
  pass_step : (n t : ℕ) (last : State) → Last t last
      → ((last' : State) → Last (suc t) last' → pass_from X need n (suc t) (us (suc t)) (lks (suc t)) last' (figures X need (suc t)) ≡ full (first_stop X need n (suc t)))
      → (o : Option Stop) → stop_at X need t ≡ o → pass_from X need (suc n) t (us t) (lks t) last (figures X need t) ≡ full (first_stop X need (suc n) t)
  unfolding used links figures
  pass_step n t last l ih (some s) e = pass_some n t (us t) (lks t) last (figures X need t) s (stop_same t last l ∙ e) ∙ ap full (sym (first_some n t s e))
  pass_step n t last l ih none e =
      pass_none n t (us t) (lks t) last (figures X need t) (stop_same t last l ∙ e)
      ∙ ap (λ (fs : List ℕ). pass_from X need n (suc t) (us (suc t)) (lks (suc t)) (next_last X need (us t) (lks t) t last) fs) (figures_step t X.sinks)
      ∙ ih (next_last X need (us t) (lks t) t last) (last_step t last l) ∙ ap full (sym (first_none n t e))

  pass_is : (n t : ℕ) (last : State) → Last t last → pass_from X need n t (us t) (lks t) last (figures X need t) ≡ full (first_stop X need n t)
  unfolding pass_from first_stop
  pass_is zero t last l = refl
  pass_is (suc n) t last l = pass_step n t last l (λ last'. pass_is n (suc t) last') (stop_at X need t) refl

  pub one_pass : walked_in_one_pass X need ≡ walked X need
  unfolding walked_in_one_pass walked stopped used links figures figure Last
  one_pass = pass_is (suc (boundary X need X.rounds)) 0 (record { phases = []; nodes = [] }) (λ v a b m c. absurd (not-suc-le-zero b))
