-- One event of `walk_from`, by the tests in the order in which the code makes them: what each way through an event comes to. `n` is the
-- number of places as the code has it.
use mathlib.Core.Path.{◌≡◌, refl, sym, ap, ◌∙◌}
use mathlib.Core.Bool.{Bool, true, false, ◌&&◌, cond}
use mathlib.Core.List.{List}
use Prim.Native.Nat.{ℕ, zero, suc, ◌+◌, ◌*◌, ◌≤◌, ◌<◌}
use native.Mathlib.Numerals.{add-one}
use native.Mathlib.Omega.{arith}
use lib.Dec.{ltb, eqb}
use borrow.Author.Tests.{lt-ltb, le-ltb, eq-eqb, ne_eqb}
use Rattle.table.specs.declared.State.{State}
use Rattle.table.specs.declared.Kept.{Kept}
use Rattle.table.specs.Fresh.{fresh_state}
use Rattle.window.specs.declared.Plan.{Plan}
use Rattle.window.specs.Entries.{further, nodes_of}
use Rattle.window.specs.Releasing.{earliest, any_full, released, released_at}
use Rattle.window.specs.Comparing.{same_states, keep}
use Rattle.window.specs.Working.{span_of, worked}
use Rattle.window.specs.declared.How.TheVariants.{Settled, Unsettled, Backlog, Reached}
use Rattle.table.specs.declared.Seen.{Seen}
use Rattle.window.specs.declared.Walk.{Walk}
use Rattle.window.specs.Walking.{ended, kept_of, walk_from, walk_of}

-- `left` events at most are left after this one
module _ (plan : Plan) (hyper rounds asked left t boundary round n : ℕ) (st : State) (kept : Kept) (same : n ≡ nodes_of plan) where
  abbrev here : Walk Seen
  here = walk_from plan hyper rounds asked (suc left) t boundary round st kept

  -- the boundary's state is another than the one before, or there is none before
  abbrev pub Differs : Type 0
  Differs = (ltb 0 round && same_states st kept hyper (nodes_of plan)) ≡ false

  pub differs_states : 0 < round → {x : Bool} → x ≡ same_states st kept hyper n → x ≡ false → Differs
  differs_states p e f =
      let whole : same_states st kept hyper n ≡ false = sym e ∙ f in
      rw (lt-ltb 0 round p) (rw same at whole)

  pub differs_first : round ≤ 0 → Differs
  differs_first h = rw (le-ltb 0 round h)

  pub settles : t ≡ boundary → 0 < round → {x : Bool} → x ≡ same_states st kept hyper n → x ≡ true → here ≡ ended (Settled round) t st
  unfolding walk_from
  settles e p f g =
      let whole : same_states st kept hyper n ≡ true = sym f ∙ g in
      rw (eq-eqb t boundary e, lt-ltb 0 round p, rw same at whole)

  pub ends_unsettled : t ≡ boundary → Differs → round ≡ rounds → here ≡ ended Unsettled t st
  unfolding walk_from
  ends_unsettled e d r = rw (eq-eqb t boundary e, d, eq-eqb round rounds r)

  -- past the boundary tests, with what is kept from here on
  pub record Passes (boundary' round' : ℕ) (kept' : Kept) : Type 0 where
    pub no_settling : (eqb t boundary && (ltb 0 round && same_states st kept hyper (nodes_of plan))) ≡ false
    pub no_end : (eqb t boundary && eqb round rounds) ≡ false
    pub boundary_is : boundary' ≡ cond (eqb t boundary) (further boundary hyper) boundary
    pub round_is : round' ≡ cond (eqb t boundary) (suc round) round
    pub kept_is : kept' ≡ cond (eqb t boundary) (keep st kept (nodes_of plan)) kept

  pub passes_boundary : {boundary' round' : ℕ} {kept' : Kept} → t ≡ boundary → Differs → (round ≡ rounds → ⊥) → boundary' ≡ further boundary hyper
      → round' ≡ round + 1 → kept' ≡ keep st kept n → Passes boundary' round' kept'
  passes_boundary e d r a b c =
      let at : eqb t boundary ≡ true = eq-eqb t boundary e in
      record {
        no_settling = rw (at, d);
        no_end = rw (at, ne_eqb round rounds r);
        boundary_is = rw at a;
        round_is = rw at (b ∙ add-one round);
        kept_is = rw at (rw same at c);
      }

  pub passes_between : {boundary' round' : ℕ} {kept' : Kept} → (t ≡ boundary → ⊥) → boundary' ≡ boundary → round' ≡ round → kept' ≡ kept
      → Passes boundary' round' kept'
  passes_between e a b c =
      let off : eqb t boundary ≡ false = ne_eqb t boundary e in
      record { no_settling = rw off; no_end = rw off; boundary_is = rw off a; round_is = rw off b; kept_is = rw off c }

  module _ (boundary' round' : ℕ) (kept' : Kept) (p : Passes boundary' round' kept') (release : ℕ) (next : release ≡ earliest st.next n) where
    at_release : t ≡ release → eqb t (earliest st.next (nodes_of plan)) ≡ true
    at_release e = rw same at (eq-eqb t (earliest st.next n) (e ∙ next))

    off_release : (t ≡ release → ⊥) → eqb t (earliest st.next (nodes_of plan)) ≡ false
    off_release e = rw same at (ne_eqb t (earliest st.next n) (λ h. e (h ∙ sym next)))

    pub ends_in_backlog : t ≡ release → {x : Bool} → x ≡ any_full st.next st.count st.unfinished plan.room t n → x ≡ true
        → here ≡ ended Backlog t st
    unfolding walk_from
    ends_in_backlog e f g =
        let full : any_full st.next st.count st.unfinished plan.room t n ≡ true = sym f ∙ g in
        rw (p.no_settling, p.no_end, at_release e, rw same at full)

    -- past the backlog test, with the state after the releases
    pub record Goes (a : State) : Type 0 where
      pub no_backlog : (eqb t (earliest st.next (nodes_of plan)) && any_full st.next st.count st.unfinished plan.room t (nodes_of plan)) ≡ false
      pub is_released : a ≡ released_at plan t st

    pub goes_released : {a : State} → t ≡ release → {x : Bool} → x ≡ any_full st.next st.count st.unfinished plan.room t n → x ≡ false
        → a ≡ released plan t st → Goes a
    goes_released e f g r =
        let full : any_full st.next st.count st.unfinished plan.room t n ≡ false = sym f ∙ g in
        record { no_backlog = rw (at_release e, rw same at full); is_released = rw (at_release e) r }

    pub goes_without : {a : State} → (t ≡ release → ⊥) → a ≡ st → Goes a
    goes_without e r = record { no_backlog = rw (off_release e); is_released = rw (off_release e) r }

    module _ (a : State) (g : Goes a) where
      pub reaches : t ≡ asked → here ≡ ended Reached t a
      unfolding walk_from
      reaches e = rw (p.no_settling, p.no_end, g.no_backlog, eq-eqb t asked e, g.is_released)

      pub goes_on : (t ≡ asked → ⊥) → (d : ℕ) → d ≡ span_of plan t boundary' asked a → (later : State) → later ≡ worked plan t d a
          → here ≡ walk_from plan hyper rounds asked left (t + d) boundary' round' later kept'
      unfolding walk_from
      goes_on e d s later w =
          rw (p.no_settling, p.no_end, g.no_backlog, ne_eqb t asked e, w, s, g.is_released, p.boundary_is, p.round_is, p.kept_is)

-- what is left of a whole walk at an instant t, in some number of events that is enough
pub record Remains (plan : Plan) (hyper rounds asked last : ℕ) (whole : Walk Seen) (t boundary round : ℕ) (st : State) (kept : Kept) : Type 0 where
  pub events : ℕ
  pub same : whole ≡ walk_from plan hyper rounds asked events t boundary round st kept
  pub enough : last < t + events

-- not past the last boundary, one event at least
module _ (plan : Plan) (hyper rounds asked last : ℕ) (whole : Walk Seen) (t boundary round : ℕ) (st : State) (kept : Kept)
    (r : Remains plan hyper rounds asked last whole t boundary round st kept) (l : t ≤ last) where
  some : (f : ℕ) → f ≡ r.events → (left : ℕ) × (r.events ≡ suc left)
  some zero e = absurd (omega (arith, r.enough))
  some (suc f) e = (f, sym e)

  pub after : ℕ
  after = (some r.events refl).0

  pub from_here : whole ≡ walk_from plan hyper rounds asked (suc after) t boundary round st kept
  unfolding after some
  from_here = r.same ∙ ap (λ (f : ℕ). walk_from plan hyper rounds asked f t boundary round st kept) (some r.events refl).1

  pub one_more_lem : {d boundary' round' : ℕ} {later : State} {kept' : Kept} → 1 ≤ d
      → walk_from plan hyper rounds asked (suc after) t boundary round st kept ≡ walk_from plan hyper rounds asked after (t + d) boundary' round' later kept'
      → Remains plan hyper rounds asked last whole (t + d) boundary' round' later kept'
  unfolding after some
  one_more_lem {d} h e = record { events = after; same = from_here ∙ e; enough = omega (arith, r.enough, (some r.events refl).1) }

-- the whole walk, from the fresh state
pub from_start : (plan : Plan) (offsets : List ℕ) (origin hyper rounds asked : ℕ) (fresh : State) (kept : Kept) → fresh ≡ fresh_state offsets → kept ≡ kept_of fresh
    → walk_of plan offsets origin hyper rounds asked ≡ walk_from plan hyper rounds asked (suc (origin + rounds * hyper)) 0 origin 0 fresh kept
unfolding walk_of
from_start plan offsets origin hyper rounds asked fresh kept e k = rw (k, e)
