-- One instant of `walk_from`, by the tests in the order in which the code makes them: what each way through an instant comes to.
use mathlib.Core.Path.{◌≡◌, refl, sym, ap, ◌∙◌}
use mathlib.Core.Bool.{Bool, true, false, ◌&&◌, cond}
use mathlib.Core.List.{List}
use Rattle.std.specs.Prelude.{Option, Some, None}
use Rattle.std.proofs.lemmas.Option.{none-some, same_Some}
use Prim.Native.Nat.{ℕ, zero, suc, ◌+◌, ◌*◌, ◌≤◌, ◌<◌}
use native.Mathlib.Nat.{mul-le-mul_right}
use native.Mathlib.Numerals.{add-one}
use native.Mathlib.Omega.{arith}
use lib.Dec.{ltb, eqb}
use borrow.Author.Tests.{eq-eqb, ne_eqb, eqb-false}
use Rattle.schedule.specs.Limits as Limits
use Rattle.schedule.proofs.Tests.{by_lt}
use Rattle.window.specs.declared.Plan.{Plan}
use Rattle.window.specs.Entries.{further, nodes_of}
use Rattle.ledger.specs.declared.Ledger.{Ledger}
use Rattle.ledger.specs.declared.Formed.{Formed}
use Rattle.ledger.specs.Finishing.{finish}
use Rattle.ledger.specs.Releasing.{release, backlogged}
use Rattle.ledger.specs.Ranks.{run}
use Rattle.ledger.specs.Forming.{blank_state, form, same_formed}
use Rattle.window.specs.declared.How.{How}
use Rattle.window.specs.declared.How.TheVariants.{Settled, Unsettled, Backlog, Reached}
use Rattle.window.specs.declared.Walk.{Walk}
use Rattle.ledger.specs.Walking.{fresh, ended, boundary_end, walk_from, walk_of}

-- how a walk ends at a boundary, or does not: `same` is the test of its state, `rest` the walk from there on
module _ (rounds round t : ℕ) (l : Ledger) (rest : Walk Ledger) where
  abbrev tested : (settles runs_out : Bool) → Walk Ledger
  tested settles runs_out = cond settles (ended (Settled round) t l) (cond runs_out (ended Unsettled t l) rest)

  ends_by : (settles runs_out : Bool) (how : How) → cond settles (Some (Settled round)) (cond runs_out (Some Unsettled) None) ≡ Some how
      → tested settles runs_out ≡ ended how t l
  ends_by true runs_out how e = ap (λ (h : How). ended h t l) (same_Some (Settled round) how e)
  ends_by false true how e = ap (λ (h : How). ended h t l) (same_Some Unsettled how e)
  ends_by false false how e = absurd (none-some how e)

goes_by : {A : Type 0} (x y : A) (settles runs_out : Bool) → cond settles (Some x) (cond runs_out (Some y) None) ≡ None → (settles ≡ false) × (runs_out ≡ false)
goes_by x y true runs_out e = absurd (none-some x (sym e))
goes_by x y false true e = absurd (none-some y (sym e))
goes_by x y false false e = (refl, refl)

-- a walk that goes on past a boundary has rounds left
pub not_last : (rounds round : ℕ) (same : Bool) {o : Option How} → o ≡ boundary_end rounds round same → o ≡ None → round ≡ rounds → ⊥
not_last rounds round same e f = eqb-false round rounds (goes_by (Settled round) Unsettled (ltb 0 round && same) (eqb round rounds) (sym e ∙ f)).1

-- what is left of a whole walk at an instant t, in some number of instants that is enough
pub record Remains (plan : Plan) (offsets : List ℕ) (hyper rounds asked last : ℕ) (whole : Walk Ledger) (t boundary round : ℕ) (l : Ledger) (before : Formed) : Type 0 where
  pub ticks : ℕ
  pub same : whole ≡ walk_from plan offsets hyper rounds asked ticks t boundary round l before
  pub enough : last < t + ticks

-- not past the last boundary, one instant at least
module _ {plan : Plan} {offsets : List ℕ} {hyper rounds asked last : ℕ} {whole : Walk Ledger} {t boundary round : ℕ} {l : Ledger} {before : Formed}
    (r : Remains plan offsets hyper rounds asked last whole t boundary round l before) (in_time : t ≤ last) where
  some : (f : ℕ) → f ≡ r.ticks → (left : ℕ) × (r.ticks ≡ suc left)
  some zero e = absurd (omega (arith, r.enough))
  some (suc f) e = (f, sym e)

  after : ℕ
  after = (some r.ticks refl).0

  abbrev here : Walk Ledger
  here = walk_from plan offsets hyper rounds asked (suc after) t boundary round l before

  from_here : whole ≡ here
  unfolding after some
  from_here = r.same ∙ ap (λ (f : ℕ). walk_from plan offsets hyper rounds asked f t boundary round l before) (some r.ticks refl).1

  abbrev same_as_before : Bool
  same_as_before = same_formed (form plan offsets l t) before (nodes_of plan)

  -- at a boundary, whose test came to o
  module _ {s : Formed} (formed : s ≡ form plan offsets l t) {o : Option How} (test : o ≡ boundary_end rounds round (same_formed s before (nodes_of plan)))
      (at : t ≡ boundary) where
    end_is : boundary_end rounds round same_as_before ≡ o
    end_is = rw (← formed) (sym test)

    pub ends_there : (how : How) → o ≡ Some how → ended how t l ≡ whole
    unfolding walk_from
    ends_there how e =
        let w : here ≡ ended how t l = rw (eq-eqb t boundary at) (ends_by rounds round t l _ (ltb 0 round && same_as_before) (eqb round rounds) how (end_is ∙ e)) in
        sym (from_here ∙ w)

  -- past the boundary tests, with the state that is compared from here on
  pub record Passes (boundary' round' : ℕ) (before' : Formed) : Type 0 where
    pub no_settling : (eqb t boundary && (ltb 0 round && same_as_before)) ≡ false
    pub no_end : (eqb t boundary && eqb round rounds) ≡ false
    pub boundary_is : boundary' ≡ cond (eqb t boundary) (further boundary hyper) boundary
    pub round_is : round' ≡ cond (eqb t boundary) (suc round) round
    pub before_is : before' ≡ cond (eqb t boundary) (form plan offsets l t) before

  pub passes_boundary : {s : Formed} → s ≡ form plan offsets l t → {o : Option How}
      → o ≡ boundary_end rounds round (same_formed s before (nodes_of plan)) → t ≡ boundary → o ≡ None
      → {boundary' round' : ℕ} {before' : Formed} → boundary' ≡ further boundary hyper → round' ≡ round + 1 → before' ≡ s
      → Passes boundary' round' before'
  passes_boundary formed test at e a b c =
      let on : eqb t boundary ≡ true = eq-eqb t boundary at in
      let go = goes_by (Settled round) Unsettled (ltb 0 round && same_as_before) (eqb round rounds) (end_is formed test at ∙ e) in
      record {
        no_settling = rw (on, go.0);
        no_end = rw (on, go.1);
        boundary_is = rw on a;
        round_is = rw on (b ∙ add-one round);
        before_is = rw on (c ∙ formed);
      }

  pub passes_between : {boundary' round' : ℕ} {before' : Formed} → (t ≡ boundary → ⊥) → boundary' ≡ boundary → round' ≡ round → before' ≡ before
      → Passes boundary' round' before'
  passes_between e a b c =
      let off : eqb t boundary ≡ false = ne_eqb t boundary e in
      record { no_settling = rw off; no_end = rw off; boundary_is = rw off a; round_is = rw off b; before_is = rw off c }

  module _ {boundary' round' : ℕ} {before' : Formed} (p : Passes boundary' round' before') {a : Ledger} (released : a ≡ release plan offsets l t) {x : Bool}
      (test : x ≡ backlogged a.released a.complete a.finished plan.room (nodes_of plan)) where
    full_is : backlogged (release plan offsets l t).released (release plan offsets l t).complete (release plan offsets l t).finished plan.room (nodes_of plan) ≡ x
    full_is = rw (← released) (sym test)

    pub ends_in_backlog : x ≡ true → ended Backlog t a ≡ whole
    unfolding walk_from
    ends_in_backlog e =
        let w : here ≡ ended Backlog t a = rw (p.no_settling, p.no_end, full_is ∙ e, released) in
        sym (from_here ∙ w)

    pub reaches : x ≡ false → t ≡ asked → ended Reached t a ≡ whole
    unfolding walk_from
    reaches e f =
        let w : here ≡ ended Reached t a = rw (p.no_settling, p.no_end, full_is ∙ e, eq-eqb t asked f, released) in
        sym (from_here ∙ w)

    pub goes_on : x ≡ false → (t ≡ asked → ⊥) → {b later : Ledger} → b ≡ run plan offsets a → later ≡ finish plan offsets b (t + 1)
        → Remains plan offsets hyper rounds asked last whole (t + 1) boundary' round' later before'
    unfolding walk_from after some
    goes_on e f {b} {later} g h =
        let w : here ≡ walk_from plan offsets hyper rounds asked after (t + 1) boundary' round' later before' =
        rw (p.no_settling, p.no_end, full_is ∙ e, ne_eqb t asked f, h, g, released, add-one t, p.boundary_is, p.round_is, p.before_is) in
        record { ticks = after; same = from_here ∙ w; enough = omega (arith, r.enough, (some r.ticks refl).1) }

-- the whole walk, from the fresh ledger
pub from_start : (plan : Plan) (offsets : List ℕ) (origin hyper rounds asked : ℕ) (l : Ledger) (before : Formed) → l ≡ fresh → before ≡ blank_state
    → Remains plan offsets hyper rounds asked (origin + rounds * hyper) (walk_of plan offsets origin hyper rounds asked) 0 origin 0 l before
unfolding walk_of
from_start plan offsets origin hyper rounds asked l before e f = record { ticks = suc (origin + rounds * hyper); same = rw (e, f); enough = omega arith }

-- the boundary at or after an instant: which one it is, and that it is none past the last
pub record Ahead (origin hyper rounds t boundary round : ℕ) : Type 0 where
  pub boundary_is : boundary ≡ origin + round * hyper
  pub round_most : round ≤ rounds
  pub later : t ≤ boundary

module _ {origin hyper rounds t boundary round : ℕ} (h : Ahead origin hyper rounds t boundary round) where
  pub not_past : t ≤ origin + rounds * hyper
  not_past = omega (arith, h.boundary_is, h.later, mul-le-mul_right hyper h.round_most)

  pub ahead_boundary : {boundary' round' : ℕ} → origin + rounds * hyper ≤ (Limits.offset).to + (Limits.rounds).to * (Limits.hyperperiod).to → 1 ≤ hyper
      → t ≡ boundary → (round ≡ rounds → ⊥) → boundary' ≡ further boundary hyper → round' ≡ round + 1 → Ahead origin hyper rounds (t + 1) boundary' round'
  ahead_boundary {boundary'} {round'} fits one at r b q =
      let less : round < rounds = by_lt round rounds (λ x. x) (λ x. absurd (r (omega (arith, h.round_most)))) in
      let next : (round + 1) * hyper ≡ round * hyper + hyper = omega arith in
      let most : (round + 1) * hyper ≤ rounds * hyper = mul-le-mul_right hyper (omega arith) in
      record { boundary_is = rw q (omega (arith, h.boundary_is)); round_most = omega arith; later = omega (arith, h.boundary_is) }

  pub ahead_between : {boundary' round' : ℕ} → (t ≡ boundary → ⊥) → boundary' ≡ boundary → round' ≡ round → Ahead origin hyper rounds (t + 1) boundary' round'
  ahead_between off b q = record {
    boundary_is = rw (b, q) h.boundary_is;
    round_most = rw q h.round_most;
    later = rw b (by_lt t boundary (λ x. omega arith) (λ x. absurd (off (omega (arith, h.later)))));
  }
