-- The walk of the plain engine: what `walk_to` computes, by recursion on the ticks left as its loop goes. For the proof, not for belief.
use Rattle.std.specs.Prelude.{Bool, ◌&&◌, cond, List, Option, Some, None, ℕ, zero, suc, ◌+◌, ◌*◌, ltb, eqb}
use Rattle.window.specs.declared.Plan.{Plan}
use Rattle.window.specs.Entries.{places, further, nodes_of}
use Rattle.ledger.specs.declared.Ledger.{Ledger}
use Rattle.ledger.specs.declared.Formed.{Formed}
use Rattle.ledger.specs.Entries.{slots}
use Rattle.ledger.specs.Finishing.{finish}
use Rattle.ledger.specs.Releasing.{release, backlogged}
use Rattle.ledger.specs.Ranks.{run}
use Rattle.ledger.specs.Forming.{zeros, blank_state, form, same_formed}
use Rattle.window.specs.declared.How.{How}
use Rattle.window.specs.declared.How.TheVariants.{Settled, Unsettled, Backlog, Reached}
use Rattle.window.specs.declared.Walk.{Walk}

abbrev pub fresh : Ledger
fresh =
    record {
      released = zeros places;
      complete = zeros places;
      linked = zeros places;
      finished = zeros places;
      worst = zeros places;
      used = zeros slots;
      link = zeros slots;
    }

abbrev pub ended : How → ℕ → Ledger → Walk Ledger
ended how t l = record { how = how; ticks = t; state = l }

-- how a walk ends at a boundary, if it does: `same` says that the state there is the one of the boundary before
abbrev pub boundary_end : (rounds round : ℕ) → Bool → Option How
boundary_end rounds round same = cond (ltb 0 round && same) (Some (Settled round)) (cond (eqb round rounds) (Some Unsettled) None)

module _ (plan : Plan) (offsets : List ℕ) (hyper rounds asked : ℕ) where
  abbrev pub n : ℕ
  n = nodes_of plan

  -- the tests at instant t, in their order
  abbrev pub settles : (t boundary round : ℕ) → Ledger → Formed → Bool
  settles t boundary round l before = eqb t boundary && (ltb 0 round && same_formed (form plan offsets l t) before n)

  abbrev pub runs_out : (t boundary round : ℕ) → Bool
  runs_out t boundary round = eqb t boundary && eqb round rounds

  abbrev pub backlogs : Ledger → Bool
  backlogs a = backlogged a.released a.complete a.finished plan.room n

  -- the first boundary after t, its number, and the state at the one before it
  abbrev pub later_of : (t boundary : ℕ) → ℕ
  later_of t boundary = cond (eqb t boundary) (further boundary hyper) boundary

  abbrev pub round_of : (t boundary round : ℕ) → ℕ
  round_of t boundary round = cond (eqb t boundary) (suc round) round

  abbrev pub before_of : (t boundary : ℕ) → Ledger → Formed → Formed
  before_of t boundary l before = cond (eqb t boundary) (form plan offsets l t) before

  -- the tick at t, from the ledger after its releases, and the work finished at its end
  abbrev pub ticked : ℕ → Ledger → Ledger
  ticked t a = finish plan offsets (run plan offsets a) (suc t)

  -- what the tests come to, where a is the ledger after the releases of t, and `rest` the walk from the next instant on
  abbrev pub decided : (t boundary round : ℕ) → Ledger → Ledger → Formed → Walk Ledger → Walk Ledger
  decided t boundary round l a before rest =
      cond (settles t boundary round l before) (ended (Settled round) t l)
      (cond (runs_out t boundary round) (ended Unsettled t l)
      (cond (backlogs a) (ended Backlog t a) (cond (eqb t asked) (ended Reached t a) rest)))

  -- at instant t: `boundary` is the first boundary at or after t, number `round`; `before` the state at the one before it
  unfoldable pub walk_from : (left t boundary round : ℕ) → Ledger → Formed → Walk Ledger
  walk_from zero t boundary round l before = ended Unsettled t l
  walk_from (suc left) t boundary round l before =
      let a : Ledger = release plan offsets l t in
      let rest : Walk Ledger =
      walk_from left (suc t) (later_of t boundary) (round_of t boundary round) (ticked t a) (before_of t boundary l before) in
      decided t boundary round l a before rest

-- from the fresh ledger, as far as the last boundary
unfoldable pub walk_of : Plan → List ℕ → (origin hyper rounds asked : ℕ) → Walk Ledger
walk_of plan offsets origin hyper rounds asked =
    walk_from plan offsets hyper rounds asked (suc (origin + rounds * hyper)) 0 origin 0 fresh blank_state
