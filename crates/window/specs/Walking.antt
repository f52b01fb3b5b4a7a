-- The walk over windows: what `walk_to` computes, by recursion on the events left as its loop goes. For the proof, not for belief.
use Rattle.std.specs.Prelude.{Bool, ◌&&◌, cond, List, ℕ, zero, suc, ◌+◌, ◌*◌, ltb, eqb}
use Rattle.table.specs.declared.State.{State}
use Rattle.table.specs.declared.Kept.{Kept}
use Rattle.table.specs.declared.Seen.{Seen}
use Rattle.table.specs.Fresh.{fresh_state}
use Rattle.window.specs.declared.Plan.{Plan}
use Rattle.window.specs.Entries.{further, nodes_of}
use Rattle.window.specs.Releasing.{any_full, released_at, earliest}
use Rattle.window.specs.Comparing.{same_states, keep}
use Rattle.window.specs.Working.{span_of, worked}
use Rattle.window.specs.declared.How.{How}
use Rattle.window.specs.declared.How.TheVariants.{Settled, Unsettled, Backlog, Reached}
use Rattle.window.specs.declared.Walk.{Walk}

-- what is shown of a state
abbrev pub seen_of : State → Seen
seen_of st = record { servers = st.servers; first = st.first; count = st.count; worst = st.worst }

abbrev pub ended : How → ℕ → State → Walk Seen
ended how t st = record { how = how; ticks = t; state = seen_of st }

-- what is kept before there is a boundary: never looked at
abbrev pub kept_of : State → Kept
kept_of st =
    record {
      servers = st.servers;
      left = st.left;
      count = st.count;
      unfinished = st.unfinished;
      unlinked = st.unlinked;
      next = st.next;
    }

module _ (plan : Plan) (hyper rounds asked : ℕ) where
  abbrev pub n : ℕ
  n = nodes_of plan

  -- the tests at instant t, in their order
  abbrev pub settles : (t boundary round : ℕ) → State → Kept → Bool
  settles t boundary round st kept = eqb t boundary && (ltb 0 round && same_states st kept hyper n)

  abbrev pub runs_out : (t boundary round : ℕ) → Bool
  runs_out t boundary round = eqb t boundary && eqb round rounds

  abbrev pub backlogs : ℕ → State → Bool
  backlogs t st =
      eqb t (earliest st.next n) && any_full st.next st.count st.unfinished plan.room t n

  -- the first boundary after t, where `boundary` is the first at or after it; its number; and what is kept of the one before it
  abbrev pub later_of : (t boundary : ℕ) → ℕ
  later_of t boundary = cond (eqb t boundary) (further boundary hyper) boundary

  abbrev pub round_of : (t boundary round : ℕ) → ℕ
  round_of t boundary round = cond (eqb t boundary) (suc round) round

  abbrev pub kept_from : (t boundary : ℕ) → State → Kept → Kept
  kept_from t boundary st kept = cond (eqb t boundary) (keep st kept n) kept

  -- the ticks of the span from t on, where a is the state after the releases of t
  abbrev pub ticks_from : (t boundary : ℕ) → State → ℕ
  ticks_from t boundary a = span_of plan t (later_of t boundary) asked a

  -- what the tests come to, where `rest` is the walk from the next event on
  abbrev pub decided : (t boundary round : ℕ) → State → Kept → Walk Seen → Walk Seen
  decided t boundary round st kept rest =
      cond (settles t boundary round st kept) (ended (Settled round) t st)
      (cond (runs_out t boundary round) (ended Unsettled t st)
      (cond (backlogs t st) (ended Backlog t st) (cond (eqb t asked) (ended Reached t (released_at plan t st)) rest)))

  -- at instant t: `boundary` is the first boundary at or after t, number `round`; `kept` what is kept of the one before it
  unfoldable pub walk_from : (left t boundary round : ℕ) → State → Kept → Walk Seen
  walk_from zero t boundary round st kept = ended Unsettled t st
  walk_from (suc left) t boundary round st kept =
      let a : State = released_at plan t st in
      let d : ℕ = ticks_from t boundary a in
      let rest : Walk Seen =
      walk_from left (t + d) (later_of t boundary) (round_of t boundary round) (worked plan t d a) (kept_from t boundary st kept) in
      decided t boundary round st kept rest

-- from the fresh state, as far as the last boundary: each event takes a tick at least
unfoldable pub walk_of : Plan → List ℕ → (origin hyper rounds asked : ℕ) → Walk Seen
walk_of plan offsets origin hyper rounds asked =
    walk_from plan hyper rounds asked (suc (origin + rounds * hyper)) 0 origin 0 (fresh_state offsets) (kept_of (fresh_state offsets))
