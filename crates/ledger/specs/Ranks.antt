-- Which server jobs are ready, how many stand before one, and which run in a tick: what `rank`, `run` and their functions compute.
use Rattle.std.specs.Prelude.{Bool, cond, List, Option, Some, None, option_map, ℕ, zero, suc, ◌+◌, ◌-◌, min, ltb, eqb, get_or}
use Rattle.std.specs.Option.{option_or}
use Rattle.window.specs.declared.Plan.{Plan}
use Rattle.window.specs.Entries.{further, nodes_of}
use Rattle.ledger.specs.declared.Ledger.{Ledger}
use Rattle.ledger.specs.declared.Found.{Found}
use Rattle.ledger.specs.Entries.{slot_at, instant_after}
use Rattle.ledger.specs.Loops.{changed}

-- rule 4: the last ready server job
abbrev pub ready_to : (complete released level : ℕ) → ℕ
ready_to complete released level = min released (further complete level)

-- rule 5
abbrev pub is_before : (d deadline : ℕ) → Bool → Bool
is_before d deadline earlier = cond (eqb d deadline) earlier (ltb d deadline)

-- of m server jobs after number `from`
unfoldable pub before_by : (offset period from deadline : ℕ) → Bool → ℕ → ℕ
before_by offset period from deadline earlier zero = 0
before_by offset period from deadline earlier (suc m) =
    cond (is_before (instant_after offset period (from + suc m)) deadline earlier) (further (before_by offset period from deadline earlier m) 1)
    (before_by offset period from deadline earlier m)

module _ (offsets period level complete released : List ℕ) where
  -- the ready server jobs at place m are as many, after the complete ones
  abbrev pub last_ready : ℕ → ℕ
  last_ready m = ready_to (get_or complete m 0) (get_or released m 0) (get_or level m 0)

  abbrev pub ready_count : ℕ → ℕ
  ready_count m = last_ready m - get_or complete m 0

  abbrev pub before_at : (i deadline m : ℕ) → ℕ
  before_at i deadline m = before_by (get_or offsets m 0) (get_or period m 0) (get_or complete m 0) deadline (ltb m i) (ready_count m)

  -- over the first n places
  unfoldable pub rank_by : (i deadline n : ℕ) → ℕ
  rank_by i deadline zero = 0
  rank_by i deadline (suc m) = further (rank_by i deadline m) (before_at i deadline m)

  abbrev pub rank : (n i k : ℕ) → ℕ
  rank n i k = rank_by i (instant_after (get_or offsets i 0) (get_or period i 0) k) n

  -- rule 6: the ticks used, after m server jobs of place i in turn; and after all that are ready there
  abbrev pub ran_by : (old : List ℕ) → (n p i : ℕ) → List ℕ → ℕ → List ℕ
  ran_by old n p i used m =
      changed (λ (m : ℕ). ltb (rank n i (get_or complete i 0 + suc m)) p) (λ (m : ℕ). slot_at i (get_or complete i 0 + suc m))
      (λ (m : ℕ). further (get_or old (slot_at i (get_or complete i 0 + suc m)) 0) 1) used m

  abbrev pub run_server : (old : List ℕ) → (n p i : ℕ) → List ℕ → List ℕ
  run_server old n p i used = ran_by old n p i used (ready_count i)

  unfoldable pub run_to : (old : List ℕ) → (n p : ℕ) → ℕ → List ℕ
  run_to old n p zero = old
  run_to old n p (suc i) = run_server old n p i (run_to old n p i)

  -- the last of m ready server jobs of place i that has rank r, if one has; and over the first m places
  unfoldable pub found_by : (n i r m : ℕ) → Option ℕ
  found_by n i r zero = None
  found_by n i r (suc m) = cond (eqb (rank n i (get_or complete i 0 + suc m)) r) (Some (get_or complete i 0 + suc m)) (found_by n i r m)

  abbrev pub found_in : (n i r : ℕ) → Option ℕ
  found_in n i r = found_by n i r (ready_count i)

  abbrev pub found_at : (m : ℕ) → Option ℕ → Option Found
  found_at m number = option_map (λ (k : ℕ). record { place = m; number = k }) number

  unfoldable pub found_to : (n r m : ℕ) → Option Found
  found_to n r zero = None
  found_to n r (suc m) = option_or (found_at m (found_in n m r)) (found_to n r m)

  abbrev pub found : (n r : ℕ) → Option Found
  found n r = found_to n r n

unfoldable pub run : Plan → List ℕ → Ledger → Ledger
run plan offsets l =
    record {
      released = l.released;
      complete = l.complete;
      linked = l.linked;
      finished = l.finished;
      worst = l.worst;
      used =
          run_to offsets plan.period plan.level l.complete l.released l.used (nodes_of plan) plan.processors (nodes_of plan);
      link = l.link;
    }
