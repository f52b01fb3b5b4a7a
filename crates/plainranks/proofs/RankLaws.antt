-- Ranks: one server job more, one place more.
use mathlib.Core.Path.{◌≡◌, refl, sym, ap, ◌∙◌}
use mathlib.Core.Bool.{Bool, true, false}
use mathlib.Core.List.{List}
use Rattle.std.specs.Prelude.{Option, Some, None}
use Prim.Native.Nat.{ℕ, suc, ◌+◌, ◌-◌, ◌≤◌, ◌<◌}
use native.Mathlib.Numerals.{add-one}
use native.Mathlib.Omega.{arith}
use lib.Dec.{ltb, eqb}
use lib.ListN.{get_or, set}
use borrow.Author.Tests.{lt-ltb, le-ltb, eq-eqb, ne_eqb}
use Rattle.window.specs.declared.Plan.{Plan}
use Rattle.window.specs.Entries.{further, nodes_of}
use Rattle.ledger.specs.declared.Ledger.{Ledger}
use Rattle.ledger.specs.declared.Found.{Found}
use Rattle.ledger.specs.Entries.{slot_at, instant_after}
use Rattle.ledger.specs.Loops.{changed}
use Rattle.ledger.specs.Ranks.{is_before, before_by, before_at, rank_by, rank, ran_by, run_server, run_to, found_by, found_in, found_to, run}

-- of the server jobs after `from`, k is the last that was looked at
abbrev pub next : (from k : ℕ) → from ≤ k → k + 1 - from ≡ suc (k - from)
next from k h = omega arith

abbrev pub number : (from k : ℕ) → from ≤ k → from + suc (k - from) ≡ k + 1
number from k h = omega arith

module _ (offset period from deadline : ℕ) (earlier : Bool) where
  abbrev up_to : ℕ → ℕ
  up_to k = before_by offset period from deadline earlier (k - from)

  pub before_start : 0 ≡ up_to from
  unfolding before_by
  before_start = let e : from - from ≡ 0 = omega arith in rw e

  module _ (k : ℕ) (h : from ≤ k) {d : ℕ} (deadline_is : d ≡ instant_after offset period (k + 1)) {x : Bool} (test : x ≡ is_before d deadline earlier) {n : ℕ}
      (so_far : n ≡ up_to k) where
    test_is : x ≡ is_before (instant_after offset period (k + 1)) deadline earlier
    test_is = test ∙ ap (λ (q : ℕ). is_before q deadline earlier) deadline_is

    pub before_yes : x ≡ true → {m : ℕ} → m ≡ further n 1 → m ≡ up_to (k + 1)
    unfolding before_by
    before_yes e f = rw (next from k h, number from k h, sym test_is ∙ e, ← so_far) f

    pub before_no : x ≡ false → n ≡ up_to (k + 1)
    unfolding before_by
    before_no e = rw (next from k h, number from k h, sym test_is ∙ e) so_far

module _ (offsets period level complete released : List ℕ) where
  -- one place more
  module _ (i deadline : ℕ) where
    pub rank_start : 0 ≡ rank_by offsets period level complete released i deadline 0
    unfolding rank_by
    rank_start = refl

    pub rank_more : (m : ℕ) {n b r : ℕ} → n ≡ rank_by offsets period level complete released i deadline m
        → b ≡ before_at offsets period level complete released i deadline m → r ≡ further n b
        → r ≡ rank_by offsets period level complete released i deadline (m + 1)
    unfolding rank_by
    rank_more m e g h = rw (add-one m, ← e, ← g) h

  abbrev from : ℕ → ℕ
  from i = get_or complete i 0

  -- one server job more of place i: it runs, or not
  module _ (old : List ℕ) (n p i : ℕ) (used : List ℕ) where
    abbrev ran_to : ℕ → List ℕ
    ran_to k = ran_by offsets period level complete released old n p i used (k - from i)

    pub run_start : used ≡ ran_to (from i)
    unfolding changed
    run_start = let e : from i - from i ≡ 0 = omega arith in rw e

    module _ (k : ℕ) (h : from i ≤ k) {r : ℕ} (ranked : r ≡ rank offsets period level complete released n i (k + 1)) {u : List ℕ} (so_far : u ≡ ran_to k) where
      pub run_yes : r < p → {s x : ℕ} → s ≡ slot_at i (k + 1) → x ≡ further (get_or old s 0) 1 → set u s x ≡ ran_to (k + 1)
      unfolding changed
      run_yes l e f =
          let yes : ltb (rank offsets period level complete released n i (k + 1)) p ≡ true = rw (← ranked) (lt-ltb r p l) in
          rw (next (from i) k h, number (from i) k h, yes, f, e, so_far)

      pub run_no : p ≤ r → u ≡ ran_to (k + 1)
      unfolding changed
      run_no l =
          let no : ltb (rank offsets period level complete released n i (k + 1)) p ≡ false = rw (← ranked) (le-ltb r p l) in
          rw (next (from i) k h, number (from i) k h, no) so_far

  -- the search for a rank, from the last on: number k + 1, `top`, has it or not; place m, below `top`, has a server job of the rank or not
  module _ (n i r : ℕ) where
    abbrev by : ℕ → Option ℕ
    by m = found_by offsets period level complete released n i r m

    pub found_end : (k : ℕ) → k ≤ from i → None ≡ by (k - from i)
    unfolding found_by
    found_end k h = let e : k - from i ≡ 0 = omega arith in rw e

    module _ (k top : ℕ) (e : k + 1 ≡ top) (h : from i ≤ k) {q : ℕ} (ranked : q ≡ rank offsets period level complete released n i (k + 1)) where
      count_is : top - from i ≡ suc (k - from i)
      count_is = omega arith

      pub found_yes : q ≡ r → Some (k + 1) ≡ by (top - from i)
      unfolding found_by
      found_yes s =
          let yes : eqb (rank offsets period level complete released n i (k + 1)) r ≡ true = rw (← ranked) (eq-eqb q r s) in
          rw (count_is, number (from i) k h, yes)

      pub found_no : (q ≡ r → ⊥) → by (k - from i) ≡ by (top - from i)
      unfolding found_by
      found_no s =
          let no : eqb (rank offsets period level complete released n i (k + 1)) r ≡ false = rw (← ranked) (ne_eqb q r s) in
          rw (count_is, number (from i) k h, no)

  module _ (n r : ℕ) where
    abbrev to : ℕ → Option Found
    to m = found_to offsets period level complete released n r m

    pub place_end : (top : ℕ) → top ≤ 0 → None ≡ to top
    unfolding found_to
    place_end top h = let e : top ≡ 0 = omega arith in rw e

    module _ (m top : ℕ) (e : m + 1 ≡ top) {o : Option ℕ} (is : o ≡ found_in offsets period level complete released n m r) where
      top_is : top ≡ suc m
      top_is = omega arith

      pub place_yes : (k : ℕ) → o ≡ Some k → ◌≡◌ {A = Option Found} (Some (record { place = m; number = k })) (to top)
      unfolding found_to
      place_yes k f = rw (top_is, ← is, f)

      pub place_no : o ≡ None → to m ≡ to top
      unfolding found_to
      place_no f = rw (top_is, ← is, f)

-- the ledger after the ticks of the first i places
abbrev pub ran_at : Plan → List ℕ → Ledger → ℕ → Ledger
ran_at plan offsets l i =
    record {
      released = l.released;
      complete = l.complete;
      linked = l.linked;
      finished = l.finished;
      worst = l.worst;
      used = run_to offsets plan.period plan.level l.complete l.released l.used (nodes_of plan) plan.processors i;
      link = l.link;
    }

module _ (plan : Plan) (offsets : List ℕ) (l : Ledger) where
  pub ran_start : l ≡ ran_at plan offsets l 0
  unfolding run_to
  ran_start = refl

  pub ran_more : (i : ℕ) {next : Ledger} {v : List ℕ} → next ≡ ran_at plan offsets l i
      → v ≡ run_server offsets plan.period plan.level l.complete l.released l.used (nodes_of plan) plan.processors i next.used
      → ◌≡◌ {A = Ledger}
      (record {
        released = next.released;
        complete = next.complete;
        linked = next.linked;
        finished = next.finished;
        worst = next.worst;
        used = v;
        link = next.link;
      })
      (ran_at plan offsets l (i + 1))
  unfolding run_to
  ran_more i e f = rw (add-one i, f, e)

  pub ran_all : (n i : ℕ) {next : Ledger} → n ≡ nodes_of plan → next ≡ ran_at plan offsets l i → i ≤ n → n ≤ i → next ≡ run plan offsets l
  unfolding run
  ran_all n i e f h g = let z : i ≡ nodes_of plan = omega arith in f ∙ ap (ran_at plan offsets l) z
