-- The ticks of a span, used at once: the budget left of each slot that runs falls by them, and no other. So the rows have the ticks used before
-- the span's end, with what is complete then still in the windows.
use mathlib.Core.Path.{◌≡◌, refl, sym, ap, ◌∙◌}
use mathlib.Core.Bool.{false}
use mathlib.Core.List.{List}
use Prim.Native.Nat.{ℕ, zero, suc, ◌+◌, ◌*◌, ◌≤◌, ◌<◌}
use native.Mathlib.Nat.{le_refl, not-suc-le-zero, mul-zero, mul-one}
use native.Mathlib.Omega.{arith}
use lib.Dec.{T}
use lib.ListN.{length, get_or, length-set}
use lib.Seq.{get_or-set_same, get_or-set_other}
use Rattle.schedule.specs.Lists.{one?}
use Rattle.schedule.specs.Servers.{Server, srv, Box, whole}
use Rattle.schedule.specs.ServerJobs.{released}
use Rattle.schedule.specs.Walk.{figure}
use Rattle.schedule.proofs.Tests.{by_lt, either_way, dec, true_T}
use Rattle.theorems.proofs.InTurn.{budget_of, used_by, running, completed}
use Rattle.theorems.proofs.Linking.{link_of}
use Rattle.theorems.proofs.QuietSpans.{grown}
use Rattle.table.specs.declared.State.{State}
use Rattle.window.specs.declared.Plan.{Plan}
use Rattle.window.specs.Entries.{window, count_at, left_at}
use Rattle.window.specs.Choosing.{Picks, chosen}
use Rattle.window.specs.Spending.{place_at, less_by, spent}
use Rattle.window.specs.Working.{with_left}
use Rattle.window.proofs.Relation.{last_instant, Fits, Row, Sized, Released}
use Rattle.window.proofs.Keys.{slot_job}
use Rattle.window.proofs.Ranks.{rank_at}
use Rattle.window.proofs.Chosen.{ChosenAt, chosen_is, entry_runs, runs_at}
use Rattle.window.proofs.Spans.{entry_place, Span}

module _ (left at : List ℕ) (d : ℕ) where
  abbrev after : ℕ → List ℕ
  after m = spent left at d m

  spent_length : (m : ℕ) → length (after m) ≡ length left
  unfolding spent
  spent_length zero = refl
  spent_length (suc m) = length-set (after m) (place_at at m) (less_by (get_or (after m) (place_at at m) 0) d) ∙ spent_length m

  spent_other : (m j : ℕ) → ((r : ℕ) → r < m → j ≡ place_at at r → ⊥) → get_or (after m) j 0 ≡ get_or left j 0
  unfolding spent
  spent_other zero j h = refl
  spent_other (suc m) j h =
      get_or-set_other (after m) (place_at at m) j (less_by (get_or (after m) (place_at at m) 0) d) 0 (h m (omega arith))
      ∙ spent_other m j (λ r l. h r (omega arith))

  -- where no two of the first m stand at one place
  spent_in : (m r : ℕ) → r < m → ((a b : ℕ) → a < b → b < m → place_at at a ≡ place_at at b → ⊥) → ((a : ℕ) → a < m → place_at at a < length left)
      → get_or (after m) (place_at at r) 0 ≡ less_by (get_or left (place_at at r) 0) d
  unfolding spent
  spent_in zero r h apart inside = absurd (not-suc-le-zero h)
  spent_in (suc m) r h apart inside =
      let v = less_by (get_or (after m) (place_at at m) 0) d in
      by_lt r m
      (λ l. get_or-set_other (after m) (place_at at m) (place_at at r) v 0 (apart r m l (omega arith))
      ∙ spent_in m r l (λ a b u w. apart a b u (omega arith)) (λ a u. inside a (omega arith)))
      (λ l.
      let e : r ≡ m = omega arith in
      rw e
      (get_or-set_same (after m) (place_at at m) v 0 (omega (arith, spent_length m, inside m (omega arith)))
      ∙ ap (λ x. less_by x d) (spent_other m (place_at at m) (λ a u z. apart a m u (omega arith) (sym z)))))

-- the state whose budgets left are d less where a server job ran
abbrev pub ran_on : Plan → ℕ → State → State
ran_on plan d st = with_left st (spent st.left (chosen plan st).at d (chosen plan st).count)

module _ (X : Box) (plan : Plan) (t : ℕ) (st : State) (fits : Fits X plan) (rel : Released X t st) (near : t ≤ last_instant) where
  abbrev S : List Server
  S = X.servers

  abbrev c : ℕ → ℕ
  c i = completed S X.cap t i

  abbrev chosen_here : Picks
  chosen_here = chosen plan st

  -- an entry's place in `left` says its server and its slot
  record At (r i e : ℕ) (a : ChosenAt X plan t st r) : Type 0 where
    place : a.place ≡ i
    slot : a.slot ≡ e

  at_place : (r i e : ℕ) (a : ChosenAt X plan t st r) → e < window → i * window + e ≡ place_at chosen_here.at r → At r i e a
  at_place r i e a l z =
      let p = entry_place X plan t st fits rel r a in
      let w : a.slot < window = omega (arith, a.within, (rel.row a.place a.inside).room) in
      record { place = omega arith; slot = omega arith }

  one_place : (r r' : ℕ) (a : ChosenAt X plan t st r) (b : ChosenAt X plan t st r') → place_at chosen_here.at r ≡ place_at chosen_here.at r' → r ≡ r'
  one_place r r' a b z =
      let p = entry_place X plan t st fits rel r a in
      let w : a.slot < window = omega (arith, a.within, (rel.row a.place a.inside).room) in
      let q = at_place r' a.place a.slot b w (sym p ∙ z) in
      let same : rank_at X t (slot_job X t a.place a.slot) ≡ r' = rw (q.place, q.slot) at b.ranked in
      sym a.ranked ∙ same

  places_apart : (r r' : ℕ) → r < r' → r' < chosen_here.count → place_at chosen_here.at r ≡ place_at chosen_here.at r' → ⊥
  places_apart r r' l h z =
      let all = chosen_is X plan t st fits rel near in
      let e = one_place r r' (all.entry r (omega arith)) (all.entry r' h) z in
      omega arith

  place_inside : (r : ℕ) → r < chosen_here.count → place_at chosen_here.at r < length st.left
  place_inside r h = omega (arith, rel.sized.left)

  module _ (boundary asked d : ℕ) (span : Span X plan t boundary asked st d) where
    abbrev ran : State
    ran = ran_on plan d st

    pub ran_sized : Sized ran
    ran_sized =
        record {
          servers = rel.sized.servers;
          jobs = rel.sized.jobs;
          left = spent_length st.left chosen_here.at d chosen_here.count ∙ rel.sized.left;
          first = rel.sized.first;
          count = rel.sized.count;
          unfinished = rel.sized.unfinished;
          unlinked = rel.sized.unlinked;
          worst = rel.sized.worst;
          next = rel.sized.next;
        }

    -- a slot that runs
    fell : (i e : ℕ) → e < count_at st i → T (running S X.cap t i (c i + 1 + e)) → (left_at ran i e ≡ less_by (left_at st i e) d) × (d ≤ left_at st i e)
    fell i e l r =
        let a = runs_at X plan t st fits rel near i (c i + 1 + e) r in
        let b = a.entry in
        let slot : b.slot ≡ e = omega (arith, a.number) in
        let p : place_at chosen_here.at a.at ≡ i * window + e = entry_place X plan t st fits rel a.at b ∙ rw (a.place, slot) in
        let enough : d ≤ left_at st i e = rw (a.place, slot) at (span.left a.at b a.below_count) in
        let less = spent_in st.left chosen_here.at d chosen_here.count a.at a.below_count places_apart place_inside in
        (rw p at less, enough)

    -- and one that does not
    stayed : (i e : ℕ) → i < length S → e < count_at st i → running S X.cap t i (c i + 1 + e) ≡ false → left_at ran i e ≡ left_at st i e
    stayed i e h l idle =
        spent_other st.left chosen_here.at d chosen_here.count (i * window + e)
        (λ r g z.
        let all = chosen_is X plan t st fits rel near in
        let a = all.entry r g in
        let q = at_place r i e a (omega (arith, (rel.row i h).room)) z in
        let runs : T (running S X.cap t i (c i + 1 + e)) = rw (q.place, q.slot) at (entry_runs X plan t st fits rel near r g a) in
        rw idle at runs)

    ran_left : (i e : ℕ) → i < length S → e < count_at st i → left_at ran i e + used_by S X.cap (t + d) i (c i + 1 + e) ≡ budget_of S i
    ran_left i e h l =
        let k = c i + 1 + e in
        let grew = grown S X.cap t d span.quiet d (le_refl d) i k in
        let old = (rel.row i h).left e l in
        either_way (dec (running S X.cap t i k))
        (λ y.
        let m : d * one? (running S X.cap t i k) ≡ d = rw (y, mul-one d) in
        let (less, enough) = fell i e l (true_T (running S X.cap t i k) y) in
        omega arith)
        (λ y.
        let m : d * one? (running S X.cap t i k) ≡ 0 = rw (y, mul-zero d) in
        omega (arith, stayed i e h l y))

    -- rule 6: the rows after the ticks of the span
    pub ran_row : (i : ℕ) → i < length S
        → Row (srv S i) i (used_by S X.cap (t + d) i) (link_of S X.cap (whole S) (suc t) i) (released (srv S i) t) (c i)
        (figure X (whole S) i t) ran
    ran_row i h =
        let r = rel.row i h in
        record {
          count = r.count;
          room = r.room;
          left = λ e l. ran_left i e h l;
          slots = r.slots;
          first = r.first;
          idle = r.idle;
          unfinished = r.unfinished;
          unlinked = r.unlinked;
          worst = r.worst;
          next = r.next;
        }
