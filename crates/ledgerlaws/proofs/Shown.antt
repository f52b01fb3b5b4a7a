-- The plain engine's row is document 01's: of each rank below the number of processors the one ready server job that has it.
use mathlib.Core.Path.{◌≡◌, refl, sym, ap, ◌∙◌}
use mathlib.Core.Bool.{Bool, true, false, ◌&&◌}
use mathlib.Core.List.{List, [], ◌∷◌, ◌++◌, append-nil, map, map-append}
use mathlib.Core.Logic.{◌⊎◌, inl, inr}
use Prim.Native.Nat.{ℕ, zero, suc, ◌+◌, ◌-◌, ◌≤◌, ◌<◌, min}
use native.Mathlib.Nat.{not-suc-le-zero, zero-add}
use native.Mathlib.Numerals.{add-one}
use native.Mathlib.Omega.{arith}
use lib.Dec.{T, eqb, eqb→eq}
use lib.ListN.{length, get_or, set, take}
use lib.Seq.{take-suc-set}
use borrow.Author.Tests.{eqb-true, eqb-false}
use Rattle.std.specs.Prelude.{Option, Some, None}
use Rattle.std.proofs.lemmas.Option.{none-some}
use Rattle.schedule.specs.Limits as Limits
use Rattle.schedule.specs.Lists.{keep, joined}
use Rattle.schedule.specs.Servers.{Server, srv, Box, whole}
use Rattle.schedule.specs.ServerJobs as Rules
use Rattle.schedule.specs.ServerJobs.{ServerJob, jobs_from, released, ready, ready_jobs, used}
use Rattle.schedule.specs.Walk.{Running, running_at, row_at}
use Rattle.schedule.proofs.Tests.{by_lt, either_way, dec, and_l, and_r, and_i, eq→eqb}
use Rattle.theorems.proofs.Counts.{server_job}
use Rattle.theorems.proofs.Ready as Ready
use Rattle.theorems.proofs.Ready.{ready_is}
use Rattle.theorems.proofs.InTurn.{completed, no_budget}
use Rattle.theorems.proofs.Linking.{link_of}
use Rattle.window.specs.declared.Plan.{Plan}
use Rattle.window.specs.Entries.{nodes_of}
use Rattle.window.proofs.Relation.{last_instant}
use Rattle.window.proofs.Places.{nodes_are}
use Rattle.rows.proofs.Lists.{joined_last, joined_one, keep_joined, keep_keep, keep_neither, jobs_none, jobs_one}
use Rattle.writing.specs.declared.row.Row.{Row}
use Rattle.writing.specs.Row.{running_of, running_in}
use Rattle.ledger.specs.declared.Ledger.{Ledger}
use Rattle.ledger.specs.declared.Found.{Found}
use Rattle.ledger.specs.Entries.{link_at}
use Rattle.ledger.specs.Ranks.{ready_count, rank, found_by, found_in, found_to}
use Rattle.ledgerlaws.proofs.Relation.{Laid, Released}
use Rattle.ledgerlaws.proofs.Ranks.{ready_after, is_ready_lem, rank_is}
use Rattle.ledgerlaws.proofs.OneRank.{one_rank}
use Rattle.ledger.specs.Showing.{line_of, row_to, row_of}
use Rattle.ledger.proofs.RowLaws.{run_length, few_lines}

-- the search for rank r, by place and number
module _ (offsets period level complete released : List ℕ) (n r : ℕ) where
  abbrev number : ℕ → ℕ → ℕ
  number i m = get_or complete i 0 + suc m

  abbrev own : ℕ → ℕ → ℕ
  own i m = rank offsets period level complete released n i (number i m)

  abbrev by : ℕ → ℕ → Option ℕ
  by i m = found_by offsets period level complete released n i r m

  -- none of the first m ready server jobs of place i has the rank; or one has, and is found
  record NoneIn (i m : ℕ) : Type 0 where
    none : (j : ℕ) → j < m → own i j ≡ r → ⊥
    is : by i m ≡ None

  record SomeIn (i m : ℕ) : Type 0 where
    at : ℕ
    below : at < m
    has : own i at ≡ r
    is : by i m ≡ Some (number i at)

  here : (i m : ℕ) → eqb (own i m) r ≡ true → SomeIn i (suc m)
  unfolding found_by
  here i m e = record { at = m; below = omega arith; has = eqb-true (own i m) r e; is = rw e }

  none_more : (i m : ℕ) → eqb (own i m) r ≡ false → NoneIn i m → NoneIn i (suc m)
  unfolding found_by
  none_more i m e x =
      record {
        none = λ j h w. by_lt j m (λ g. x.none j g w) (λ g. let q : j ≡ m = omega arith in eqb-false (own i m) r e (ap (own i) (sym q) ∙ w));
        is = rw e x.is;
      }

  some_more : (i m : ℕ) → eqb (own i m) r ≡ false → SomeIn i m → SomeIn i (suc m)
  unfolding found_by
  some_more i m e x = record { at = x.at; below = omega (arith, x.below); has = x.has; is = rw e x.is }

  by_found : (i m : ℕ) → NoneIn i m ⊎ SomeIn i m
  unfolding found_by
  by_found i zero = inl (record { none = λ j h w. absurd (not-suc-le-zero h); is = refl })
  by_found i (suc m) =
      either_way (dec (eqb (own i m) r)) (λ e. inr (here i m e))
      (λ e. either_way (by_found i m) (λ x. inl (none_more i m e x)) (λ x. inr (some_more i m e x)))

  abbrev inside : ℕ → Option ℕ
  inside i = found_in offsets period level complete released n i r

  abbrev to : ℕ → Option Found
  to m = found_to offsets period level complete released n r m

  -- no server job of the first m places has the rank; or one has, and is found
  record NoPlace (m : ℕ) : Type 0 where
    none : (i : ℕ) → i < m → inside i ≡ None
    is : to m ≡ None

  record SomePlace (m : ℕ) : Type 0 where
    at : ℕ
    below : at < m
    own_turn : SomeIn at (ready_count offsets period level complete released at)
    is : to m ≡ Some (record { place = at; number = number at own_turn.at })

  place_here : (m : ℕ) → SomeIn m (ready_count offsets period level complete released m) → SomePlace (suc m)
  unfolding found_to
  place_here m h = record { at = m; below = omega arith; own_turn = h; is = rw h.is }

  no_place_more : (m : ℕ) → inside m ≡ None → NoPlace m → NoPlace (suc m)
  unfolding found_to
  no_place_more m h x =
      record {
        none = λ i l. by_lt i m (λ g. x.none i g) (λ g. let q : i ≡ m = omega arith in ap inside q ∙ h);
        is = rw h x.is;
      }

  some_place_more : (m : ℕ) → inside m ≡ None → SomePlace m → SomePlace (suc m)
  unfolding found_to
  some_place_more m h x = record { at = x.at; below = omega (arith, x.below); own_turn = x.own_turn; is = rw h x.is }

  to_found : (m : ℕ) → NoPlace m ⊎ SomePlace m
  unfolding found_to
  to_found zero = inl (record { none = λ i h. absurd (not-suc-le-zero h); is = refl })
  to_found (suc m) =
      either_way (by_found m (ready_count offsets period level complete released m))
      (λ h. either_way (to_found m) (λ x. inl (no_place_more m h.is x)) (λ x. inr (some_place_more m h.is x)))
      (λ h. inr (place_here m h))

module _ (X : Box) (plan : Plan) (offsets : List ℕ) (laid : Laid X plan offsets) (t : ℕ) (l : Ledger) (rel : Released X t l) (early : t ≤ last_instant) where
  abbrev S : List Server
  S = X.servers

  abbrev σ : List (List ℕ)
  σ = used S X.cap t

  abbrev c : ℕ → ℕ
  c i = completed S X.cap t i

  abbrev d : ℕ → ℕ
  d i = ready_count offsets plan.period plan.level l.complete l.released i

  abbrev rank_of : ServerJob → ℕ
  rank_of x = Rules.rank S σ t x

  abbrev all : List ServerJob
  all = joined (λ (i : ℕ). jobs_from i 1 (released (srv S i) t)) 0 (length S)

  J : ℕ → List ServerJob
  J r = keep (λ (x : ServerJob). eqb (rank_of x) r) (ready_jobs S σ t)

  module _ (r : ℕ) (low : r < (Limits.processors).to) where
    abbrev N : Type 0
    N = NoPlace offsets plan.period plan.level l.complete l.released (nodes_of plan) r (nodes_of plan)

    abbrev P : Type 0
    P = SomePlace offsets plan.period plan.level l.complete l.released (nodes_of plan) r (nodes_of plan)

    abbrev mine : ℕ → ℕ → ℕ
    mine i k = rank offsets plan.period plan.level l.complete l.released (nodes_of plan) i k

    -- a ready server job is one of those that the search goes through
    turn_is : (i : ℕ) → i < length S → (k : ℕ) → c i < k → get_or l.complete i 0 + suc (k - c i - 1) ≡ k
    turn_is i h k a = let e = (rel.row i h).complete in ap (λ (q : ℕ). q + suc (k - c i - 1)) e ∙ omega arith

    -- none is found, and none has the rank
    none_of_rank : N → J r ≡ []
    unfolding J ready_jobs
    none_of_rank n =
        keep_neither (λ (y : ServerJob). eqb (rank_of y) r) (ready S σ t)
        (λ y w z.
        let i = y.server in
        let k = y.number in
        let h = in_list i k w in
        let (a, b) = ready_after X plan offsets laid t l rel early i h k w in
        let m : ℕ = k - c i - 1 in
        let same : mine i k ≡ r = omega (arith, rank_is X plan offsets laid t l rel early i k h (omega arith), eqb→eq (rank_of y) r z) in
        let e = turn_is i h k a in
        either_way (by_found offsets plan.period plan.level l.complete l.released (nodes_of plan) r i (d i))
        (λ q. q.none m (omega arith) (ap (mine i) e ∙ same))
        (λ q. absurd (none-some _ (sym (n.none i (omega (arith, nodes_are X plan laid.fits))) ∙ q.is))))
        all
      where
        in_list : (i k : ℕ) → T (ready S σ t (server_job i k)) → i < length S
        in_list i k w = by_lt i (length S) (λ h. h) (λ h. absurd (let p = (ready_is S σ t i k w).pends.left in let e = no_budget S i h in let z : ⊥ = omega arith in z))

    -- the one that is found has the rank, and no other
    module _ (p : P) where
      abbrev i : ℕ
      i = p.at

      abbrev k : ℕ
      k = get_or l.complete i 0 + suc p.own_turn.at

      -- the server job that is found
      abbrev x : Found
      x = record { place = i; number = k }

      inside_S : i < length S
      inside_S = omega (arith, p.below, nodes_are X plan laid.fits)

      k_is : k ≡ c i + suc p.own_turn.at
      k_is = ap (λ (q : ℕ). q + suc p.own_turn.at) (rel.row i inside_S).complete

      is_ready_k : T (ready S σ t (server_job i k))
      is_ready_k = is_ready_lem X plan offsets laid t l rel early i inside_S k (omega (arith, k_is)) (omega (arith, k_is, p.own_turn.below))

      ranked : rank_of (server_job i k) ≡ r
      ranked =
          let e : mine i k ≡ r = p.own_turn.has in
          omega (arith, rank_is X plan offsets laid t l rel early i k inside_S (omega (arith, k_is)), e)

      one_of_rank : J r ≡ server_job i k ∷ []
      unfolding J ready_jobs
      one_of_rank =
          keep_keep of_rank_lem (ready S σ t) all
          ∙ keep_joined both jobs 0 (length S)
          ∙ joined_one (λ (i : ℕ). keep both (jobs i)) i 0 (length S) (omega arith) (omega (arith, inside_S))
          (λ j z. jobs_none both j 1 (released (srv S j) t) (λ q u s. z (same j q s).0))
          ∙ jobs_one both i k 1 (released (srv S i) t) pends.from (omega (arith, pends.to)) passes (λ q s. (same i q s).1)
        where
          jobs : ℕ → List ServerJob
          jobs i = jobs_from i 1 (released (srv S i) t)

          of_rank_lem : ServerJob → Bool
          of_rank_lem y = eqb (rank_of y) r

          both : ServerJob → Bool
          both y = ready S σ t y && eqb (rank_of y) r

          pends : Ready.Pending S σ t i k
          pends = (ready_is S σ t i k is_ready_k).pends

          passes : T (both (server_job i k))
          passes = and_i (ready S σ t (server_job i k)) (eqb (rank_of (server_job i k)) r) is_ready_k (eq→eqb (rank_of (server_job i k)) r ranked)

          in_list : (j q : ℕ) → T (ready S σ t (server_job j q)) → j < length S
          in_list j q w = by_lt j (length S) (λ h. h) (λ h. absurd (let u = (ready_is S σ t j q w).pends.left in let e = no_budget S j h in let z : ⊥ = omega arith in z))

          same : (j q : ℕ) → T (both (server_job j q)) → (j ≡ i) × (q ≡ k)
          same j q s =
              let y = server_job j q in
              let w = and_l (ready S σ t y) (eqb (rank_of y) r) s in
              one_rank S (λ i h. (laid.fits.at i h).period_some) σ t j q i k (in_list j q w) inside_S w is_ready_k
              (eqb→eq (rank_of y) r (and_r (ready S σ t y) (eqb (rank_of y) r) s) ∙ sym ranked)

      line : running_of (line_of plan offsets l x) ≡ running_at X (whole S) t (server_job i k)
      unfolding running_at
      line =
          let f = laid.fits.at i inside_S in
          let row = rel.row i inside_S in
          let link : link_at l i k ≡ link_of S X.cap (whole S) (suc t) i k =
          row.link k (omega (arith, k_is)) (ready_is S σ t i k is_ready_k).pends.to in
          rw (f.graph, f.node, link)

  -- the lines of the first n ranks
  abbrev to_row : ℕ → Row
  to_row n = row_to plan offsets l n

  abbrev show : ServerJob → Running
  show y = running_at X (whole S) t y

  lines : (n : ℕ) → n ≤ (Limits.processors).to → running_in (to_row n) ≡ map show (joined J 0 n)
  unfolding row_to
  lines zero h = refl
  lines (suc n) h =
      either_way (to_found offsets plan.period plan.level l.complete l.released (nodes_of plan) n (nodes_of plan))
      (λ q.
      let none = none_of_rank n h q in
      rw q.is (lines n (omega arith) ∙ sym (later ∙ rw none (append-nil (map show (joined J 0 n))))))
      (λ q.
      let row = to_row n in
      let new = line_of plan offsets l (x n h q) in
      let one = one_of_rank n h q in
      let taken : map running_of (take (row.count + 1) (set row.run row.count new)) ≡ running_in row ++ (running_of new ∷ []) =
      ap (λ (m : ℕ). map running_of (take m (set row.run row.count new))) (add-one row.count)
      ∙ ap (map running_of) (take-suc-set row.run row.count new (omega (arith, run_length plan offsets l n, few_lines plan offsets l n)))
      ∙ map-append running_of (take row.count row.run) (new ∷ []) in
      rw q.is
      (taken
      ∙ ap (λ (m : List Running). m ++ (running_of new ∷ [])) (lines n (omega arith))
      ∙ ap (λ (y : Running). map show (joined J 0 n) ++ (y ∷ [])) (line n h q)
      ∙ sym (later ∙ rw one)))
    where
      later : map show (joined J 0 (suc n)) ≡ map show (joined J 0 n) ++ map show (J n)
      later =
          let e : joined J 0 (suc n) ≡ joined J 0 n ++ J n = joined_last J 0 n ∙ rw (zero-add n) in
          ap (map show) e ∙ map-append show (joined J 0 n) (J n)

  pub row_shown : running_in (row_of plan offsets l) ≡ row_at X (whole S) t
  unfolding row_of row_at J
  row_shown =
      let all_of : min plan.processors (Limits.processors).to ≡ X.cap t = omega (arith, laid.fits.processors_most, laid.fits.cap t) in
      lines (min plan.processors (Limits.processors).to) (omega arith) ∙ ap (λ (n : ℕ). map show (joined J 0 n)) all_of
