-- The tick keeps the relation: each ready server job whose rank is below the number of processors has used a tick more, and no other.
use mathlib.Core.Path.{◌≡◌, refl, sym, ap, subst, ◌∙◌}
use mathlib.Core.Bool.{Bool, false}
use mathlib.Core.List.{List}
use Prim.Native.Nat.{ℕ, zero, suc, ◌+◌, ◌-◌, ◌≤◌, ◌<◌, zero-le}
use native.Mathlib.Nat.{not-suc-le-zero}
use native.Mathlib.Omega.{arith}
use lib.Dec.{T, ltb, ltb→lt, lt→ltb}
use lib.ListN.{length, get_or}
use Rattle.schedule.specs.Servers.{Server, srv, Box, whole}
use Rattle.schedule.specs.ServerJobs as Rules
use Rattle.schedule.specs.ServerJobs.{released, ready, runs, used}
use Rattle.schedule.specs.Walk.{figure}
use Rattle.schedule.proofs.Tests.{and_l, and_r, and_i, by_lt, either_way, dec, true_T, bool_ext, one_of, none_of, one_le_one}
use Rattle.schedule.proofs.Cells.{nth_nil}
use Rattle.theorems.proofs.Counts.{server_job}
use Rattle.theorems.proofs.InTurn.{used_by, completed, running, used_step}
use Rattle.theorems.proofs.Linking.{link_of}
use Rattle.window.specs.declared.Plan.{Plan}
use Rattle.window.specs.Entries.{places, last_key, further, nodes_of}
use Rattle.window.proofs.Relation.{last_instant}
use Rattle.window.proofs.Places.{nodes_are}
use Rattle.ledger.specs.declared.Ledger.{Ledger}
use Rattle.ledger.specs.Entries.{room, slot_at}
use Rattle.ledger.specs.Ranks.{ready_count, rank, run_server, run_to, run}
use Rattle.ledgerlaws.proofs.Changed.{changed_length, changed_other, changed_at, in_slots, slot_place, slot_number}
use Rattle.ledgerlaws.proofs.Relation.{Laid, Row, Released, Ran}
use Rattle.ledgerlaws.proofs.Ranks.{ready_count_lem, ready_after, is_ready_lem, rank_is}

-- a server job has used a tick of each instant at most
used_few : (S : List Server) (cap : ℕ → ℕ) (t i k : ℕ) → used_by S cap t i k ≤ t
unfolding used
used_few S cap zero i k = rw (nth_nil k) zero-le
used_few S cap (suc t) i k = omega (arith, used_step S cap t i k, used_few S cap t i k, one_le_one (running S cap t i k))

-- of the pending server jobs, c + 1 to N, each has a slot of its own
turn_of : (c d N k j n i : ℕ) → n ≡ c + suc j → d ≤ N - c → c < k → k ≤ N → c ≤ N → N ≤ c + room → slot_at i k ≡ slot_at i n → j < d → j ≡ k - c - 1
turn_of c d N k j n i e most a b order few same g = last (slot_number i c k n same a (omega arith) (omega arith) (below e))
  where
    below : n ≡ c + suc j → n ≤ c + room
    below e = omega arith

    last : k ≡ n → j ≡ k - c - 1
    last z = let w : k ≡ c + suc j = z ∙ e in turn w
      where
        turn : k ≡ c + suc j → j ≡ k - c - 1
        turn w = omega arith

module _ (X : Box) (plan : Plan) (offsets : List ℕ) (laid : Laid X plan offsets) (t : ℕ) (l : Ledger) (rel : Released X t l) (early : t ≤ last_instant) where
  abbrev S : List Server
  S = X.servers

  abbrev σ : List (List ℕ)
  σ = used S X.cap t

  abbrev N : ℕ → ℕ
  N i = released (srv S i) t

  abbrev c : ℕ → ℕ
  c i = completed S X.cap t i

  abbrev n : ℕ
  n = nodes_of plan

  abbrev p : ℕ
  p = plan.processors

  abbrev d : ℕ → ℕ
  d i = ready_count offsets plan.period plan.level l.complete l.released i

  -- server job m, from 0, after the complete ones as the ledger counts them
  abbrev number : ℕ → ℕ → ℕ
  number i m = get_or l.complete i 0 + suc m

  abbrev chosen : ℕ → ℕ → Bool
  chosen i m = ltb (rank offsets plan.period plan.level l.complete l.released n i (number i m)) p

  abbrev at : ℕ → ℕ → ℕ
  at i m = slot_at i (number i m)

  abbrev more : ℕ → ℕ → ℕ
  more i m = further (get_or l.used (slot_at i (number i m)) 0) 1

  abbrev server : ℕ → List ℕ → List ℕ
  server i u = run_server offsets plan.period plan.level l.complete l.released l.used n p i u

  abbrev to : ℕ → List ℕ
  to m = run_to offsets plan.period plan.level l.complete l.released l.used n p m

  to_length : (m : ℕ) → length (to m) ≡ length l.used
  unfolding run_to
  to_length zero = refl
  to_length (suc m) = changed_length (chosen m) (at m) (more m) (to m) (d m) ∙ to_length m

  -- another server's slots stay
  server_other : (j i k : ℕ) (u : List ℕ) → (i ≡ j → ⊥) → get_or (server j u) (slot_at i k) 0 ≡ get_or u (slot_at i k) 0
  server_other j i k u z = changed_other (chosen j) (at j) (more j) u (d j) (slot_at i k) (λ m g w e. z (slot_place i j k (number j m) e))

  to_before : (m i k : ℕ) → m ≤ i → get_or (to m) (slot_at i k) 0 ≡ get_or l.used (slot_at i k) 0
  unfolding run_to
  to_before zero i k h = refl
  to_before (suc m) i k h = server_other m i k (to m) (λ e. let x : ⊥ = omega arith in x) ∙ to_before m i k (omega arith)

  to_after : (m i k : ℕ) → i < m → get_or (to m) (slot_at i k) 0 ≡ get_or (server i (to i)) (slot_at i k) 0
  unfolding run_to
  to_after zero i k h = absurd (not-suc-le-zero h)
  to_after (suc m) i k h =
      by_lt i m (λ g. server_other m i k (to m) (λ e. let x : ⊥ = omega arith in x) ∙ to_after m i k g)
      (λ g. let e : m ≡ i = omega arith in rw e)

  module _ (i : ℕ) (h : i < length S) where
    abbrev r : Row i (used_by S X.cap t i) (link_of S X.cap (whole S) (suc t) i) (N i) (c i) (figure X (whole S) i t) l
    r = rel.row i h

    inside : i < places
    inside = omega (arith, laid.fits.small)

    most : d i ≤ N i - c i
    most = omega (arith, ready_count_lem X plan offsets laid t l rel early i h)

    number_of_lem : (j : ℕ) → number i j ≡ c i + suc j
    number_of_lem j = ap (λ (q : ℕ). q + suc j) r.complete

    -- the engine's test of server job c + 1 + m is the rules'
    chosen_is : (k : ℕ) → 1 ≤ k → ltb (rank offsets plan.period plan.level l.complete l.released n i k) p ≡ ltb (Rules.rank S σ t (server_job i k)) (X.cap t)
    chosen_is k a =
        let e = rank_is X plan offsets laid t l rel early i k h a in
        let q = laid.fits.cap t in
        let few = laid.fits.processors_most in
        let own : ℕ = rank offsets plan.period plan.level l.complete l.released n i k in
        let rules : ℕ = Rules.rank S σ t (server_job i k) in
        bool_ext (ltb own p) (ltb rules (X.cap t))
        (λ w. lt→ltb rules (X.cap t) (omega (arith, ltb→lt own p w, e, q, few)))
        (λ w. lt→ltb own p (omega (arith, ltb→lt rules (X.cap t) w, e, q, few)))

    module _ (k : ℕ) (a : c i < k) (b : k ≤ N i) where
      abbrev U : ℕ
      U = used_by S X.cap t i k

      -- which turn of the server it is
      abbrev m : ℕ
      m = k - c i - 1

      number_is : number i m ≡ k
      number_is = number_of_lem m ∙ omega arith

      before_turn : get_or (to i) (slot_at i k) 0 ≡ U
      before_turn = to_before i i k (omega arith) ∙ r.used k a b

      -- no other turn writes its slot
      own_turn : (j : ℕ) → j < d i → slot_at i k ≡ at i j → j ≡ m
      own_turn j g e = turn_of (c i) (d i) (N i) k j (number i j) i (number_of_lem j) most a b r.order r.room e g

      not_running : (T (ready S σ t (server_job i k)) → T (ltb (Rules.rank S σ t (server_job i k)) (X.cap t)) → ⊥) → used_by S X.cap (suc t) i k ≡ U
      unfolding runs
      not_running f =
          let A = ready S σ t (server_job i k) in
          let B = ltb (Rules.rank S σ t (server_job i k)) (X.cap t) in
          omega (arith, used_step S X.cap t i k, none_of (running S X.cap t i k) (λ w. f (and_l A B w) (and_r A B w)))

      is_running : T (ready S σ t (server_job i k)) → T (ltb (Rules.rank S σ t (server_job i k)) (X.cap t)) → used_by S X.cap (suc t) i k ≡ U + 1
      unfolding runs
      is_running f g =
          let A = ready S σ t (server_job i k) in
          let B = ltb (Rules.rank S σ t (server_job i k)) (X.cap t) in
          omega (arith, used_step S X.cap t i k, one_of (running S X.cap t i k) (and_i A B f g))

      chosen_same : chosen i m ≡ ltb (Rules.rank S σ t (server_job i k)) (X.cap t)
      chosen_same =
          ap (λ (q : ℕ). ltb (rank offsets plan.period plan.level l.complete l.released n i q) p) number_is ∙ chosen_is k (omega arith)

      -- a turn that does not write its slot
      stays : (T (chosen i m) → m < d i → ⊥) → get_or (server i (to i)) (slot_at i k) 0 ≡ U
      stays f =
          changed_other (chosen i) (at i) (more i) (to i) (d i) (slot_at i k)
          (λ j g w e.
          let z = own_turn j g e in
          f (rw z at w) (rw z at g))
          ∙ before_turn

      written : T (chosen i m) → m < d i → get_or (server i (to i)) (slot_at i k) 0 ≡ U + 1
      written w g =
          let same : slot_at i k ≡ at i m = ap (slot_at i) (sym number_is) in
          let small : U < last_key = omega (arith, used_few S X.cap t i k) in
          let old : get_or l.used (slot_at i (number i m)) 0 ≡ U = ap (λ (q : ℕ). get_or l.used (slot_at i q) 0) number_is ∙ r.used k a b in
          let new : get_or (server i (to i)) (at i m) 0 ≡ more i m =
          changed_at (chosen i) (at i) (more i) (to i) (d i) m g w (λ j q v e. own_turn j q (same ∙ e))
          (omega (arith, in_slots i (number i m) inside, to_length i, rel.sized.used)) in
          ap (λ (x : ℕ). get_or (server i (to i)) x 0) same ∙ new ∙ omega (arith, old, small)

      ran : get_or (server i (to i)) (slot_at i k) 0 ≡ used_by S X.cap (suc t) i k
      ran =
          by_lt m (d i)
          (λ g.
          let w : T (ready S σ t (server_job i k)) = is_ready_lem X plan offsets laid t l rel early i h k a (omega arith) in
          either_way (dec (chosen i m))
          (λ e.
          let v = true_T (chosen i m) e in
          written v g ∙ sym (is_running w (rw chosen_same at v)))
          (λ e.
          stays (λ v q. let z : T false = rw e at v in absurd z)
          ∙ sym (not_running (λ u v. let z : T false = rw (sym chosen_same ∙ e) at v in absurd z))))
          (λ g.
          stays (λ v q. let x : ⊥ = omega arith in x)
          ∙ sym (not_running (λ u v. let z = (ready_after X plan offsets laid t l rel early i h k u).1 in let x : ⊥ = omega arith in x)))

    used_after : (k : ℕ) → c i < k → k ≤ N i → get_or (to (length S)) (slot_at i k) 0 ≡ used_by S X.cap (suc t) i k
    used_after k a b = to_after (length S) i k h ∙ ran k a b

  abbrev after : ℕ → Ledger
  after m =
      record {
        released = l.released;
        complete = l.complete;
        linked = l.linked;
        finished = l.finished;
        worst = l.worst;
        used = to m;
        link = l.link;
      }

  ran_all : Ran X t (after (length S))
  ran_all =
      record {
        sized =
            record {
              released = rel.sized.released;
              complete = rel.sized.complete;
              linked = rel.sized.linked;
              finished = rel.sized.finished;
              worst = rel.sized.worst;
              used = to_length (length S) ∙ rel.sized.used;
              link = rel.sized.link;
            };
        row = λ i h.
            let r = rel.row i h in
            record {
              released = r.released;
              complete = r.complete;
              linked = r.linked;
              finished = r.finished;
              worst = r.worst;
              order = r.order;
              room = r.room;
              used = used_after i h;
              link = r.link;
            };
      }

  pub run_keeps : Ran X t (run plan offsets l)
  unfolding run
  run_keeps = subst (λ (m : ℕ). Ran X t (after m)) (sym (nodes_are X plan laid.fits)) ran_all
