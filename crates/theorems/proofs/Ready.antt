-- Rules 4 and 5 as facts: what it says that a server job stands before another, is pending, is ready, runs; and that of one server, with
-- ticks that fall as the number grows, an earlier server job runs wherever a later one with as many ticks does.
use mathlib.Core.Path.{◌≡◌, subst}
use mathlib.Core.Bool.{◌&&◌}
use mathlib.Core.List.{List}
use mathlib.Core.Logic.{◌⊎◌, inl, inr}
use Prim.Native.Nat.{ℕ, ◌-◌, ◌≤◌, ◌<◌}
use native.Mathlib.Nat.{le_refl}
use native.Mathlib.Omega.{arith}
use lib.Dec.{T, leb, ltb, eqb, leb→le, ltb→lt, eqb→eq, le→leb, lt→ltb}
use lib.ListN.{length, get_or-eq_default}
use Rattle.schedule.specs.Lists.{cell}
use Rattle.schedule.specs.Servers.{Server, no_server, srv}
use Rattle.schedule.specs.ServerJobs.{ServerJob, released, priority_of, before, complete, pending, ready, ready_jobs, rank, runs}
use Rattle.schedule.proofs.Tests.{and_l, and_r, and_i, or_l, or_r, or_e, either_way, by_lt, eq→eqb}
use Rattle.theorems.proofs.Counts.{server_job, count_mono}
use Rattle.theorems.proofs.Releases.{priority_grows}

module _ (S : List Server) where
  abbrev pub priority : ServerJob → ℕ
  priority x = priority_of (srv S x.server) x.number

  -- x stands before y: its priority is lower, or equal and its server's place lower
  pub before_is : (x y : ServerJob) → T (before S x y) → (priority x < priority y) ⊎ ((priority x ≡ priority y) × (x.server < y.server))
  unfolding before
  before_is x y b =
      let p = priority x in
      let q = priority y in
      or_e (ltb p q) (eqb p q && ltb x.server y.server) (ltb→lt p q)
      (λ c. (
        eqb→eq p q (and_l (eqb p q) (ltb x.server y.server) c),
        ltb→lt x.server y.server (and_r (eqb p q) (ltb x.server y.server) c),
      ))
      b

  pub is_before_lt : (x y : ServerJob) → priority x < priority y → T (before S x y)
  unfolding before
  is_before_lt x y h = search (or_l, lt→ltb)

  pub is_before_eq : (x y : ServerJob) → priority x ≡ priority y → x.server < y.server → T (before S x y)
  unfolding before
  is_before_eq x y e h = search (or_r, and_i, eq→eqb, lt→ltb)

  before_later : (x y z : ServerJob) → T (before S x y) → priority y ≤ priority z → y.server ≤ z.server → T (before S x z)
  before_later x y z b h g =
      either_way (before_is x y b) (λ a. is_before_lt x z (omega arith))
      (λ a. by_lt (priority x) (priority z) (λ l. is_before_lt x z l) (λ l. is_before_eq x z (omega arith) (omega arith)))

  -- at instant t, where σ has the ticks used before it
  module _ (σ : List (List ℕ)) (t : ℕ) where
    pub record Pending (i k : ℕ) : Type 0 where
      pub from : 1 ≤ k
      pub to : k ≤ released (srv S i) t
      pub left : cell σ i k < (srv S i).budget

    pub pending_is : (i k : ℕ) → T (pending S σ t i k) → Pending i k
    unfolding pending
    pending_is i k p =
        record {
          from = leb→le 1 k (search (and_l));
          to = leb→le k (released (srv S i) t) (search (and_l, and_r));
          left = ltb→lt (cell σ i k) (srv S i).budget (search (and_l, and_r));
        }

    pub is_pending : (i k : ℕ) → Pending i k → T (pending S σ t i k)
    unfolding pending
    is_pending i k p = search (and_i, le→leb)

    -- outside the list there is no budget
    not_pending_out : (i k : ℕ) → length S ≤ i → Pending i k → ⊥
    not_pending_out i k h p =
        let e : srv S i ≡ no_server = get_or-eq_default S no_server h in
        let l : cell σ i k < 0 = subst (λ (s : Server). cell σ i k < s.budget) e p.left in
        omega arith

    -- the server job `level` places before k is complete, or does not exist
    abbrev pub Free : ℕ → ℕ → Type 0
    Free i k = (k ≤ (srv S i).level) ⊎ ((srv S i).budget ≤ cell σ i (k - (srv S i).level))

    pub record Ready (i k : ℕ) : Type 0 where
      pub pends : Pending i k
      pub free : Free i k

    pub ready_is : (i k : ℕ) → T (ready S σ t (server_job i k)) → Ready i k
    unfolding ready complete
    ready_is i k r =
        record {
          pends = pending_is i k (search (and_l));
          free =
              or_e (leb k (srv S i).level) (complete S σ t i (k - (srv S i).level)) (leb→le k (srv S i).level)
              (leb→le (srv S i).budget (cell σ i (k - (srv S i).level))) (search (and_r));
        }

    pub is_ready_lem : (i k : ℕ) → Pending i k → Free i k → T (ready S σ t (server_job i k))
    unfolding ready complete
    is_ready_lem i k p (inl a) = search (and_i, or_l, le→leb, is_pending)
    is_ready_lem i k p (inr a) = search (and_i, or_r, le→leb, is_pending)

    pub runs_ready : (p i k : ℕ) → T (runs S σ t p (server_job i k)) → Ready i k
    unfolding runs
    runs_ready p i k r = ready_is i k (search (and_l))

    pub not_running_out : (p i k : ℕ) → length S ≤ i → T (runs S σ t p (server_job i k)) → ⊥
    not_running_out p i k h r = not_pending_out i k h (runs_ready p i k r).pends

    rank_grows : (i j k : ℕ) → j ≤ k → rank S σ t (server_job i j) ≤ rank S σ t (server_job i k)
    unfolding rank before
    rank_grows i j k h = count_mono _ _ earlier (ready_jobs S σ t)
      where
        earlier : (y : ServerJob) → T (before S y (server_job i j)) → T (before S y (server_job i k))
        earlier y b = before_later y (server_job i j) (server_job i k) b (priority_grows (srv S i) j k h) (le_refl i)

    pub runs_earlier : (p i j k : ℕ) → 1 ≤ j → j ≤ k → cell σ i k ≡ cell σ i j → ((a b : ℕ) → 1 ≤ a → a ≤ b → cell σ i b ≤ cell σ i a)
        → T (runs S σ t p (server_job i k)) → T (runs S σ t p (server_job i j))
    unfolding runs
    runs_earlier p i j k h g e falls r =
        and_i (ready S σ t (server_job i j)) (ltb (rank S σ t (server_job i j)) p)
        (is_ready_lem i j (record { from = h; to = omega (arith, now.pends.to); left = omega (arith, now.pends.left) }) (free_too now.free))
        (lt→ltb (rank S σ t (server_job i j)) p
        (omega (arith, few, rank_grows i j k g)))
      where
        few : rank S σ t (server_job i k) < p
        few = ltb→lt (rank S σ t (server_job i k)) p (and_r (ready S σ t (server_job i k)) (ltb (rank S σ t (server_job i k)) p) r)

        now : Ready i k
        now = ready_is i k (and_l (ready S σ t (server_job i k)) (ltb (rank S σ t (server_job i k)) p) r)

        free_too : Free i k → Free i j
        free_too (inl a) = inl (omega arith)
        free_too (inr a) =
            by_lt (srv S i).level j (λ l. inr (omega (arith, falls (j - (srv S i).level) (k - (srv S i).level) (omega arith) (omega arith))))
            (λ l. inl l)
