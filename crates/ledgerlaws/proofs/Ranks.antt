-- The engine's rank of a server job, counted over the first `level` pending ones of each server, is the rules'.
use mathlib.Core.Path.{◌≡◌, refl, sym, ap, subst, ◌∙◌}
use mathlib.Core.Bool.{Bool, true, false, ◌&&◌, ◌||◌, cond}
use mathlib.Core.List.{List, []}
use Prim.Native.Nat.{ℕ, zero, suc, ◌+◌, ◌-◌, ◌≤◌, ◌<◌, min}
use native.Mathlib.Nat.{add-zero, suc-mul}
use native.Mathlib.Omega.{arith}
use lib.Dec.{T, leb, ltb, eqb, leb→le, ltb→lt, le→leb, lt→ltb}
use lib.ListN.{length, get_or}
use borrow.Author.Tests.{lt-ltb, le-ltb, eq-eqb, ne_eqb}
use Rattle.schedule.specs.Lists.{one?, count, joined}
use Rattle.schedule.specs.Servers.{Server, srv, Box, whole}
use Rattle.schedule.specs.ServerJobs as Rules
use Rattle.schedule.specs.ServerJobs.{ServerJob, jobs_from, released, priority_of, before, ready, ready_jobs, used}
use Rattle.schedule.proofs.Tests.{and_l, and_r, and_i, by_lt, T_true}
use Rattle.theorems.proofs.Counts.{server_job, count_keep, count_append, count_none, jobs_split}
use Rattle.schedule.specs.Walk.{figure}
use Rattle.theorems.proofs.InTurn.{used_by, completed, ready_are_first}
use Rattle.theorems.proofs.Linking.{link_of}
use Rattle.window.specs.declared.Plan.{Plan}
use Rattle.window.specs.Entries.{last_key, further, nodes_of}
use Rattle.window.proofs.Relation.{last_instant}
use Rattle.window.proofs.Instants.{release_next}
use Rattle.window.proofs.Places.{nodes_are}
use Rattle.ledger.specs.declared.Ledger.{Ledger}
use Rattle.ledger.specs.Entries.{instant_after}
use Rattle.ledger.specs.Ranks.{is_before, before_by, ready_count, before_at, rank_by, rank}
use Rattle.ledgerlaws.proofs.Relation.{Laid, Row, Released}
use Rattle.ledgerlaws.proofs.Releasing.{few_released_now}

-- lists one after the other, the last by itself
pub count_joined_last : {A : Type 0} (p : A → Bool) (f : ℕ → List A) (a n : ℕ) → count p (joined f a (suc n)) ≡ count p (joined f a n) + count p (f (a + n))
count_joined_last p f a zero = let e : a + 0 ≡ a = add-zero a in rw (e, count_append p (f a) []) (omega arith)
count_joined_last p f a (suc n) =
    let e : a + suc n ≡ suc a + n = omega arith in
    rw (e, count_append p (f a) (joined f (suc a) (suc n)), count_append p (f a) (joined f (suc a) n)) (omega (arith, count_joined_last p f (suc a) n))

count_jobs_last : (p : ServerJob → Bool) (i a n : ℕ) → count p (jobs_from i a (suc n)) ≡ count p (jobs_from i a n) + one? (p (server_job i (a + n)))
count_jobs_last p i a n =
    let e : n + 1 ≡ suc n = omega arith in
    subst (λ (q : ℕ). count p (jobs_from i a q) ≡ count p (jobs_from i a n) + one? (p (server_job i (a + n)))) e (jobs_split p i a n 1 ∙ omega arith)

-- a deadline by rule 1 is the priority
pub deadline_is : (s : Server) → s.point ≡ s.period → (k : ℕ) → 1 ≤ k → instant_after s.offset s.period k ≡ priority_of s k
unfolding priority_of
deadline_is s e zero h = absurd (let x : ⊥ = omega arith in x)
deadline_is s e (suc k) h = omega (arith, release_next s k, suc-mul k s.period)

-- rule 5's order, by the two tests
before_by_lem : (p q : ℕ) (b : Bool) → is_before p q b ≡ (ltb p q || (eqb p q && b))
before_by_lem p q b =
    by_lt p q (λ l. rw (lt-ltb p q l, ne_eqb p q (λ e. omega arith)))
    (λ l. by_lt q p (λ g. rw (le-ltb p q l, ne_eqb p q (λ e. omega arith))) (λ g. rw (le-ltb p q l, eq-eqb p q (omega arith))))

module _ (X : Box) (plan : Plan) (offsets : List ℕ) (laid : Laid X plan offsets) (t : ℕ) (l : Ledger) (rel : Released X t l) (early : t ≤ last_instant) where
  abbrev S : List Server
  S = X.servers

  abbrev σ : List (List ℕ)
  σ = used S X.cap t

  abbrev s : ℕ → Server
  s i = srv S i

  abbrev N : ℕ → ℕ
  N i = released (s i) t

  abbrev c : ℕ → ℕ
  c i = completed S X.cap t i

  abbrev ready_of : ℕ → ℕ → Bool
  ready_of i k = ready S σ t (server_job i k)

  -- as many are ready at place i, after the complete ones
  abbrev d : ℕ → ℕ
  d i = ready_count offsets plan.period plan.level l.complete l.released i

  module _ (i : ℕ) (h : i < length S) where
    abbrev r : Row i (used_by S X.cap t i) (link_of S X.cap (whole S) (suc t) i) (N i) (c i) (figure X (whole S) i t) l
    r = rel.row i h

    level_most : (s i).level ≤ 4
    level_most = (laid.fits.at i h).level_most

    pub ready_count_lem : d i ≡ min (N i - c i) (s i).level
    ready_count_lem = omega (arith, r.released, r.complete, r.order, (laid.fits.at i h).level, level_most, few_released_now (s i) t)

    ready_is : (k : ℕ) → ready_of i k ≡ (ltb (c i) k && (leb k (N i) && leb k (c i + (s i).level)))
    ready_is k = ready_are_first S X.cap t i k (laid.fits.at i h).level_some (laid.fits.at i h).budget_some

    pub ready_after : (k : ℕ) → T (ready_of i k) → (c i < k) × (k ≤ c i + d i)
    ready_after k w =
        let A = ltb (c i) k in
        let B = leb k (N i) in
        let C = leb k (c i + (s i).level) in
        let v : T (A && (B && C)) = rw (ready_is k) at w in
        let u = and_r A (B && C) v in
        let x = leb→le k (N i) (and_l B C u) in
        let y = leb→le k (c i + (s i).level) (and_r B C u) in
        (ltb→lt (c i) k (and_l A (B && C) v), omega (arith, ready_count_lem, r.order, x, y))

    pub is_ready_lem : (k : ℕ) → c i < k → k ≤ c i + d i → T (ready_of i k)
    is_ready_lem k a b =
        let A = ltb (c i) k in
        let B = leb k (N i) in
        let C = leb k (c i + (s i).level) in
        rw (ready_is k)
        (and_i A (B && C) (lt→ltb (c i) k a)
        (and_i B C (le→leb k (N i) (omega (arith, ready_count_lem, r.order))) (le→leb k (c i + (s i).level) (omega (arith, ready_count_lem)))))

  -- before server job k of place i, which has the deadline D
  module _ (i k : ℕ) (h : i < length S) (some : 1 ≤ k) where
    abbrev D : ℕ
    D = instant_after (get_or offsets i 0) (get_or plan.period i 0) k

    abbrev test : ServerJob → Bool
    test y = ready S σ t y && before S y (server_job i k)

    D-is : D ≡ priority_of (s i) k
    D-is = rw (laid.offset i h, (laid.fits.at i h).period) (deadline_is (s i) (laid.point i h) k some)

    module _ (p : ℕ) (g : p < length S) where
      abbrev by : ℕ → ℕ
      by e = before_by (get_or offsets p 0) (get_or plan.period p 0) (get_or l.complete p 0) D (ltb p i) e

      test_is : (q : ℕ) → c p < q → q ≤ c p + d p → test (server_job p q) ≡ is_before (instant_after (get_or offsets p 0) (get_or plan.period p 0) q) D (ltb p i)
      unfolding before
      test_is q a b =
          rw (T_true {b = ready_of p q} (is_ready_lem p g q a b), D-is, laid.offset p g, (laid.fits.at p g).period, deadline_is (s p) (laid.point p g) q (omega arith))
          (sym (before_by_lem (priority_of (s p) q) (priority_of (s i) k) (ltb p i)))

      by_few : (e : ℕ) → by e ≤ e
      unfolding before_by
      by_few zero = omega arith
      by_few (suc e) =
          go (is_before (instant_after (get_or offsets p 0) (get_or plan.period p 0) (get_or l.complete p 0 + suc e)) D (ltb p i)) (by_few e)
        where
          go : (b : Bool) → by e ≤ e → cond b (further (by e) 1) (by e) ≤ suc e
          go true z = omega arith
          go false z = omega arith

      by_counts : (e : ℕ) → e ≤ d p → by e ≡ count test (jobs_from p (1 + c p) e)
      unfolding before_by
      by_counts zero z = refl
      by_counts (suc e) z =
          let n : get_or l.complete p 0 + suc e ≡ 1 + c p + e = omega (arith, (rel.row p g).complete) in
          let same : is_before (instant_after (get_or offsets p 0) (get_or plan.period p 0) (get_or l.complete p 0 + suc e)) D (ltb p i) ≡ test (server_job p (1 + c p + e)) =
          ap (λ (q : ℕ). is_before (instant_after (get_or offsets p 0) (get_or plan.period p 0) q) D (ltb p i)) n ∙ sym (test_is (1 + c p + e) (omega arith) (omega arith)) in
          let small : e < last_key = omega (arith, ready_count_lem p g, level_most p g) in
          rw (same, count_jobs_last test p (1 + c p) e) (go (test (server_job p (1 + c p + e))) small (by_few e) (by_counts e (omega arith)))
        where
          go : (b : Bool) → e < last_key → by e ≤ e → by e ≡ count test (jobs_from p (1 + c p) e)
              → cond b (further (by e) 1) (by e) ≡ count test (jobs_from p (1 + c p) e) + one? b
          go true u v w = omega arith
          go false u v w = omega arith

      not_ready : (q : ℕ) → (T (ready_of p q) → ⊥) → T (test (server_job p q)) → ⊥
      not_ready q f w = f (and_l (ready_of p q) (before S (server_job p q) (server_job i k)) w)

      -- those before and after the ready ones do not count
      at_counts : before_at offsets plan.period plan.level l.complete l.released i D p ≡ count test (jobs_from p 1 (N p))
      at_counts =
          let r = rel.row p g in
          let rest : ℕ = N p - c p - d p in
          let whole_is : N p ≡ c p + (d p + rest) = omega (arith, ready_count_lem p g, r.order) in
          let none_first : count test (jobs_from p 1 (c p)) ≡ 0 =
          count_none test p 1 (c p) (λ q a b. not_ready q (λ w. let z = (ready_after p g q w).0 in let x : ⊥ = omega arith in x)) in
          let none_last : count test (jobs_from p (1 + c p + d p) rest) ≡ 0 =
          count_none test p (1 + c p + d p) rest (λ q a b. not_ready q (λ w. let z = (ready_after p g q w).1 in let x : ⊥ = omega arith in x)) in
          by_counts (d p) (omega arith)
          ∙ sym
          (ap (λ (n : ℕ). count test (jobs_from p 1 n)) whole_is
          ∙ omega (arith, jobs_split test p 1 (c p) (d p + rest), jobs_split test p (1 + c p) (d p) rest, none_first, none_last))

    abbrev jobs : ℕ → List ServerJob
    jobs p = jobs_from p 1 (N p)

    by_places : (n : ℕ) → n ≤ length S
        → rank_by offsets plan.period plan.level l.complete l.released i D n ≡ min (count test (joined jobs 0 n)) last_key
    unfolding rank_by
    by_places zero z = refl
    by_places (suc n) z =
        let e : 0 + n ≡ n = omega arith in
        let last : count test (joined jobs 0 (suc n)) ≡ count test (joined jobs 0 n) + count test (jobs n) = rw e at (count_joined_last test jobs 0 n) in
        omega (arith, by_places n (omega arith), at_counts n (omega arith), last)

    pub rank_is : rank offsets plan.period plan.level l.complete l.released (nodes_of plan) i k ≡ min (Rules.rank S σ t (server_job i k)) last_key
    unfolding Rules.rank ready_jobs
    rank_is =
        ap (rank_by offsets plan.period plan.level l.complete l.released i D) (nodes_are X plan laid.fits)
        ∙ by_places (length S) (omega arith)
        ∙ ap (λ (n : ℕ). min n last_key) (sym (count_keep (λ (y : ServerJob). before S y (server_job i k)) (ready S σ t) (joined jobs 0 (length S))))
