-- Quiet spans: from t on, d ticks long, in which nothing is released after t, no server job that runs at t uses up its budget before the
-- end, and the processors stay the same. In each tick of such a span the same server jobs run as in its first.
use mathlib.Core.Path.{◌≡◌, refl, sym, ap, ◌∙◌}
use mathlib.Core.Bool.{Bool}
use mathlib.Core.List.{List, [], ◌∷◌}
use mathlib.Core.Logic.{inl, inr}
use Prim.Native.Nat.{ℕ, zero, suc, ◌+◌, ◌*◌, ◌-◌, ◌/◌, ◌≤◌, ◌<◌}
use native.Mathlib.Nat.{le_refl, add-zero, add-suc, zero-mul, suc-mul, mul-zero, mul-one, le_trans, div-mul-le_self, le-div_iff_mul-le, div-lt_iff_lt-mul}
use native.Mathlib.Omega.{arith}
use lib.Dec.{T}
use lib.ListN.{length}
use borrow.Author.Tests.{lt-ltb, le-ltb}
use Rattle.schedule.specs.Lists.{one?, keep, tab, joined, cell, written}
use Rattle.schedule.specs.Servers.{Server, srv}
use Rattle.schedule.specs.ServerJobs.{ServerJob, jobs_from, release_of, released, pending, ready, ready_jobs, rank, runs, tick, used}
use Rattle.schedule.proofs.Tests.{by_lt, either_way, dec, true_T, bool_ext}
use Rattle.theorems.proofs.Counts.{server_job}
use Rattle.theorems.proofs.Ready.{Pending, pending_is, is_pending, ready_is, is_ready_lem}
use Rattle.theorems.proofs.InTurn.{budget_of, no_budget, used_by, running, running_ready, used_step}

module _ {A : Type 0} where
  pub keep_same : (p q : A → Bool) → ((x : A) → p x ≡ q x) → (l : List A) → keep p l ≡ keep q l
  keep_same p q h [] = refl
  keep_same p q h (x ∷ xs) = rw (h x, keep_same p q h xs)

  pub joined_same : (f g : ℕ → List A) (a n : ℕ) → ((i : ℕ) → i < a + n → f i ≡ g i) → joined f a n ≡ joined g a n
  joined_same f g a zero h = refl
  joined_same f g a (suc n) h = rw (h a (omega arith), joined_same f g (suc a) n (λ i l. h i (omega arith)))

  tab_same : (f g : ℕ → A) (a n : ℕ) → ((k : ℕ) → a ≤ k → k < a + n → f k ≡ g k) → tab f a n ≡ tab g a n
  tab_same f g a zero h = refl
  tab_same f g a (suc n) h =
      rw (h a (le_refl a) (omega arith), tab_same f g (suc a) n (λ k b c. h k (omega arith) (omega arith)))

-- two tables of numbers with rows of equal lengths and equal entries
pub written_same : (n : ℕ) (v w : ℕ → ℕ) (f g : ℕ → ℕ → ℕ) → ((i : ℕ) → i < n → v i ≡ w i)
    → ((i k : ℕ) → i < n → 1 ≤ k → k ≤ w i → f i k ≡ g i k) → written n v f ≡ written n w g
written_same n v w f g e h =
    tab_same (λ (i : ℕ). tab (f i) 1 (v i)) (λ (i : ℕ). tab (g i) 1 (w i)) 0 n
    (λ i a b. rw (e i (omega arith)) (tab_same (f i) (g i) 1 (w i) (λ k c d. h i k (omega arith) c (omega arith))))

-- at u with ticks σ' as many server jobs of each server are released as at t with ticks σ, and the same ones have budget left
pub record SameLeft (S : List Server) (σ : List (List ℕ)) (t : ℕ) (σ' : List (List ℕ)) (u : ℕ) : Type 0 where
  pub same_released : (i : ℕ) → i < length S → released (srv S i) u ≡ released (srv S i) t
  pub left : (i k : ℕ) → cell σ i k < budget_of S i → cell σ' i k < budget_of S i
  pub full : (i k : ℕ) → budget_of S i ≤ cell σ i k → budget_of S i ≤ cell σ' i k

module _ (S : List Server) where
  pub turned : (σ : List (List ℕ)) (t : ℕ) (σ' : List (List ℕ)) (u : ℕ) → SameLeft S σ t σ' u → SameLeft S σ' u σ t
  turned σ t σ' u s =
      record {
        same_released = λ i l. sym (s.same_released i l);
        left = λ i k h. by_lt (cell σ i k) (budget_of S i) (λ l. l) (λ l. absurd (let x : ⊥ = omega (arith, s.full i k l) in x));
        full = λ i k h. by_lt (cell σ i k) (budget_of S i) (λ l. absurd (let x : ⊥ = omega (arith, s.left i k l) in x)) (λ l. l);
      }

  pends_too : (σ : List (List ℕ)) (t : ℕ) (σ' : List (List ℕ)) (u : ℕ) → SameLeft S σ t σ' u → (i k : ℕ) → Pending S σ t i k → Pending S σ' u i k
  pends_too σ t σ' u s i k p =
      let inside : i < length S = by_lt i (length S) (λ l. l) (λ l. absurd (let z : ⊥ = omega (arith, no_budget S i l, p.left) in z)) in
      record { from = p.from; to = omega (arith, p.to, s.same_released i inside); left = s.left i k p.left }

  pending_too : (σ : List (List ℕ)) (t : ℕ) (σ' : List (List ℕ)) (u : ℕ) → SameLeft S σ t σ' u → (i k : ℕ)
      → T (pending S σ t i k) → T (pending S σ' u i k)
  pending_too σ t σ' u s i k x = is_pending S σ' u i k (pends_too σ t σ' u s i k (pending_is S σ t i k x))

  ready_too : (σ : List (List ℕ)) (t : ℕ) (σ' : List (List ℕ)) (u : ℕ) → SameLeft S σ t σ' u → (i k : ℕ)
      → T (ready S σ t (server_job i k)) → T (ready S σ' u (server_job i k))
  ready_too σ t σ' u s i k x =
      let r = ready_is S σ t i k x in
      is_ready_lem S σ' u i k (pends_too σ t σ' u s i k r.pends)
      (either_way r.free (λ l. inl l) (λ c. inr (s.full i (k - (srv S i).level) c)))

  module _ (σ : List (List ℕ)) (t : ℕ) (σ' : List (List ℕ)) (u : ℕ) (s : SameLeft S σ t σ' u) where
    pub pending_same : (i k : ℕ) → pending S σ' u i k ≡ pending S σ t i k
    pending_same i k =
        bool_ext (pending S σ' u i k) (pending S σ t i k) (pending_too σ' u σ t (turned σ t σ' u s) i k) (pending_too σ t σ' u s i k)

    pub ready_same : (x : ServerJob) → ready S σ' u x ≡ ready S σ t x
    ready_same x =
        bool_ext (ready S σ' u x) (ready S σ t x) (ready_too σ' u σ t (turned σ t σ' u s) x.server x.number)
        (ready_too σ t σ' u s x.server x.number)

    pub ready_jobs_same : ready_jobs S σ' u ≡ ready_jobs S σ t
    unfolding ready_jobs
    ready_jobs_same =
        keep_same (ready S σ' u) (ready S σ t) ready_same (joined (jobs u) 0 (length S))
        ∙ ap (keep (ready S σ t)) (joined_same (jobs u) (jobs t) 0 (length S) (λ i l. rw (s.same_released i (omega arith))))
      where
        jobs : ℕ → ℕ → List ServerJob
        jobs t = λ (j : ℕ). jobs_from j 1 (released (srv S j) t)

    pub rank_same : (x : ServerJob) → rank S σ' u x ≡ rank S σ t x
    unfolding rank
    rank_same x = rw ready_jobs_same

    pub runs_same : (p : ℕ) (x : ServerJob) → runs S σ' u p x ≡ runs S σ t p x
    unfolding runs
    runs_same p x = rw (ready_same x, rank_same x)

-- before the next release of a server none of its server jobs is released
module _ (s : Server) (some : 0 < s.period) where
  none_early : (t : ℕ) → t < s.offset → released s t ≡ 0
  unfolding released
  none_early t l = rw (lt-ltb t s.offset l)

  some_late : (t : ℕ) → s.offset ≤ t → released s t ≡ (t - s.offset) / s.period + 1
  unfolding released
  some_late t l = rw (le-ltb t s.offset l)

  next_release : (n : ℕ) → release_of s (suc n) ≡ s.offset + n * s.period
  unfolding release_of
  next_release n = let e : suc n - 1 ≡ n = omega arith in rw e

  pub released_until : (t u : ℕ) → t ≤ u → u < release_of s (suc (released s t)) → released s u ≡ released s t
  released_until t u h g =
      by_lt t s.offset
      (λ l.
      let z : released s t ≡ 0 = none_early t l in
      let g' : u < s.offset + 0 * s.period = rw (z, next_release 0) at g in
      none_early u (omega (arith, zero-mul s.period)) ∙ sym z)
      (λ l.
      let m = (t - s.offset) / s.period in
      let z : released s t ≡ m + 1 = some_late t l in
      let g' : u < s.offset + (m + 1) * s.period = rw (z, next_release (m + 1)) at g in
      let lo : m ≤ (u - s.offset) / s.period =
      (le-div_iff_mul-le {k = s.period} some).1 (le_trans (div-mul-le_self (t - s.offset) s.period) (omega arith)) in
      let hi : (u - s.offset) / s.period < m + 1 = (div-lt_iff_lt-mul some).1 (omega arith) in
      some_late u (omega arith) ∙ (omega (arith, z)))

-- the span from t on, d ticks long, is quiet
pub record Quiet (S : List Server) (cap : ℕ → ℕ) (t d : ℕ) : Type 0 where
  pub none_released : (i e : ℕ) → i < length S → e < d → released (srv S i) (t + e) ≡ released (srv S i) t
  pub enough : (i k : ℕ) → T (running S cap t i k) → used_by S cap t i k + d ≤ budget_of S i
  pub same_cap : (e : ℕ) → e < d → cap (t + e) ≡ cap t

-- a span is quiet that ends before the next release of each server, and before a server job that runs at its start uses up its budget
pub quiet_until : (S : List Server) (cap : ℕ → ℕ) (t d : ℕ) → ((i : ℕ) → i < length S → 0 < (srv S i).period)
    → ((i : ℕ) → i < length S → t + d ≤ release_of (srv S i) (suc (released (srv S i) t)))
    → ((i k : ℕ) → T (running S cap t i k) → used_by S cap t i k + d ≤ budget_of S i) → ((e : ℕ) → e < d → cap (t + e) ≡ cap t) → Quiet S cap t d
quiet_until S cap t d some none enough same =
    record {
      none_released = λ i e h l. released_until (srv S i) (some i h) t (t + e) (omega arith) (omega (arith, none i h));
      enough = enough;
      same_cap = same;
    }

-- a span of one tick is quiet, and so is a shorter part of a quiet span from its start
pub quiet_one : (S : List Server) (cap : ℕ → ℕ) (t : ℕ) → Quiet S cap t 1
quiet_one S cap t =
    record {
      none_released = λ i e h l. let z : t + e ≡ t = omega arith in rw z;
      enough = λ i k r. omega (arith, (running_ready S cap t i k r).pends.left);
      same_cap = λ e l. let z : t + e ≡ t = omega arith in rw z;
    }

pub quiet_part : (S : List Server) (cap : ℕ → ℕ) (t c d : ℕ) → c ≤ d → Quiet S cap t d → Quiet S cap t c
quiet_part S cap t c d h q =
    record {
      none_released = λ i e g l. q.none_released i e g (omega arith);
      enough = λ i k r. omega (arith, q.enough i k r);
      same_cap = λ e l. q.same_cap e (omega arith);
    }

module _ (S : List Server) (cap : ℕ → ℕ) (t d : ℕ) (q : Quiet S cap t d) where
  -- e ticks into the span each server job that runs at t has used e ticks more, and no other has used any
  abbrev Grown : ℕ → Type 0
  Grown e = (i k : ℕ) → used_by S cap (t + e) i k ≡ used_by S cap t i k + e * one? (running S cap t i k)

  same_left_by : (e : ℕ) → e < d → Grown e → SameLeft S (used S cap t) t (used S cap (t + e)) (t + e)
  same_left_by e l g =
      record {
        same_released = λ i h. q.none_released i e h l;
        left = λ i k h.
            either_way (dec (running S cap t i k))
            (λ r. let m : e * one? (running S cap t i k) ≡ e = rw (r, mul-one e) in
            omega (arith, g i k, q.enough i k (true_T (running S cap t i k) r)))
            (λ r. let m : e * one? (running S cap t i k) ≡ 0 = rw (r, mul-zero e) in omega (arith, g i k));
        full = λ i k h. omega (arith, g i k);
      }

  running_by : (e : ℕ) → e < d → Grown e → (i k : ℕ) → running S cap (t + e) i k ≡ running S cap t i k
  running_by e l g i k =
      rw (q.same_cap e l) (runs_same S (used S cap t) t (used S cap (t + e)) (t + e) (same_left_by e l g) (cap t) (server_job i k))

  grown_next : (e : ℕ) → e < d → Grown e → Grown (suc e)
  grown_next e l g i k =
      rw (add-suc t e, used_step S cap (t + e) i k, running_by e l g i k) (omega (arith, g i k, suc-mul e (one? (running S cap t i k))))

  pub grown : (e : ℕ) → e ≤ d → (i k : ℕ) → used_by S cap (t + e) i k ≡ used_by S cap t i k + e * one? (running S cap t i k)
  grown zero l i k = rw (add-zero t, zero-mul (one? (running S cap t i k))) (omega arith)
  grown (suc e) l i k = grown_next e l (grown e (omega arith)) i k

  pub same_left_lem : (e : ℕ) → e < d → SameLeft S (used S cap t) t (used S cap (t + e)) (t + e)
  same_left_lem e l = same_left_by e l (grown e (omega arith))

  -- the same server jobs are ready, and the same ones run
  pub same_ready : (e : ℕ) → e < d → ready_jobs S (used S cap (t + e)) (t + e) ≡ ready_jobs S (used S cap t) t
  same_ready e l = ready_jobs_same S (used S cap t) t (used S cap (t + e)) (t + e) (same_left_lem e l)

  pub same_running : (e : ℕ) → e < d → (i k : ℕ) → running S cap (t + e) i k ≡ running S cap t i k
  same_running e l = running_by e l (grown e (omega arith))

  -- the ticks used e + 1 ticks into the span, as a table: an entry for each server job released at or before t
  pub used_within : (e : ℕ) → e < d
      → used S cap (suc (t + e))
      ≡ written (length S) (λ (i : ℕ). released (srv S i) t) (λ (i k : ℕ). used_by S cap t i k + suc e * one? (running S cap t i k))
  unfolding used tick
  used_within e l =
      written_same (length S) (λ (i : ℕ). released (srv S i) (t + e)) (λ (i : ℕ). released (srv S i) t)
      (λ (i k : ℕ). used_by S cap (t + e) i k + one? (running S cap (t + e) i k))
      (λ (i k : ℕ). used_by S cap t i k + suc e * one? (running S cap t i k))
      (λ i h. q.none_released i e h l)
      (λ i k h a b. sym (used_step S cap (t + e) i k) ∙ (rw (add-suc t e) at (grown (suc e) l i k)))

  pub quiet_span : (e : ℕ) → e < d → (i k : ℕ)
      → (running S cap (t + e) i k ≡ running S cap t i k)
      × (used_by S cap (suc (t + e)) i k ≡ used_by S cap t i k + suc e * one? (running S cap t i k))
  quiet_span e l i k = (same_running e l i k, rw (add-suc t e) at (grown (suc e) l i k))
