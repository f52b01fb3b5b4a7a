-- R-8: overlap is limited, for any needs from 1 to the budgets, any servers and any number of processors in each tick. The jobs that run
-- are among the `level` after those of complete server jobs; and a job runs only once the job `level` numbers before it has finished.
use mathlib.Core.Path.{◌≡◌, ◌∙◌, sym}
use mathlib.Core.Bool.{Bool, not, ◌&&◌}
use mathlib.Core.List.{List}
use Prim.Native.Nat.{ℕ, zero, suc, ◌+◌, ◌-◌, ◌≤◌, ◌<◌}
use native.Mathlib.Nat.{le_refl, not-suc-le-zero}
use native.Mathlib.Omega.{arith}
use lib.Dec.{T, leb, ltb, eqb, leb→le, eqb→eq, le→leb, lt→ltb}
use lib.ListN.{length, get_or-eq_default}
use Rattle.schedule.specs.Lists.{one?, any?, numbers, up_to}
use Rattle.schedule.specs.Table.{Table}
use Rattle.schedule.specs.Servers.{Server, no_server, srv, box_of}
use Rattle.schedule.specs.ServerJobs.{released, released_before, used}
use Rattle.schedule.specs.Links.{finished_by}
use Rattle.schedule.specs.WellFormed.{well_formed}
use Rattle.schedule.specs.LeastTrue.{Needs}
use Rattle.schedule.specs.Overlap.{job_runs, starts, jobs_running, OverlapLimited}
use Rattle.schedule.proofs.Tests.{and_l, and_r, and_i, by_lt, by_test, true_T, eq→eqb, one_of}
use Rattle.schedule.proofs.Cells.{nth_nil}
use Rattle.theorems.proofs.Counts.{some_in, in_some, count_within}
use Rattle.theorems.proofs.InTurn.{used_by, running, running_ready, used_step, completed, ready_within}
use Rattle.theorems.proofs.LinkRows.{linked_up_to, linked_last, linked_grows, linked_slow, linked_at_lem}
use Rattle.theorems.proofs.Linking.{link_of, links_in_order, links_stay}
use Rattle.theorems.proofs.Finishing.{Finished, finished_is, is_finished}
use Rattle.theorems.proofs.Level.{finished_before}
use Rattle.theorems.proofs.TableBox.{server_fits}

-- a server job that is linked adds to the count
linked_rises : (f : ℕ → ℕ) (c k : ℕ) → c < k → 0 < f k → linked_up_to f c < linked_up_to f k
linked_rises f c zero l p = absurd (not-suc-le-zero l)
linked_rises f c (suc k) l p =
    let e : c + (k - c) ≡ k = omega arith in
    omega (arith, linked_last f k, one_of (ltb 0 (f (suc k))) (lt→ltb 0 (f (suc k)) p), rw e at (linked_grows f c (k - c)))

-- where a number passes there is a first that does
first_of_lem : (p : ℕ → Bool) (n u : ℕ) → u ≤ n → T (p u) → (v : ℕ) × (v ≤ u) × T (p v && not (any? p (numbers 0 v)))
first_of_lem p zero u l t =
    by_test (any? p (numbers 0 u))
    (λ e. let (k, a, b, c) = some_in p 0 u (true_T (any? p (numbers 0 u)) e) in absurd (let x : ⊥ = omega arith in x))
    (λ e. (u, le_refl u, and_i (p u) (not (any? p (numbers 0 u))) t (rw e tt)))
first_of_lem p (suc n) u l t =
    by_test (any? p (numbers 0 u))
    (λ e.
    let (k, a, b, c) = some_in p 0 u (true_T (any? p (numbers 0 u)) e) in
    let (v, x, y) = first_of_lem p n k (omega arith) c in
    (v, omega arith, y))
    (λ e. (u, le_refl u, and_i (p u) (not (any? p (numbers 0 u))) t (rw e tt)))

module _ (S : List Server) (cap : ℕ → ℕ) where
  -- a server job that has used some ticks ran in a tick before which it had used none
  first_tick : (t i k : ℕ) → 0 < used_by S cap t i k → (u : ℕ) × (u < t) × T (running S cap u i k) × (used_by S cap u i k ≡ 0)
  unfolding used
  first_tick zero i k l = absurd (let x : ⊥ = omega (arith, nth_nil k) in x)
  first_tick (suc t) i k l =
      by_lt 0 (used_by S cap t i k) (λ m. let (u, a, b, c) = first_tick t i k m in (u, omega arith, b, c))
      (λ m.
      by_test (running S cap t i k) (λ e. (t, omega arith, true_T (running S cap t i k) e, omega arith))
      (λ e. absurd (let z : one? (running S cap t i k) ≡ 0 = rw e in let x : ⊥ = omega (arith, used_step S cap t i k) in x)))

module _ (S : List Server) (cap : ℕ → ℕ) (need : ℕ → ℕ → ℕ) where
  -- in the tick at t server job k of node i runs for its job j, which does not yet have the ticks it needs
  abbrev runs_for : ℕ → ℕ → ℕ → ℕ → Bool
  runs_for t i j k = running S cap t i k && (eqb (link_of S cap need (suc t) i k) j && ltb (used_by S cap t i k) (need i j))

  -- the server job that runs for it
  record RunsFor (t i j : ℕ) : Type 0 where
    k : ℕ
    some : 1 ≤ j
    runs : T (running S cap t i k)
    is : link_of S cap need (suc t) i k ≡ j

  runs_for_lem : (t i j : ℕ) → T (job_runs S cap need t i j) → RunsFor t i j
  unfolding job_runs
  runs_for_lem t i j r =
      let A = leb 1 j in
      let B = any? (runs_for t i j) (up_to (released (srv S i) t)) in
      let (k, a, b, c) = some_in (runs_for t i j) 1 (released (srv S i) t) (and_r A B r) in
      let R = running S cap t i k in
      let E = eqb (link_of S cap need (suc t) i k) j in
      let L = ltb (used_by S cap t i k) (need i j) in
      record {
        k = k;
        some = leb→le 1 j (and_l A B r);
        runs = and_l R (E && L) c;
        is = eqb→eq (link_of S cap need (suc t) i k) j (and_l E L (and_r R (E && L) c));
      }

  -- how many of the complete server jobs of node i are linked
  abbrev done_jobs : ℕ → ℕ → ℕ
  done_jobs t i = linked_up_to (link_of S cap need (suc t) i) (completed S cap t i)

  running_within : (t i j : ℕ) → 1 ≤ (srv S i).level → T (job_runs S cap need t i j)
      → (done_jobs t i < j) × (j ≤ done_jobs t i + (srv S i).level)
  unfolding released_before
  running_within t i j v r =
      let x = runs_for_lem t i j r in
      let k = x.k in
      let f = link_of S cap need (suc t) i in
      let c = completed S cap t i in
      let ready = running_ready S cap t i k x.runs in
      let (lo, hi) = ready_within S cap t i k v ready in
      let p = ready.pends in
      let linked : 0 < f k = omega (arith, x.is, x.some) in
      let at : f k ≡ linked_up_to f k = linked_at_lem f (released (srv S i) t) (links_in_order S cap need (suc t) i) k p.from p.to linked in
      let rises : linked_up_to f c < linked_up_to f k = linked_rises f c k lo linked in
      let d' : c + (k - c) ≡ k = omega arith in
      let slow : linked_up_to f k ≤ linked_up_to f c + (k - c) = rw d' at (linked_slow f c (k - c)) in
      (omega (arith, x.is), omega (arith, x.is))

  pub jobs_at_most_level : (t i n : ℕ) → 1 ≤ (srv S i).level → jobs_running S cap need t i n ≤ (srv S i).level
  unfolding jobs_running
  jobs_at_most_level t i n v =
      count_within (job_runs S cap need t i) (done_jobs t i) (srv S i).level (λ j r. running_within t i j v r) n

  -- in whichever tick it runs
  pub runs_after_finished : Needs S need → (t i j : ℕ) → 1 ≤ (srv S i).level → (srv S i).level < j → T (job_runs S cap need t i j)
      → T (finished_by S cap need t i (j - (srv S i).level))
  runs_after_finished needs t i j v l r =
      let x = runs_for_lem t i j r in
      is_finished S cap need t i (j - (srv S i).level) (finished_before S cap need needs.most t i x.k j x.runs x.is l v)

  -- the tick in which a job runs for the first time, of one that has finished
  ran : (t i j : ℕ) → 1 ≤ j → 1 ≤ need i j → Finished S cap need t i j → (u : ℕ) × (u < t) × T (job_runs S cap need u i j)
  unfolding job_runs released_before
  ran t i j a n f =
      let k = f.k in
      let (u, b, c, z) = first_tick S cap t i k (omega (arith, f.has)) in
      let p = (running_ready S cap u i k c).pends in
      let is : link_of S cap need (suc u) i k ≡ j = sym (links_stay S cap need (suc u) t i k b p.from p.to) ∙ f.is in
      let R = running S cap u i k in
      let E = eqb (link_of S cap need (suc u) i k) j in
      let L = ltb (used_by S cap u i k) (need i j) in
      let here : T (runs_for u i j k) =
      and_i R (E && L) c (and_i E L (eq→eqb (link_of S cap need (suc u) i k) j is) (lt→ltb (used_by S cap u i k) (need i j) (omega arith))) in
      let m = released (srv S i) u in
      (u, b, and_i (leb 1 j) (any? (runs_for u i j) (up_to m)) (le→leb 1 j a) (in_some (runs_for u i j) 1 m k p.from (omega (arith, p.to)) here))

  -- every job that has finished has started before: what is said of starts is said of each of them
  pub finished_started : Needs S need → (t i j : ℕ) → i < length S → 1 ≤ j → T (finished_by S cap need t i j)
      → (u : ℕ) × (u < t) × T (starts S cap need u i j)
  unfolding starts
  finished_started needs t i j l a f =
      let (u, b, r) = ran t i j a (needs.some i j l a) (finished_is S cap need t i j f) in
      let (v, x, y) = first_of_lem (λ (w : ℕ). job_runs S cap need w i j) u u (le_refl u) r in
      (v, omega arith, y)

  -- where every server has a level, and a place without a server has the level 1
  level_some : ((i : ℕ) → i < length S → 1 ≤ (srv S i).level) → (i : ℕ) → 1 ≤ (srv S i).level
  level_some h i = by_lt i (length S) (h i) (λ l. rw (get_or-eq_default S no_server l) (le_refl 1))

  pub overlap_limited : Needs S need → ((i : ℕ) → i < length S → 1 ≤ (srv S i).level) → OverlapLimited S cap need
  unfolding starts
  overlap_limited needs some =
      record {
        at_most_level = λ t i n. jobs_at_most_level t i n (level_some some i);
        starts_after = λ t i j l s.
            runs_after_finished needs t i j (level_some some i) l
            (and_l (job_runs S cap need t i j) (not (any? (λ (u : ℕ). job_runs S cap need u i j) (numbers 0 t))) s);
      }

-- of every well-formed table, whether its walk settles or not
pub table_overlap_limited : (X : Table) → T (well_formed X) → (need : ℕ → ℕ → ℕ) → Needs (box_of X).servers need
    → OverlapLimited (box_of X).servers (box_of X).cap need
table_overlap_limited X ok need needs = overlap_limited (box_of X).servers (box_of X).cap need needs (λ i l. (server_fits X ok i l).level_some)
