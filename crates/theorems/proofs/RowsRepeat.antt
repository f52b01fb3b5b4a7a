-- Rows repeat: where the states agree at two instants a hyperperiod apart, at or after the first boundary, the row at each instant from
-- there on is repeated every hyperperiod, with server jobs and linked invocations moved on by the periods passed; 0 stays 0.
use mathlib.Core.Path.{◌≡◌, refl, ap, ◌∙◌}
use mathlib.Core.Bool.{Bool, true}
use mathlib.Core.List.{List, [], ◌∷◌, map}
use Prim.Native.Nat.{ℕ, zero, suc, ◌+◌, ◌*◌, ◌-◌, ◌≤◌, ◌<◌}
use native.Mathlib.Nat.{zero-mul}
use native.Mathlib.Omega.{arith}
use lib.Dec.{T, eqb}
use lib.ListN.{length}
use borrow.Author.Tests.{le-ltb}
use Rattle.schedule.specs.Lists.{all?, keep, joined}
use Rattle.schedule.specs.Servers.{Server, srv, Box}
use Rattle.schedule.specs.ServerJobs.{ServerJob, jobs_from, released, ready, ready_jobs, rank, used}
use Rattle.schedule.specs.State.{same_state, state_at}
use Rattle.schedule.specs.Walk.{Running, running_at, row_at}
use Rattle.schedule.specs.FarRows.{moved, moved_on}
use Rattle.schedule.proofs.Tests.{by_lt}
use Rattle.theorems.proofs.Counts.{server_job}
use Rattle.theorems.proofs.Ready.{ready_is}
use Rattle.theorems.proofs.InTurn.{no_budget}
use Rattle.theorems.proofs.SameRunning.{Periodic, more, ready_shift, not_ready, rank_shift}
use Rattle.theorems.proofs.Repeating.{moved_some, Repeated, Agree, same_links, agree_for_ever}
use Rattle.theorems.proofs.Boundaries.{Sound, agree_at_boundary}
use Rattle.theorems.proofs.MappedLists.{keep_joined, kept_pass, pass_kept, pass_joined, keep_moved, joined_moved, read_moved}
use Rattle.theorems.proofs.MappedLists.{keep_append, keep_none, jobs_append, keep_shift}

-- server job k of server i against server job k + h i
abbrev shifted : (ℕ → ℕ) → ServerJob → ServerJob
shifted h x = server_job x.server (x.number + h x.server)

moved_none : (a : ℕ) → moved 0 a ≡ a
moved_none a = by_lt 0 a (λ l. moved_some 0 a l ∙ omega arith) (λ l. rw (le-ltb 0 a l) (omega arith))

moved_twice : (g h a : ℕ) → moved h (moved g a) ≡ moved (g + h) a
moved_twice g h a =
    by_lt 0 a (λ l. rw (moved_some g a l, moved_some (g + h) a l) (moved_some h (a + g) (omega arith) ∙ omega arith))
    (λ l. let e : a ≡ 0 = omega arith in rw e)

module _ (periods : ℕ → ℕ) where
  on_none : (x : Running) → moved_on periods 0 x ≡ x
  on_none x =
      let p = periods x.graph in
      let z : 0 * p ≡ 0 = zero-mul p in
      let e : x.server_job + 0 ≡ x.server_job = omega arith in
      rw (z, moved_none x.invocation, e)

  on_one_more : (m : ℕ) (x : Running) → moved_on periods 1 (moved_on periods m x) ≡ moved_on periods (suc m) x
  on_one_more m x =
      let p = periods x.graph in
      let one : 1 * p ≡ p = omega arith in
      let e : suc m * p ≡ m * p + p = omega arith in
      let e' : (x.server_job + m * p) + p ≡ x.server_job + (m * p + p) = omega arith in
      rw (one, e, moved_twice (m * p) p x.invocation, e')

  row_none : (l : List Running) → map (moved_on periods 0) l ≡ l
  row_none [] = refl
  row_none (x ∷ xs) = rw (on_none x, row_none xs)

  row_one_more : (m : ℕ) (l : List Running) → map (moved_on periods 1) (map (moved_on periods m) l) ≡ map (moved_on periods (suc m)) l
  row_one_more m [] = refl
  row_one_more m (x ∷ xs) = rw (on_one_more m x, row_one_more m xs)

module _ (X : Box) (h : ℕ → ℕ) (sound : Sound X h) (need : ℕ → ℕ → ℕ) (again : Repeated X.servers h need) where
  abbrev S : List Server
  S = X.servers

  abbrev later : ℕ → ℕ
  later t = t + X.hyper

  abbrev ticks : ℕ → List (List ℕ)
  ticks t = used S X.cap t

  module _ (t : ℕ) (late : (i : ℕ) → (srv S i).offset ≤ t) (r : Agree S X.cap X.hyper h need t (later t)) where
    abbrev y : Periodic S X.cap X.hyper h
    y = sound.periodic

    abbrev jobs : ℕ → ℕ → List ServerJob
    jobs t i = jobs_from i 1 (released (srv S i) t)

    abbrev is_ready : ℕ → ServerJob → Bool
    is_ready t = ready S (ticks t) t

    -- the server jobs that are ready, of one server and of all
    ready_of_lem : (i : ℕ) → keep (is_ready (later t)) (jobs (later t) i) ≡ map (shifted h) (keep (is_ready t) (jobs t i))
    ready_of_lem i =
        let n = released (srv S i) t in
        let e : released (srv S i) (later t) ≡ h i + n =
        more S X.cap X.hyper h y t late (ticks t) (ticks (later t)) r.ticks r.done i ∙ omega arith in
        let none : keep (is_ready (later t)) (jobs_from i 1 (h i)) ≡ [] =
        keep_none (is_ready (later t)) i 1 (h i)
        (λ k a b. not_ready S X.cap X.hyper h y t late (ticks t) (ticks (later t)) r.ticks r.done i k a (omega arith)) in
        rw (e, jobs_append i 1 (h i) n, keep_append (is_ready (later t)) (jobs_from i 1 (h i)) (jobs_from i (1 + h i) n), none)
        (keep_shift (is_ready (later t)) (is_ready t) (shifted h) i (h i) 1 n
        (λ k a. ready_shift S X.cap X.hyper h y t late (ticks t) (ticks (later t)) r.ticks r.done i k a) (λ k. refl))

    ready_moved : ready_jobs S (ticks (later t)) (later t) ≡ map (shifted h) (ready_jobs S (ticks t) t)
    unfolding ready_jobs
    ready_moved =
        rw (keep_joined (is_ready (later t)) (jobs (later t)) 0 (length S), keep_joined (is_ready t) (jobs t) 0 (length S))
        (joined_moved (shifted h) (λ (i : ℕ). keep (is_ready (later t)) (jobs (later t) i)) (λ (i : ℕ). keep (is_ready t) (jobs t i)) ready_of_lem 0
        (length S))

    -- those of rank q, and the row before its links are read
    abbrev of_rank : ℕ → ℕ → List ServerJob
    of_rank t q = keep (λ (x : ServerJob). eqb (rank S (ticks t) t x) q) (ready_jobs S (ticks t) t)

    all_ready : T (all? (is_ready t) (ready_jobs S (ticks t) t))
    unfolding ready_jobs
    all_ready = kept_pass (is_ready t) (joined (jobs t) 0 (length S))

    rank_moved : (x : ServerJob) → T (is_ready t x) → rank S (ticks (later t)) (later t) (shifted h x) ≡ rank S (ticks t) t x
    rank_moved x a =
        rank_shift S X.cap X.hyper h y t late (ticks t) (ticks (later t)) r.ticks r.done x.server x.number
        (ready_is S (ticks t) t x.server x.number a).pends.from

    rank_of_lem : (q : ℕ) → of_rank (later t) q ≡ map (shifted h) (of_rank t q)
    rank_of_lem q =
        rw ready_moved
        (keep_moved (shifted h) (is_ready t) (λ (x : ServerJob). eqb (rank S (ticks t) t x) q)
        (λ (x : ServerJob). eqb (rank S (ticks (later t)) (later t) x) q) (λ x a. ap (λ (n : ℕ). eqb n q) (rank_moved x a))
        (ready_jobs S (ticks t) t) all_ready)

    module _ (periods : ℕ → ℕ) (same : (i : ℕ) → i < length S → periods (srv S i).graph ≡ h i) where
      entry_moved : (x : ServerJob) → T (is_ready t x) → running_at X need (later t) (shifted h x) ≡ moved_on periods 1 (running_at X need t x)
      unfolding running_at
      entry_moved x a =
          let i = x.server in
          let k = x.number in
          let p = (ready_is S (ticks t) t i k a).pends in
          let inside : i < length S =
          by_lt i (length S) (λ l. l) (λ l. absurd (let z : ⊥ = omega (arith, p.left, no_budget S i l) in z)) in
          let one : 1 * periods (srv S i).graph ≡ h i = omega (arith, same i inside) in
          rw (
            one,
            same_links S X.cap X.hyper h sound.periodic sound.graph need again t (later t) late r i k p.from p.to p.left,
          )

      row_moved : row_at X need (later t) ≡ map (moved_on periods 1) (row_at X need t)
      unfolding row_at
      row_moved =
          rw (y.same_cap t, joined_moved (shifted h) (of_rank (later t)) (of_rank t) rank_of_lem 0 (X.cap t))
          (read_moved (shifted h) (is_ready t) (running_at X need (later t)) (running_at X need t) (moved_on periods 1) entry_moved
          (joined (of_rank t) 0 (X.cap t))
          (pass_joined (is_ready t) (of_rank t)
          (λ q. pass_kept (is_ready t) (λ (x : ServerJob). eqb (rank S (ticks t) t x) q) (ready_jobs S (ticks t) t) all_ready) 0 (X.cap t)))

  -- b and the instant a hyperperiod later have the same state; a hyperperiod has `periods g` periods of graph g
  module _ (b : ℕ) (late : X.origin ≤ b) (equal : same_state (state_at X need (later b)) (state_at X need b) ≡ true) (periods : ℕ → ℕ)
      (same : (i : ℕ) → i < length S → periods (srv S i).graph ≡ h i) where
    row_later : (t : ℕ) → b ≤ t → row_at X need (later t) ≡ map (moved_on periods 1) (row_at X need t)
    row_later t l =
        let e : b + (t - b) ≡ t = omega arith in
        let e' : later b + (t - b) ≡ later t = omega arith in
        row_moved t (λ i. omega (arith, sound.offsets i))
        (rw (e, e') at
        (agree_for_ever S X.cap X.hyper h sound.periodic sound.graph need again b (later b) (λ i. omega (arith, sound.offsets i))
        (agree_at_boundary X h sound need again b late equal) (t - b)))
        periods same

    pub rows_repeat : (t : ℕ) → b ≤ t → (m : ℕ) → row_at X need (t + m * X.hyper) ≡ map (moved_on periods m) (row_at X need t)
    rows_repeat t l zero =
        let e : t + 0 * X.hyper ≡ t = omega (arith, zero-mul X.hyper) in
        rw (e, row_none periods (row_at X need t))
    rows_repeat t l (suc m) =
        let e : t + suc m * X.hyper ≡ later (t + m * X.hyper) = omega arith in
        rw e
        (row_later (t + m * X.hyper) (omega arith)
        ∙ ap (map (moved_on periods 1)) (rows_repeat t l m)
        ∙ row_one_more periods m (row_at X need t))
