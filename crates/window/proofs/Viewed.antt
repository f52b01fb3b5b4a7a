-- The rules' state is a plain reading of the windows: each node's state at t is what its window shows.
use mathlib.Core.Path.{◌≡◌, refl, sym, ◌∙◌}
use mathlib.Core.Bool.{cond}
use mathlib.Core.Option.{none, some}
use mathlib.Core.List.{List}
use Prim.Native.Nat.{ℕ, zero, suc, ◌+◌, ◌-◌, ◌<◌}
use native.Mathlib.Omega.{arith}
use lib.ListN.{length}
use borrow.Author.Tests.{lt-ltb, le-ltb, eq-eqb, ne_eqb}
use Rattle.table.specs.declared.Pending.{Pending}
use Rattle.schedule.specs.Lists.{tab}
use Rattle.schedule.specs.Servers.{Server, srv, Box, whole}
use Rattle.schedule.specs.ServerJobs.{released_before, used}
use Rattle.schedule.specs.Links.{links}
use Rattle.schedule.specs.State.{PendingJob, NodeState, behind_of, pending_job, node_state}
use Rattle.schedule.proofs.Tests.{by_lt}
use Rattle.theorems.proofs.InTurn.{used_by, completed}
use Rattle.theorems.proofs.Linking.{link_of}
use Rattle.theorems.proofs.StateRows.{row_of, row_is}
use Rattle.theorems.proofs.Window.{node_at}
use Rattle.std.specs.Prelude.{is_some, unwrap_or}
use Rattle.table.specs.declared.State.{State}
use Rattle.window.specs.Entries.{slot_of, server_at, count_at, unfinished_at, unlinked_at, left_at}
use Rattle.window.proofs.Relation.{Slot, InStep}
use Rattle.window.proofs.Counted.{unfinished_is, unlinked_is}

-- a slot with its budget left, and a window, as the rules list them
abbrev pub seen : ℕ → Pending → PendingJob
seen left p = record { left = left; behind = cond (is_some p.behind) (some (unwrap_or p.behind 0)) none }

abbrev pub seen_at : State → ℕ → ℕ → PendingJob
seen_at st i d = seen (left_at st i d) (slot_of (server_at st i) d)

abbrev pub viewed : State → ℕ → NodeState
viewed st i =
    record {
      unfinished = unfinished_at st i;
      unlinked = unlinked_at st i;
      pending = tab (seen_at st i) 0 (count_at st i);
    }

-- two written lists whose entries are the same, one by one
tab_same : {B : Type 0} (f g : ℕ → B) (a b n : ℕ) → ((d : ℕ) → d < n → f (a + d) ≡ g (b + d)) → tab f a n ≡ tab g b n
tab_same f g a b zero h = refl
tab_same f g a b (suc n) h =
    let e : a + 0 ≡ a = omega arith in
    let e' : b + 0 ≡ b = omega arith in
    let first : f a ≡ g b = rw (e, e') at (h 0 (omega arith)) in
    let later : (d : ℕ) → d < n → f (suc a + d) ≡ g (suc b + d) =
    λ d l.
    let q : suc a + d ≡ a + suc d = omega arith in
    let q' : suc b + d ≡ b + suc d = omega arith in
    rw (q, q') (h (suc d) (omega arith)) in
    rw (first, tab_same f g (suc a) (suc b) n later)

module _ (X : Box) (t : ℕ) (st : State) (now : InStep X t st) (i : ℕ) (h : i < length X.servers) where
  abbrev S : List Server
  S = X.servers

  abbrev L : ℕ → ℕ
  L = link_of S X.cap (whole S) t i

  abbrev job_at : ℕ → PendingJob
  job_at k = pending_job S (whole S) (used S X.cap t) (links S X.cap (whole S) t) t i k

  behind_seen : (k : ℕ) (p : Pending) → Slot L k p
      → behind_of S (whole S) (used S X.cap t) (links S X.cap (whole S) t) t i k ≡ cond (is_some p.behind) (some (unwrap_or p.behind 0)) none
  unfolding behind_of
  behind_seen k p q =
      by_lt 0 (L k) (λ l. rw (ne_eqb (L k) 0 (λ e. omega arith), q.linked, q.behind, lt-ltb 0 (L k) l))
      (λ l. rw (eq-eqb (L k) 0 (omega arith), q.linked, le-ltb 0 (L k) l))

  job_seen : (d : ℕ) → d < count_at st i → job_at (completed S X.cap t i + 1 + d) ≡ seen_at st i d
  unfolding pending_job
  job_seen d l =
      let r = now.row i h in
      let k = completed S X.cap t i + 1 + d in
      let left : (srv S i).budget - used_by S X.cap t i k ≡ left_at st i d = omega (arith, r.left d l) in
      let behind = behind_seen k (slot_of (server_at st i) d) (r.slots d l) in
      λ x. record { left = left x; behind = behind x }

  pending_seen : row_of S X.cap (whole S) t i ≡ tab (seen_at st i) 0 (count_at st i)
  pending_seen =
      let c = completed S X.cap t i in
      let e : released_before (srv S i) t - c ≡ count_at st i = omega (arith, (now.row i h).count) in
      row_is S X.cap (whole S) t i
      ∙ rw e
      (tab_same job_at (seen_at st i) (suc c) 0 (count_at st i)
      (λ d l. let q : suc c + d ≡ c + 1 + d = omega arith in let q' : 0 + d ≡ d = omega arith in rw (q, q') (job_seen d l)))

  pub node_viewed : node_at S X.cap (whole S) t i ≡ viewed st i
  unfolding node_state
  node_viewed =
      let a = sym (unfinished_is X t st now i h) in
      let b = sym (unlinked_is X t st now i h) in
      let c = pending_seen in
      λ x. record { unfinished = a x; unlinked = b x; pending = c x }
