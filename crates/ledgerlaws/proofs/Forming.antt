-- The state formed at an instant is document 01's, entry by entry.
use mathlib.Core.Path.{◌≡◌, refl, sym, ap, subst, ◌∙◌}
use mathlib.Core.Bool.{Bool, true, false, cond}
use mathlib.Core.List.{List}
use mathlib.Core.Option.{Option, none, some}
use Prim.Native.Nat.{ℕ, suc, ◌+◌, ◌*◌, ◌-◌, ◌^◌, ◌≤◌, ◌<◌}
use native.Mathlib.Omega.{arith}
use lib.Dec.{eqb}
use lib.ListN.{length, get_or, length-replicate}
use borrow.Author.Tests.{ne_eqb}
use Rattle.schedule.specs.Servers.{Server, srv, Box, whole}
use Rattle.schedule.specs.ServerJobs.{released_before, used}
use Rattle.schedule.specs.Links.{links, finished_by}
use Rattle.schedule.specs.State as Rules
use Rattle.schedule.specs.Walk.{figure}
use Rattle.schedule.specs.State.{PendingJob, NodeState, finished_count, pending_job, node_state, phase, state}
use Rattle.theorems.proofs.InTurn.{used_by, completed}
use Rattle.theorems.proofs.Linking.{link_of, linked_count_lem}
use Rattle.theorems.proofs.Window.{node_at}
use Rattle.window.specs.declared.Plan.{Plan}
use Rattle.window.specs.Entries.{places, further, period_at}
use Rattle.window.specs.Loops.{replaced}
use Rattle.window.proofs.Relation.{last_instant}
use Rattle.window.proofs.Loops.{replaced_in}
use Rattle.window.proofs.Counted.{finished_count_lem}
use Rattle.window.proofs.Places.{nodes_are}
use Rattle.ledger.specs.declared.Ledger.{Ledger}
use Rattle.ledger.specs.declared.Formed.{Formed}
use Rattle.ledger.specs.Entries.{room, slots, slot_at, offset_at, released_at, complete_at, linked_at, finished_at}
use Rattle.ledger.specs.Forming.{phase_of, job_at, zeros, count_at, left_of, behind_at, shown, form_to, form}
use Rattle.ledgerlaws.proofs.Changed.{blocks_at}
use Rattle.ledgerlaws.proofs.Relation.{Laid, Row, InStep}
use Rattle.ledgerlaws.proofs.Releasing.{few_released}

-- by how many numbers a job lies behind, as a number: 0 for none
abbrev pub code : Option ℕ → ℕ
code none = 0
code (some x) = suc x

module _ (X : Box) where
  abbrev pub S : List Server
  S = X.servers

  abbrev pub σ : ℕ → List (List ℕ)
  σ t = used S X.cap t

  abbrev pub ls : ℕ → List (List ℕ)
  ls t = links S X.cap (whole S) t

  abbrev pub phase_at : ℕ → ℕ → ℕ
  phase_at t i = phase S (whole S) (σ t) (ls t) t i

  abbrev pub job : ℕ → ℕ → ℕ → PendingJob
  job t i k = pending_job S (whole S) (σ t) (ls t) t i k

  abbrev pub node : ℕ → ℕ → NodeState
  node t i = node_at S X.cap (whole S) t i

  abbrev pub first : ℕ → ℕ → ℕ
  first t i = suc (completed S X.cap t i)

  abbrev pub pendings : ℕ → ℕ → ℕ
  pendings t i = released_before (srv S i) t - completed S X.cap t i

  -- what is formed at place i is what the rules list of node i at t
  pub record ShowsAt (t i : ℕ) (f : Formed) : Type 0 where
    pub phase : get_or f.phase i 0 ≡ phase_at t i
    pub unfinished : get_or f.unfinished i 0 ≡ (node t i).unfinished
    pub unlinked : get_or f.unlinked i 0 ≡ (node t i).unlinked
    pub pending : get_or f.pending i 0 ≡ pendings t i
    pub few : pendings t i ≤ room
    pub left : (d : ℕ) → d < pendings t i → get_or f.left (i * room + d) 0 ≡ (job t i (first t i + d)).left
    pub behind : (d : ℕ) → d < pendings t i → get_or f.behind (i * room + d) 0 ≡ code (job t i (first t i + d)).behind

  abbrev pub Shows : ℕ → Formed → Type 0
  Shows t f = (i : ℕ) → i < length S → ShowsAt t i f

module _ (X : Box) (plan : Plan) (offsets : List ℕ) (laid : Laid X plan offsets) (t : ℕ) (l : Ledger) (now : InStep X t l) (early : t ≤ last_instant) where
  abbrev n : ℕ
  n = length X.servers

  abbrev f : ℕ → Formed
  f m = form_to plan offsets l t m

  module _ (i : ℕ) (h : i < n) where
    abbrev s : Server
    s = srv X.servers i

    abbrev N : ℕ
    N = released_before s t

    abbrev c : ℕ
    c = completed X.servers X.cap t i

    abbrev r : Row i (used_by X.servers X.cap t i) (link_of X.servers X.cap (whole X.servers) t i) N c (figure X (whole X.servers) i t) l
    r = now.row i h

    inside : n ≤ length (zeros places)
    inside = omega (arith, laid.fits.small, length-replicate {A = ℕ} places 0)

    written : (g : ℕ → ℕ) → get_or (replaced g (zeros places) n) i 0 ≡ g i
    written g = replaced_in g (zeros places) n i 0 h inside

    shown_is : shown plan offsets l t i ≡ N - c
    shown_is = omega (arith, r.released, r.complete, now.few i h)

    job_is : (d : ℕ) → d < N - c → job_at (complete_at l i) d ≡ suc c + d
    job_is d g = omega (arith, r.complete, few_released s t)

    formed_phase : phase_of t (offset_at offsets i) (period_at plan i) ≡ phase_at X t i
    unfolding phase
    formed_phase =
        rw (laid.offset i h, (laid.fits.at i h).period, ne_eqb s.period 0 (λ e. let z = (laid.fits.at i h).period_some in omega arith))

    formed_left : (d : ℕ) → d < N - c → left_of plan offsets l t i d ≡ (job X t i (suc c + d)).left
    unfolding pending_job
    formed_left d g =
        let u : get_or l.used (slot_at i (job_at (complete_at l i) d)) 0 ≡ used_by X.servers X.cap t i (suc c + d) =
        ap (λ (q : ℕ). get_or l.used (slot_at i q) 0) (job_is d g) ∙ r.used (suc c + d) (omega arith) (omega arith) in
        rw (u, (laid.fits.at i h).budget)

    formed_behind : (d : ℕ) → d < N - c → behind_at plan offsets l t i d ≡ code (job X t i (suc c + d)).behind
    unfolding pending_job Rules.behind_of
    formed_behind d g =
        let k : ℕ = suc c + d in
        let j : ℕ = link_of X.servers X.cap (whole X.servers) t i k in
        let u : get_or l.link (slot_at i (job_at (complete_at l i) d)) 0 ≡ j =
        ap (λ (q : ℕ). get_or l.link (slot_at i q) 0) (job_is d g) ∙ r.link k (omega arith) (omega arith) in
        let small : k < 2 ^ 32 - 1 = omega (arith, few_released s t) in
        rw (u, job_is d g) (go (eqb j 0) k j small)
      where
        go : (b : Bool) (k j : ℕ) → k < 2 ^ 32 - 1 → cond b 0 (further (k - j) 1) ≡ code (cond b none (some (k - j)))
        go true k j l = refl
        go false k j l = omega arith

    shows : ShowsAt X t i (f n)
    unfolding node_state finished_count finished_by
    shows =
        record {
          phase = written (λ (i : ℕ). phase_of t (offset_at offsets i) (period_at plan i)) ∙ formed_phase;
          unfinished = written (λ (i : ℕ). released_at l i - finished_at l i) ∙ omega (arith, r.released, r.finished, finished_count_lem X.servers X.cap t i);
          unlinked =
              written (λ (i : ℕ). released_at l i - linked_at l i)
              ∙ omega (arith, r.released, r.linked, linked_count_lem X.servers X.cap (whole X.servers) t i);
          pending = written (count_at plan offsets l t) ∙ omega (arith, r.released, r.complete);
          few = omega (arith, now.few i h);
          left = λ d g.
              blocks_at (left_of plan offsets l t) (shown plan offsets l t) (zeros slots) (λ j. omega arith) n i d h (omega (arith, laid.fits.small))
              (omega (arith, shown_is)) (length-replicate {A = ℕ} slots 0) ∙ formed_left d g;
          behind = λ d g.
              blocks_at (behind_at plan offsets l t) (shown plan offsets l t) (zeros slots) (λ j. omega arith) n i d h (omega (arith, laid.fits.small))
              (omega (arith, shown_is)) (length-replicate {A = ℕ} slots 0) ∙ formed_behind d g;
        }

  pub form_shows : Shows X t (form plan offsets l t)
  unfolding form
  form_shows = subst (λ (m : ℕ). Shows X t (f m)) (sym (nodes_are X plan laid.fits)) shows
