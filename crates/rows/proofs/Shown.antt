-- The row that `row_of` computes from a walk's windows is the row of the rules: `row_shown`.
use mathlib.Core.Path.{◌≡◌, sym, ap, ◌∙◌}
use mathlib.Core.Bool.{Bool, ◌&&◌}
use mathlib.Core.List.{List, [], ◌∷◌}
use Prim.Native.Nat.{ℕ, suc, ◌+◌, ◌*◌, ◌-◌, ◌/◌, ◌%◌, ◌≤◌, ◌<◌}
use native.Mathlib.Nat.{mul-div_cancel}
use native.Mathlib.Omega.{arith}
use lib.Dec.{T, eqb, eqb→eq}
use lib.ListN.{length, get_or}
use borrow.Author.Tests.{lt-ltb, le-ltb}
use Rattle.table.specs.declared.Pending.{Pending}
use Rattle.schedule.specs.Lists.{keep, joined}
use Rattle.schedule.specs.Servers.{Server, srv, Box, whole}
use Rattle.schedule.specs.ServerJobs.{ServerJob, jobs_from, release_of, released, released_before, priority_of, ready_jobs, used}
use Rattle.schedule.specs.Walk.{running_at, row_at}
use Rattle.schedule.proofs.Tests.{by_lt, and_l, and_r, and_i, eq→eqb}
use Rattle.theorems.proofs.Counts.{server_job}
use Rattle.theorems.proofs.Ready as Ready
use Rattle.theorems.proofs.Ready.{ready_is}
use Rattle.theorems.proofs.InTurn.{completed}
use Rattle.theorems.proofs.Linking.{link_of}
use Rattle.theorems.proofs.Finishing.{link_le}
use Rattle.std.specs.Prelude.{unwrap_or}
use Rattle.table.specs.declared.State.{State}
use Rattle.window.specs.declared.Plan.{Plan}
use Rattle.window.specs.Entries.{places, window, slot_of, server_at, count_at, lead_at}
use Rattle.window.specs.Choosing.{Picks, chosen}
use Rattle.window.specs.Walking.{seen_of}
use Rattle.window.proofs.Relation.{last_instant, Fits, Slot, Released}
use Rattle.window.proofs.Keys.{slot_job, slot_key}
use Rattle.window.proofs.Ranks.{ready_at, rank_at}
use Rattle.window.proofs.Chosen.{ChosenAt, ChosenIs, chosen_is}
use Rattle.writing.specs.Row.{running_of, running_in}
use Rattle.rows.specs.Showing.{number_of, invocation_of, run_of, entry_of, row_of}
use Rattle.rows.proofs.Lists.{joined_cut, joined_one, map_joined, keep_joined, keep_keep, keep_neither, jobs_none, jobs_one}
use Rattle.rows.proofs.Entries.{row_lines}

-- the number of a server job, from its key
number_is : (s : Server) (i k lead : ℕ) → 1 ≤ k → 0 < s.period → lead ≡ s.point * places + i
    → number_of (priority_of s k * places + i) lead s.offset s.period ≡ k
unfolding priority_of release_of
number_is s i k lead h p e =
    let r : priority_of s k * places + i - lead ≡ (s.offset + (k - 1) * s.period) * places = omega arith in
    let d : (s.offset + (k - 1) * s.period) * places / places - s.offset ≡ (k - 1) * s.period = omega arith in
    rw (r, d, mul-div_cancel (k - 1) {n = s.period} p) (omega arith)

-- the job linked to server job k, from its slot
invocation_is : (L : ℕ → ℕ) (k : ℕ) (p : Pending) → Slot L k p → L k ≤ k → invocation_of p k ≡ L k
invocation_is L k p s h =
    by_lt 0 (L k)
    (λ l.
    let e = lt-ltb 0 (L k) l in
    let b : unwrap_or p.behind 0 ≡ k - L k = s.behind ∙ rw e in
    rw (s.linked, e, b) (omega arith))
    (λ l. let e = le-ltb 0 (L k) l in rw (s.linked, e) (omega arith))

module _ (X : Box) (plan : Plan) (offsets : List ℕ) (st : State) (fits : Fits X plan)
    (offsets_fit : (i : ℕ) → i < length X.servers → get_or offsets i 0 ≡ (srv X.servers i).offset) (t : ℕ) (rel : Released X t st)
    (near : t ≤ last_instant) where
  abbrev S : List Server
  S = X.servers

  abbrev c : Picks
  c = chosen plan st

  is : ChosenIs X plan t st
  is = chosen_is X plan t st fits rel near

  -- entry r has the line of the server job of rank r
  module _ (r : ℕ) (e : ChosenAt X plan t st r) where
    abbrev i : ℕ
    i = e.place

    abbrev k : ℕ
    k = completed S X.cap t i + 1 + e.slot

    here : e.slot < count_at st i
    here = omega (arith, e.within)

    place : slot_key X t i e.slot % places ≡ i
    place = omega (arith, e.inside, fits.small)

    slot : (i * window + e.slot) % window ≡ e.slot
    slot = omega (arith, here, (rel.row i e.inside).room)

    number : number_of (slot_key X t i e.slot) (lead_at plan i) (srv S i).offset (srv S i).period ≡ k
    number = let P = fits.at i e.inside in number_is (srv S i) i k (lead_at plan i) (omega arith) P.period_some P.lead

    invocation : invocation_of (slot_of (server_at st i) e.slot) k ≡ link_of S X.cap (whole S) (suc t) i k
    unfolding released_before
    invocation =
        let row = rel.row i e.inside in
        invocation_is (link_of S X.cap (whole S) (suc t) i) k (slot_of (server_at st i) e.slot) (row.slots e.slot here)
        (link_le S X.cap (whole S) (suc t) i k (omega arith) (omega (arith, here, row.count)))

    line : running_of (entry_of plan offsets (seen_of st) r) ≡ running_at X (whole S) t (slot_job X t i e.slot)
    unfolding run_of running_at
    line =
        let P = fits.at i e.inside in
        rw (e.run, e.at, place, slot, P.graph, P.node, P.period, offsets_fit i e.inside, number, invocation)

  of_rank : ℕ → List ServerJob
  of_rank r = keep (λ (x : ServerJob). eqb (rank_at X t x) r) (ready_jobs S (used S X.cap t) t)

  -- the one of rank r
  one_of_rank : (r : ℕ) (e : ChosenAt X plan t st r) → of_rank r ≡ slot_job X t e.place e.slot ∷ []
  unfolding of_rank ready_jobs
  one_of_rank r e =
      keep_keep of_rank_lem (ready_at X t) all
      ∙ keep_joined both jobs 0 (length S)
      ∙ joined_one (λ (i : ℕ). keep both (jobs i)) e.place 0 (length S) (omega arith) (omega (arith, e.inside))
      (λ i z. jobs_none both i 1 (released (srv S i) t) (λ k u s. z (same i k s).0))
      ∙ jobs_one both e.place n 1 (released (srv S e.place) t) pends.from (omega (arith, pends.to)) passes (λ k s. (same e.place k s).1)
    where
      jobs : ℕ → List ServerJob
      jobs i = jobs_from i 1 (released (srv S i) t)

      all : List ServerJob
      all = joined jobs 0 (length S)

      of_rank_lem : ServerJob → Bool
      of_rank_lem x = eqb (rank_at X t x) r

      both : ServerJob → Bool
      both x = ready_at X t x && eqb (rank_at X t x) r

      n : ℕ
      n = completed S X.cap t e.place + 1 + e.slot

      pends : Ready.Pending S (used S X.cap t) t e.place n
      pends = (ready_is S (used S X.cap t) t e.place n e.ready_slot).pends

      passes : T (both (server_job e.place n))
      passes =
          and_i (ready_at X t (server_job e.place n)) (eqb (rank_at X t (server_job e.place n)) r) e.ready_slot
          (eq→eqb (rank_at X t (server_job e.place n)) r e.ranked)

      same : (i k : ℕ) → T (both (server_job i k)) → (i ≡ e.place) × (k ≡ n)
      same i k s =
          let x = server_job i k in
          is.one_rank x (server_job e.place n) (and_l (ready_at X t x) (eqb (rank_at X t x) r) s) e.ready_slot
          (eqb→eq (rank_at X t x) r (and_r (ready_at X t x) (eqb (rank_at X t x) r) s) ∙ sym e.ranked)

  none_of_rank : (r : ℕ) → c.count ≤ r → r < plan.processors → of_rank r ≡ []
  unfolding of_rank ready_jobs
  none_of_rank r h l =
      keep_neither (λ (x : ServerJob). eqb (rank_at X t x) r) (ready_at X t)
      (λ x s z. let q = eqb→eq (rank_at X t x) r z in omega (arith, is.among x s (omega arith)))
      (joined (λ (i : ℕ). jobs_from i 1 (released (srv S i) t)) 0 (length S))

  pub row_shown : running_in (row_of plan offsets (seen_of st)) ≡ row_at X (whole S) t
  unfolding row_at of_rank
  row_shown =
      row_lines plan offsets (seen_of st) fits.processors_most
      ∙ sym
      (rw (fits.cap t, joined_cut of_rank c.count plan.processors is.most none_of_rank)
      (map_joined (running_at X (whole S) t) of_rank (λ (r : ℕ). running_of (entry_of plan offsets (seen_of st) r) ∷ []) 0 c.count
      (λ r u v.
      let e = is.entry r (omega arith) in
      rw (one_of_rank r e) (ap (λ x. x ∷ []) (sym (line r e))))))
