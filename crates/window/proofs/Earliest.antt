-- The earliest of the next releases: in a state in step at t it is t where some server releases at t, and after t where none does; after the
-- releases of t it is after t and no later than each server's next release.
use mathlib.Core.Path.{◌≡◌}
use mathlib.Core.List.{List}
use Prim.Native.Nat.{ℕ, zero, suc, ◌≤◌, ◌<◌}
use native.Mathlib.Nat.{not-suc-le-zero}
use native.Mathlib.Omega.{arith}
use lib.ListN.{length, get_or}
use Rattle.schedule.specs.Servers.{srv, Box}
use Rattle.schedule.specs.ServerJobs.{release_of, released}
use Rattle.schedule.proofs.Tests.{by_lt}
use Rattle.table.specs.declared.State.{State}
use Rattle.window.specs.declared.Plan.{Plan}
use Rattle.window.specs.Entries.{last_key, next_at, nodes_of}
use Rattle.window.specs.Releasing.{earliest}
use Rattle.window.proofs.Relation.{last_instant, Fits, InStep, Released}
use Rattle.window.proofs.Instants.{release_from, release_after}
use Rattle.window.proofs.Places.{nodes_are}

earliest_le : (next : List ℕ) (n i : ℕ) → i < n → earliest next n ≤ get_or next i 0
unfolding earliest
earliest_le next zero i h = absurd (not-suc-le-zero h)
earliest_le next (suc n) i h =
    by_lt i n (λ l. omega (arith, earliest_le next n i l)) (λ l. let e : i ≡ n = omega arith in rw e (omega arith))

le_earliest : (next : List ℕ) (n t : ℕ) → t ≤ last_key → ((i : ℕ) → i < n → t ≤ get_or next i 0) → t ≤ earliest next n
unfolding earliest
le_earliest next zero t b h = b
le_earliest next (suc n) t b h = omega (arith, le_earliest next n t b (λ i l. h i (omega arith)), h n (omega arith))

module _ (X : Box) (plan : Plan) (fits : Fits X plan) (t : ℕ) (early : t ≤ last_instant) (st : State) where
  abbrev first : ℕ
  first = earliest st.next (nodes_of plan)

  earliest_each : (i : ℕ) → i < length X.servers → first ≤ next_at st i
  earliest_each i h = earliest_le st.next (nodes_of plan) i (omega (arith, nodes_are X plan fits))

  earliest_from : InStep X t st → t ≤ first
  earliest_from now =
      le_earliest st.next (nodes_of plan) t (omega arith)
      (λ i l.
      let h : i < length X.servers = omega (arith, nodes_are X plan fits) in
      omega (arith, (now.row i h).next, release_from (srv X.servers i) (fits.at i h).period_some t))

  -- a server that releases at t
  pub earliest_now : InStep X t st → (i : ℕ) → i < length X.servers → next_at st i ≡ t → t ≡ first
  earliest_now now i h e = omega (arith, earliest_each i h, earliest_from now)

  pub earliest_after : Released X t st → t < first
  earliest_after now =
      le_earliest st.next (nodes_of plan) (suc t) (omega arith)
      (λ i l.
      let h : i < length X.servers = omega (arith, nodes_are X plan fits) in
      omega (arith, (now.row i h).next, release_after (srv X.servers i) (fits.at i h).period_some t))

  pub earliest_release : Released X t st → (i : ℕ) → i < length X.servers
      → first ≤ release_of (srv X.servers i) (suc (released (srv X.servers i) t))
  earliest_release now i h = omega (arith, (now.row i h).next, earliest_each i h)
