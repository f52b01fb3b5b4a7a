-- What a plan that fits says of its places: how many there are, where the sinks stand, and, in a state in step, which of them release.
use mathlib.Core.Path.{◌≡◌}
use Prim.Native.Nat.{ℕ, ◌+◌, ◌<◌}
use native.Mathlib.Omega.{arith}
use lib.Dec.{T, ltb, eqb, ltb→lt}
use lib.ListN.{length, get_or}
use Rattle.schedule.specs.Lists.{one?, any?}
use Rattle.schedule.specs.Servers.{srv, Box}
use Rattle.schedule.specs.ServerJobs.{released, released_before}
use Rattle.table.specs.declared.State.{State}
use Rattle.window.specs.declared.Plan.{Plan}
use Rattle.window.specs.Entries.{next_at, nodes_of}
use Rattle.window.proofs.Relation.{Fits, InStep}
use Rattle.window.proofs.Members.{each_member, entry_member}
use Rattle.window.proofs.Instants.{releases_now}

module _ (X : Box) (plan : Plan) (fits : Fits X plan) where
  pub nodes_are : nodes_of plan ≡ length X.servers
  nodes_are = omega (arith, fits.nodes, fits.small)

  pub sink_inside : (i : ℕ) → T (any? (eqb i) X.sinks) → i < length X.servers
  sink_inside i m =
      ltb→lt i (length X.servers) (each_member (λ (i : ℕ). ltb i (length X.servers)) X.sinks i m fits.sinks_in)

  pub sink_at : (g : ℕ) → g < length X.sinks → get_or X.sinks g 0 < length X.servers
  sink_at g h = sink_inside (get_or X.sinks g 0) (entry_member X.sinks g h)

  pub releases_are : (t : ℕ) (st : State) → InStep X t st → (i : ℕ) → i < length X.servers
      → released (srv X.servers i) t ≡ released_before (srv X.servers i) t + one? (eqb (next_at st i) t)
  releases_are t st now i h = releases_now (srv X.servers i) (fits.at i h).period_some t (next_at st i) (now.row i h).next
