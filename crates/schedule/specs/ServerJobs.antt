-- Rules 1, 4, 5 and 6 of the schedule: which server jobs run in which tick. Nothing here knows of jobs or of what they need.
-- A server is its place i in the list S, from 0; its server jobs are numbered from 1.
use Rattle.std.specs.Prelude.{Bool, ◌&&◌, ◌||◌, cond, List, [], ◌∷◌, ℕ, zero, suc, ◌+◌, ◌*◌, ◌-◌, ◌/◌, leb, ltb, eqb, length}
use Rattle.schedule.specs.Lists.{one?, count, keep, joined, cell, written}
use Rattle.schedule.specs.Servers.{Server, srv}

-- a server job: its server's place, and its number
pub record ServerJob : Type 0 where
  pub server : ℕ
  pub number : ℕ

-- rule 1: invocation k of a graph, and server job k of each of its nodes, is released at offset + (k - 1) × period
unfoldable pub release_of : Server → ℕ → ℕ
release_of s k = s.offset + (k - 1) * s.period

-- how many are released at or before t, and before t
unfoldable pub released : Server → ℕ → ℕ
released s t = cond (ltb t s.offset) 0 ((t - s.offset) / s.period + 1)

unfoldable pub released_before : Server → ℕ → ℕ
released_before s zero = 0
released_before s (suc t) = released s t

-- what server jobs are ordered by: release plus point. Where the point is the period this is rule 1's deadline, offset + k × period
unfoldable pub priority_of : Server → ℕ → ℕ
priority_of s k = release_of s k + s.point

-- n server jobs of server i, from number k
abbrev pub jobs_from : ℕ → ℕ → ℕ → List ServerJob
jobs_from i k zero = []
jobs_from i k (suc n) = record { server = i; number = k } ∷ jobs_from i (suc k) n

module _ (S : List Server) where
  -- rule 5's order: by deadline, then by graph number and node number, which is the order of places
  unfoldable pub before : ServerJob → ServerJob → Bool
  before x y =
      ltb (priority_of (srv S x.server) x.number) (priority_of (srv S y.server) y.number)
      || (eqb (priority_of (srv S x.server) x.number) (priority_of (srv S y.server) y.number) && ltb x.server y.server)

  -- at instant t, after its releases, where σ has the ticks that each server job has used before t
  module _ (σ : List (List ℕ)) (t : ℕ) where
    -- rule 4: complete once its budget is used up; pending from its release until then
    unfoldable pub complete : ℕ → ℕ → Bool
    complete i k = leb (srv S i).budget (cell σ i k)

    unfoldable pub pending : ℕ → ℕ → Bool
    pending i k = leb 1 k && (leb k (released (srv S i) t) && ltb (cell σ i k) (srv S i).budget)

    -- rule 4: ready if pending, and the server job `level` places before it is complete or does not exist
    unfoldable pub ready : ServerJob → Bool
    ready x =
        pending x.server x.number
        && (leb x.number (srv S x.server).level || complete x.server (x.number - (srv S x.server).level))

    unfoldable pub ready_jobs : List ServerJob
    ready_jobs = keep ready (joined (λ (i : ℕ). jobs_from i 1 (released (srv S i) t)) 0 (length S))

    -- how many ready server jobs stand before x
    unfoldable pub rank : ServerJob → ℕ
    rank x = count (λ (y : ServerJob). before y x) ready_jobs

    -- rule 5: with p processors x runs if it is among the first p that are ready
    unfoldable pub runs : ℕ → ServerJob → Bool
    runs p x = ready x && ltb (rank x) p

-- the servers, and how many processors the tick that starts at t has
module _ (S : List Server) (cap : ℕ → ℕ) where
  -- rule 6: a server job that runs in the tick at t uses one tick of budget, linked or not
  unfoldable pub tick : ℕ → List (List ℕ) → List (List ℕ)
  tick t σ =
      written (length S) (λ (i : ℕ). released (srv S i) t)
      (λ (i k : ℕ). cell σ i k + one? (runs S σ t (cap t) (record { server = i; number = k })))

  -- the ticks used before t: a row for each server, an entry for each of its server jobs released before t
  unfoldable pub used : ℕ → List (List ℕ)
  used zero = []
  used (suc t) = tick t (used t)
