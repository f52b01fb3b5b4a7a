-- The answer is unique: at most one instant is the first at which the walk stops, and it stops there in one way.
use mathlib.Core.Path.{◌≡◌}
use mathlib.Core.Option.{none, some}
use Prim.Native.Nat.{ℕ, ◌<◌}
use native.Mathlib.Decide.{dec_lt}
use native.Mathlib.Omega.{arith}
use Rattle.schedule.specs.Servers.{Box}
use Rattle.schedule.specs.Walk.{Stop, stop_at}

-- the walk stops at t as `how` says, and at no instant before
pub record FirstStop (X : Box) (need : ℕ → ℕ → ℕ) (how : Stop) (t : ℕ) : Type 0 where
  pub stops : stop_at X need t ≡ some how
  pub not_before : (u : ℕ) → u < t → stop_at X need u ≡ none

module _ (X : Box) (need : ℕ → ℕ → ℕ) where
  stops_once : (a b : Stop) (t u : ℕ) → FirstStop X need a t → FirstStop X need b u → t < u → ⊥
  stops_once a b t u p q h = let e = p.stops in let f = q.not_before t h in let z : ◌≡◌ {A = ℕ} 0 1 = cc in omega arith

  pub first_stop_instant : (a b : Stop) (t u : ℕ) → FirstStop X need a t → FirstStop X need b u → t ≡ u
  first_stop_instant a b t u p q = by (dec_lt t u) (dec_lt u t)
    where
      by : Dec (t < u) → Dec (u < t) → t ≡ u
      by (yes h) d = absurd (stops_once a b t u p q h)
      by (no g) (yes h) = absurd (stops_once b a u t q p h)
      by (no g) (no h) = omega arith

  pub first_stop_is_unique : (a b : Stop) (t u : ℕ) → FirstStop X need a t → FirstStop X need b u → (t ≡ u) × (a ≡ b)
  first_stop_is_unique a b t u p q =
      let e : t ≡ u = first_stop_instant a b t u p q in
      let f : stop_at X need t ≡ some a = p.stops in
      let g : stop_at X need t ≡ some b = rw e q.stops in
      (e, cc)
