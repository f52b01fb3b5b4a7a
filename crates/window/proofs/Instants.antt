-- Rule 1 turned around: server job k is released at or before t exactly where its release lies there. So where a server's next release lies,
-- whether there is one at t, and what it says of the phase.
use mathlib.Core.Path.{◌≡◌}
use mathlib.Core.Bool.{cond}
use Prim.Native.Nat.{ℕ, zero, suc, ◌+◌, ◌*◌, ◌-◌, ◌/◌, ◌%◌, ◌≤◌, ◌<◌}
use native.Mathlib.Nat.{suc-mul, zero-mul, mul-mod_left, add-mul-mod_self_right, mod-eq_of_lt, le-div_iff_mul-le}
use native.Mathlib.Omega.{arith}
use lib.Dec.{eqb}
use borrow.Author.Tests.{lt-ltb, le-ltb, eq-eqb, ne_eqb}
use Rattle.schedule.specs.Lists.{one?}
use Rattle.schedule.specs.Servers.{Server}
use Rattle.schedule.specs.ServerJobs.{release_of, released, released_before, priority_of}
use Rattle.schedule.proofs.Tests.{by_lt}
use Rattle.theorems.proofs.Releases.{released_before_le, released_before_one}

module _ (s : Server) where
  pub release_next : (n : ℕ) → release_of s (suc n) ≡ s.offset + n * s.period
  unfolding release_of
  release_next n = let e : suc n - 1 ≡ n = omega arith in rw e

  pub next_release : (k : ℕ) → 1 ≤ k → release_of s (suc k) ≡ release_of s k + s.period
  unfolding release_of
  next_release k h =
      let e : suc k - 1 ≡ suc (k - 1) = omega arith in rw (e, suc-mul (k - 1) s.period) (omega arith)

  pub next_priority : (k : ℕ) → 1 ≤ k → priority_of s (suc k) ≡ priority_of s k + s.period
  unfolding priority_of
  next_priority k h = omega (arith, next_release k h)

module _ (s : Server) (some : 0 < s.period) where
  pub released_by_lem : (t k : ℕ) → 1 ≤ k → k ≤ released s t → release_of s k ≤ t
  unfolding released release_of
  released_by_lem t k a b =
      by_lt t s.offset (λ l. let z : k ≤ 0 = rw (lt-ltb t s.offset l) at b in absurd (let x : ⊥ = omega arith in x))
      (λ l.
      let q : k ≤ (t - s.offset) / s.period + 1 = rw (le-ltb t s.offset l) at b in
      let m : (k - 1) * s.period ≤ t - s.offset = (le-div_iff_mul-le {k = s.period} some).0 (omega arith) in
      omega arith)

  by_released : (t k : ℕ) → 1 ≤ k → release_of s k ≤ t → k ≤ released s t
  unfolding released release_of
  by_released t k a b =
      let m : k - 1 ≤ (t - s.offset) / s.period = (le-div_iff_mul-le {k = s.period} some).1 (omega arith) in
      rw (le-ltb t s.offset (omega arith)) (omega arith)

  before_released : (t k : ℕ) → 1 ≤ k → k ≤ released_before s t → release_of s k < t
  unfolding released_before
  before_released zero k a h = absurd (let x : ⊥ = omega arith in x)
  before_released (suc t) k a h = omega (arith, released_by_lem t k a h)

  -- the next release lies after t; of those that are not before t it lies at t or after it
  pub release_after : (t : ℕ) → t < release_of s (suc (released s t))
  release_after t =
      let k = suc (released s t) in
      by_lt t (release_of s k) (λ l. l) (λ l. absurd (let x : ⊥ = omega (arith, by_released t k (omega arith) l) in x))

  pub release_from : (t : ℕ) → t ≤ release_of s (suc (released_before s t))
  unfolding released_before
  release_from zero = omega arith
  release_from (suc t) = release_after t

  -- `next` is the next release of those that are not before t
  module _ (t next : ℕ) (is : next ≡ release_of s (suc (released_before s t))) where
    pub releases_now : released s t ≡ released_before s t + one? (eqb next t)
    releases_now =
        let n = released_before s t in
        by_lt t next
        (λ l. rw (ne_eqb next t (λ e. omega arith))
        (by_lt n (released s t) (λ g. absurd (let x : ⊥ = omega (arith, released_by_lem t (suc n) (omega arith) g) in x))
        (λ g. omega (arith, released_before_le s t))))
        (λ l. rw (eq-eqb next t (omega (arith, release_from t)))
        (omega (arith, by_released t (suc n) (omega arith) (omega arith), released_before_one s t)))

    module _ (late : s.offset ≤ t) where
      pub next_near : next < t + s.period
      next_near = go (released_before s t) is (before_released t)
        where
          go : (n : ℕ) → next ≡ release_of s (suc n) → ((k : ℕ) → 1 ≤ k → k ≤ n → release_of s k < t) → next < t + s.period
          go zero e h = omega (arith, release_next s 0, zero-mul s.period)
          go (suc n) e h =
              omega (arith, release_next s n, release_next s (suc n), suc-mul n s.period, h (suc n) (omega arith) (omega arith))

      -- the phase and the ticks until the next release make a period, or nothing
      pub phase_until : (until : ℕ) → t + until ≡ next → (t - s.offset) % s.period + until ≡ cond (eqb until 0) 0 s.period
      phase_until until u =
          by_lt 0 until (λ l. rw (ne_eqb until 0 (λ e. omega arith)) (waiting l (released_before s t) is))
          (λ l.
          let z : t - s.offset ≡ released_before s t * s.period = omega (arith, release_next s (released_before s t)) in
          rw (eq-eqb until 0 (omega arith), z, mul-mod_left (released_before s t) s.period) (omega arith))
        where
          waiting : 0 < until → (n : ℕ) → next ≡ release_of s (suc n) → (t - s.offset) % s.period + until ≡ s.period
          waiting l zero e = absurd (let x : ⊥ = omega (arith, release_next s 0, zero-mul s.period) in x)
          waiting l (suc n) e =
              let below = next_near in
              let z : t - s.offset ≡ (s.period - until) + n * s.period = omega (arith, release_next s (suc n), suc-mul n s.period) in
              rw (z, add-mul-mod_self_right (s.period - until) n s.period, mod-eq_of_lt {n = s.period - until} {m = s.period} (omega arith))
              (omega arith)
