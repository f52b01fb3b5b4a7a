-- Rule 1 in time: releases only grow in number, at most one at an instant; and h whole periods later there are h more of them, each as
-- much later, with its priority.
use mathlib.Core.Path.{◌≡◌, refl}
use mathlib.Core.Bool.{cond}
use Prim.Native.Nat.{ℕ, zero, suc, ◌+◌, ◌*◌, ◌-◌, ◌/◌, ◌≤◌, ◌<◌, zero-le}
use native.Mathlib.Nat.{le_refl, le_trans, not-suc-le-zero, add-mul, suc-mul, zero-mul, mul-le-mul_right, div-zero, zero-div, add-div_right}
use native.Mathlib.Nat.{div-mul-le_self, le-div_iff_mul-le, add-mul-div_right, div-eq_of_lt}
use native.Mathlib.Omega.{arith}
use borrow.Author.Tests.{lt-ltb, le-ltb}
use Rattle.schedule.specs.Servers.{Server}
use Rattle.schedule.specs.ServerJobs.{release_of, released, released_before, priority_of}
use Rattle.schedule.proofs.Tests.{by_lt}

div_mono : {a b : ℕ} (k : ℕ) → a ≤ b → a / k ≤ b / k
div_mono {a} {b} zero h = simp div-zero zero-le
div_mono {a} {b} (suc k) h = (le-div_iff_mul-le {k = suc k} (omega arith)).1 (le_trans (div-mul-le_self a (suc k)) h)

div_suc_le : (n k : ℕ) → suc n / k ≤ suc (n / k)
div_suc_le n zero = simp div-zero zero-le
div_suc_le n (suc k) =
    omega (arith, div_mono {a = suc n} {b = n + suc k} (suc k) (omega arith), add-div_right n {k = suc k} (omega arith))

module _ (s : Server) where
  released_grows : (t : ℕ) → released s t ≤ released s (suc t)
  unfolding released
  released_grows t =
      by_lt t s.offset (λ h. rw (lt-ltb t s.offset h, cond) zero-le)
      (λ h. rw (le-ltb t s.offset h, le-ltb (suc t) s.offset (omega arith))
      (omega (arith, div_mono {a = t - s.offset} {b = suc t - s.offset} s.period (omega arith))))

  pub released_before_le : (t : ℕ) → released_before s t ≤ released s t
  unfolding released_before
  released_before_le zero = zero-le
  released_before_le (suc t) = released_grows t

  released_one : (t : ℕ) → released s (suc t) ≤ suc (released s t)
  unfolding released
  released_one t =
      by_lt (suc t) s.offset (λ h. rw (lt-ltb (suc t) s.offset h) zero-le)
      (λ h. by_lt t s.offset
      (λ g. let e : suc t - s.offset ≡ 0 = omega arith in
      rw (lt-ltb t s.offset g, le-ltb (suc t) s.offset h, e, zero-div s.period) (le_refl 1))
      (λ g. let e : suc t - s.offset ≡ suc (t - s.offset) = omega arith in
      rw (le-ltb t s.offset g, le-ltb (suc t) s.offset h, e) (omega (arith, div_suc_le (t - s.offset) s.period))))

  -- at most one at an instant
  pub released_before_one : (t : ℕ) → released s t ≤ suc (released_before s t)
  unfolding released_before released
  released_before_one zero =
      by_lt 0 s.offset (λ h. rw (lt-ltb 0 s.offset h) zero-le)
      (λ h. let e : 0 - s.offset ≡ 0 = omega arith in rw (le-ltb 0 s.offset h, e, zero-div s.period) (le_refl 1))
  released_before_one (suc t) = released_one t

  pub released_before_early : (t : ℕ) → t ≤ s.offset → released_before s t ≡ 0
  unfolding released_before released
  released_before_early zero g = refl
  released_before_early (suc t) g = rw (lt-ltb t s.offset g)

  released_before_late : (t : ℕ) → s.offset < t → released_before s t ≡ (t - 1 - s.offset) / s.period + 1
  unfolding released_before released
  released_before_late zero g = absurd (not-suc-le-zero g)
  released_before_late (suc t) g = let e : suc t - 1 ≡ t = omega arith in rw (le-ltb t s.offset (omega arith), e)

  pub priority_grows : (j k : ℕ) → j ≤ k → priority_of s j ≤ priority_of s k
  unfolding priority_of release_of
  priority_grows j k h = let m : (j - 1) * s.period ≤ (k - 1) * s.period = mul-le-mul_right s.period (omega arith) in omega arith

-- H ticks are h whole periods
module _ (s : Server) (h H : ℕ) (whole : h * s.period ≡ H) (some : 0 < s.period) where
  pub release_shift : (k : ℕ) → 1 ≤ k → release_of s (k + h) ≡ release_of s k + H
  unfolding release_of
  release_shift k g = let e : k + h - 1 ≡ (k - 1) + h = omega arith in rw (e, add-mul (k - 1) h s.period) (omega arith)

  pub priority_shift : (k : ℕ) → 1 ≤ k → priority_of s (k + h) ≡ priority_of s k + H
  unfolding priority_of
  priority_shift k g = omega (arith, release_shift k g)

  pub released_shift : (t : ℕ) → s.offset ≤ t → released s (t + H) ≡ released s t + h
  unfolding released
  released_shift t g =
      let e : t + H - s.offset ≡ (t - s.offset) + h * s.period = omega arith in
      rw (le-ltb t s.offset g, le-ltb (t + H) s.offset (omega arith), e, add-mul-div_right (t - s.offset) h {z = s.period} some)
      (omega arith)

  pub released_before_shift : (t : ℕ) → s.offset ≤ t → 0 < H → released_before s (t + H) ≡ released_before s t + h
  released_before_shift t g z =
      by_lt s.offset t
      (λ l.
      let e : t + H - 1 - s.offset ≡ (t - 1 - s.offset) + h * s.period = omega arith in
      rw (released_before_late s t l, released_before_late s (t + H) (omega arith), e, add-mul-div_right (t - 1 - s.offset) h {z = s.period} some)
      (omega arith))
      (λ l. rw (released_before_early s t l, released_before_late s (t + H) (omega arith)) (first l h whole))
    where
      first : t ≤ s.offset → (h : ℕ) → h * s.period ≡ H → (t + H - 1 - s.offset) / s.period + 1 ≡ 0 + h
      first l zero e = absurd (let x : ⊥ = omega (arith, e, zero-mul s.period) in x)
      first l (suc n) e =
          let e' : t + H - 1 - s.offset ≡ (s.period - 1) + n * s.period = omega (arith, suc-mul n s.period) in
          rw (e', add-mul-div_right (s.period - 1) n {z = s.period} some, div-eq_of_lt {n = s.period - 1} {m = s.period} (omega arith))
          (omega arith)
