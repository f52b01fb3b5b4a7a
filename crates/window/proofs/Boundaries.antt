-- Where the boundaries lie: with `next` the first boundary at or after t, and `round` its number, t is a boundary after the first exactly
-- when it is `next` and `round` is not 0; and it is the last one exactly when it is `next` and `round` is `rounds`.
use mathlib.Core.Path.{◌≡◌, refl, ◌∙◌}
use mathlib.Core.Bool.{true, false, ◌&&◌}
use Prim.Native.Nat.{ℕ, zero, suc, ◌+◌, ◌*◌, ◌-◌, ◌%◌, ◌≤◌, ◌<◌}
use native.Mathlib.Nat.{zero-mul, suc-mul, add-mul-mod_self_right, mod-eq_of_lt, mul-mod_left, mul-div_cancel, mul-le-mul_right, mul-lt-mul_of_pos_right}
use native.Mathlib.Nat.{mul-pos}
use native.Mathlib.Omega.{arith}
use lib.Dec.{ltb, eqb}
use borrow.Author.Tests.{lt-ltb, le-ltb, eq-eqb, ne_eqb}
use Rattle.schedule.specs.Servers.{Box}
use Rattle.schedule.specs.Walk.{boundary, at_boundary, round_at}
use Rattle.schedule.proofs.Tests.{by_lt}

-- `next` is the first boundary at or after t, boundary `round`
pub record Next (X : Box) (t next round : ℕ) : Type 0 where
  pub is : next ≡ X.origin + round * X.hyper
  pub ahead : t ≤ next
  pub near : 0 < round → next < t + X.hyper

module _ (X : Box) (need : ℕ → ℕ → ℕ) (some : 0 < X.hyper) (t next round : ℕ) (b : Next X t next round) where
  at_is : t ≡ next → 0 < round → at_boundary X need t ≡ true
  unfolding at_boundary
  at_is e p =
      let far : 0 < round * X.hyper = mul-pos p some in
      let d : t - X.origin ≡ round * X.hyper = omega (arith, b.is) in
      rw (lt-ltb X.origin t (omega (arith, b.is)), d, mul-mod_left round X.hyper)

  at_first : t ≡ next → round ≡ 0 → at_boundary X need t ≡ false
  unfolding at_boundary
  at_first e z = let q : next ≡ X.origin + 0 * X.hyper = rw z at b.is in rw (le-ltb X.origin t (omega (arith, zero-mul X.hyper)))

  between : (r : ℕ) → round ≡ suc r → t < next → X.origin < t → (t - X.origin) % X.hyper ≡ 0 → ⊥
  between r e l o z =
      let q : next ≡ X.origin + (r * X.hyper + X.hyper) = b.is ∙ rw (e, suc-mul r X.hyper) in
      let d = t - X.origin - r * X.hyper in
      let close : next < t + X.hyper = b.near (omega arith) in
      let split : t - X.origin ≡ d + r * X.hyper = omega arith in
      let m : (d + r * X.hyper) % X.hyper ≡ 0 = rw split at z in
      omega (arith, add-mul-mod_self_right d r X.hyper, mod-eq_of_lt {n = d} {m = X.hyper} (omega arith))

  pub not_at : t < next → at_boundary X need t ≡ false
  unfolding at_boundary
  not_at l =
      by_lt X.origin t (λ o. rw (lt-ltb X.origin t o, ne_eqb ((t - X.origin) % X.hyper) 0 (λ z. by round refl o z))) (λ o. rw (le-ltb X.origin t o))
    where
      by : (r : ℕ) → round ≡ r → X.origin < t → (t - X.origin) % X.hyper ≡ 0 → ⊥
      by zero e o z = let q : next ≡ X.origin + 0 * X.hyper = rw e at b.is in omega (arith, zero-mul X.hyper)
      by (suc r) e o z = between r e l o z

  pub boundary_is : at_boundary X need t ≡ (eqb t next && ltb 0 round)
  boundary_is =
      by_lt t next (λ l. not_at l ∙ rw (ne_eqb t next (λ e. omega arith)))
      (λ l.
      let e : t ≡ next = omega (arith, b.ahead) in
      by_lt 0 round (λ p. at_is e p ∙ rw (eq-eqb t next e, lt-ltb 0 round p))
      (λ p. at_first e (omega arith) ∙ rw (eq-eqb t next e, le-ltb 0 round p)))

  pub round_is : t ≡ next → round_at X need t ≡ round
  unfolding round_at
  round_is e =
      let d : t - X.origin ≡ round * X.hyper = omega (arith, b.is) in
      rw d (mul-div_cancel round {n = X.hyper} some)

  -- the last boundary
  pub next_most : (m : ℕ) → round ≤ m → next ≤ boundary X need m
  unfolding boundary
  next_most m h = omega (arith, b.is, mul-le-mul_right X.hyper h)

  pub last_is : round ≤ X.rounds → eqb t (boundary X need X.rounds) ≡ (eqb t next && eqb round X.rounds)
  unfolding boundary
  last_is h =
      by_lt t next (λ l. ne_eqb t (boundary X need X.rounds) (λ e. omega (arith, next_most X.rounds h)) ∙ rw (ne_eqb t next (λ e. omega arith)))
      (λ l.
      let e : t ≡ next = omega (arith, b.ahead) in
      by_lt round X.rounds
      (λ p.
      let more : round * X.hyper < X.rounds * X.hyper = mul-lt-mul_of_pos_right {m = round} {n = X.rounds} {k = X.hyper} p some in
      ne_eqb t (boundary X need X.rounds) (λ q. omega (arith, b.is)) ∙ rw (eq-eqb t next e, ne_eqb round X.rounds (λ q. omega arith)))
      (λ p.
      let q : round ≡ X.rounds = omega arith in
      let w : next ≡ boundary X need X.rounds = b.is ∙ rw q in
      rw (eq-eqb t (boundary X need X.rounds) (omega arith), eq-eqb t next e, eq-eqb round X.rounds q)))

  -- before the last boundary there is time left
  pub within : round ≤ X.rounds → t ≤ boundary X need X.rounds
  within h = omega (arith, b.ahead, next_most X.rounds h)

  -- some ticks on: the same boundary, or the one after it
  pub later_same : (e : ℕ) → t + e ≤ next → Next X (t + e) next round
  later_same e l = record { is = b.is; ahead = l; near = λ p. omega (arith, b.near p) }

  pub later_next : (e : ℕ) → t ≡ next → 1 ≤ e → t + e ≤ next + X.hyper → Next X (t + e) (next + X.hyper) (suc round)
  later_next e at l m = record { is = rw (suc-mul round X.hyper) (omega (arith, b.is)); ahead = m; near = λ p. omega arith }

  pub next_within : round < X.rounds → next + X.hyper ≤ boundary X need X.rounds
  unfolding boundary
  next_within h = omega (arith, b.is, suc-mul round X.hyper, mul-le-mul_right {m = suc round} {n = X.rounds} X.hyper h)
