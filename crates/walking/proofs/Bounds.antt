-- Where an event leads: past the boundary's tests the next boundary lies ahead, and a span of one tick at least ends at or before it.
use mathlib.Core.Path.{◌≡◌}
use mathlib.Core.List.{List}
use Prim.Native.Nat.{ℕ, zero, suc, ◌+◌, ◌*◌, ◌≤◌, ◌<◌, min}
use native.Mathlib.Nat.{mul-le-mul_right}
use native.Mathlib.Omega.{arith}
use lib.ListN.{get_or}
use borrow.Author.Tests.{lt-ltb, le-ltb}
use Rattle.schedule.specs.Limits as Limits
use Rattle.schedule.proofs.Tests.{by_lt}
use Rattle.window.specs.Entries.{further}
use Rattle.window.specs.Spending.{ticks_to, place_at, lesser, least_left}

-- a boundary is at or before the last one
pub not_past : (origin hyper rounds t boundary round : ℕ) → boundary ≡ origin + round * hyper → round ≤ rounds → t ≤ boundary → t ≤ origin + rounds * hyper
not_past origin hyper rounds t boundary round e h l = omega (arith, mul-le-mul_right hyper h)

-- after the boundary's tests
pub record Ahead (origin hyper rounds t boundary round : ℕ) : Type 0 where
  pub boundary_is : boundary ≡ origin + round * hyper
  pub round_most : round ≤ rounds
  pub later : t < boundary

module _ (origin hyper rounds t boundary round : ℕ) (e : boundary ≡ origin + round * hyper) (h : round ≤ rounds) where
  pub ahead_boundary : {boundary' round' : ℕ} → origin + rounds * hyper ≤ (Limits.offset).to + (Limits.rounds).to * (Limits.hyperperiod).to → 1 ≤ hyper
      → t ≡ boundary → (round ≡ rounds → ⊥) → boundary' ≡ further boundary hyper → round' ≡ round + 1 → Ahead origin hyper rounds t boundary' round'
  ahead_boundary {boundary'} {round'} fits one at r b q =
      let less : round < rounds = by_lt round rounds (λ x. x) (λ x. absurd (r (omega arith))) in
      let next : (round + 1) * hyper ≡ round * hyper + hyper = omega arith in
      let most : (round + 1) * hyper ≤ rounds * hyper = mul-le-mul_right hyper (omega arith) in
      record { boundary_is = rw q (omega arith); round_most = omega arith; later = omega arith }

  pub ahead_between : {boundary' round' : ℕ} → t ≤ boundary → (t ≡ boundary → ⊥) → boundary' ≡ boundary → round' ≡ round → Ahead origin hyper rounds t boundary' round'
  ahead_between l off b q = record {
    boundary_is = rw (b, q) e;
    round_most = rw q h;
    later = rw b (by_lt t boundary (λ x. x) (λ x. absurd (off (omega arith))));
  }

-- the least budget left is one of them, or `most`
lesser_within : (x least most : ℕ) → 1 ≤ least → least ≤ most → (1 ≤ lesser x least) × (lesser x least ≤ most)
lesser_within x least most h l =
    by_lt 0 x (λ p. by_lt x least (λ q. rw (lt-ltb 0 x p, lt-ltb x least q) (p, omega arith)) (λ q. rw (lt-ltb 0 x p, le-ltb x least q) (h, l)))
    (λ p. rw (le-ltb 0 x p) (h, l))

least_within : (left at : List ℕ) (most : ℕ) → 1 ≤ most → (m : ℕ) → (1 ≤ least_left left at most m) × (least_left left at most m ≤ most)
unfolding least_left
least_within left at most h zero = (h, omega arith)
least_within left at most h (suc m) =
    let before = least_within left at most h m in
    lesser_within (get_or left (place_at at m) 0) (least_left left at most m) most before.0 before.1

ticks_within : (t release boundary asked : ℕ) → t < boundary → (1 ≤ ticks_to t release boundary asked) × (t + ticks_to t release boundary asked ≤ boundary)
ticks_within t release boundary asked h =
    by_lt t (min (min release boundary) asked)
    (λ l. rw (lt-ltb t (min (min release boundary) asked) l) (omega arith, omega arith))
    (λ l. rw (le-ltb t (min (min release boundary) asked) l) (omega arith, omega arith))

-- the span
pub record Span (t boundary d : ℕ) : Type 0 where
  pub some : 1 ≤ d
  pub within : t + d ≤ boundary

pub span_within : (t release boundary asked : ℕ) (left at : List ℕ) (m : ℕ) {most d : ℕ} → t < boundary → most ≡ ticks_to t release boundary asked
    → d ≡ least_left left at most m → Span t boundary d
span_within t release boundary asked left at m {most} {d} h e f =
    let ticks = ticks_within t release boundary asked h in
    let least = least_within left at most (rw e ticks.0) m in
    record { some = rw f least.0; within = omega (arith, e, f, ticks.1, least.1) }
