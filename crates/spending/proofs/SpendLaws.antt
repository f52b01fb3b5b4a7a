-- One more of those that run: the least budget left, and the ticks used.
use mathlib.Core.Path.{◌≡◌, ◌∙◌}
use mathlib.Core.List.{List}
use Prim.Native.Nat.{ℕ, ◌+◌, ◌-◌, ◌≤◌, ◌<◌, min}
use native.Mathlib.Numerals.{add-one}
use native.Mathlib.Omega.{arith}
use lib.ListN.{get_or, set}
use borrow.Author.Tests.{lt-ltb, le-ltb}
use Rattle.schedule.proofs.Tests.{by_lt}
use Rattle.window.specs.Spending.{place_at, lesser, least_left, spent}

-- a budget left that counts, and one that is passed over
lesser_some : (x least : ℕ) → 0 < x → min least x ≡ lesser x least
lesser_some x least h =
    by_lt x least (λ l. rw (lt-ltb 0 x h, lt-ltb x least l) (omega arith)) (λ l. rw (lt-ltb 0 x h, le-ltb x least l) (omega arith))

lesser_none : (x least : ℕ) → x ≤ 0 → least ≡ lesser x least
lesser_none x least h = rw (le-ltb 0 x h)

module _ (left at : List ℕ) (r k : ℕ) (p : k ≡ place_at at r) where
  module _ (most : ℕ) {least : ℕ} (e : least ≡ least_left left at most r) where
    pub least_more : {u v x : ℕ} → u ≡ v → v ≡ min least x → x ≡ get_or left k 0 → 0 < get_or left k 0 → u ≡ least_left left at most (r + 1)
    unfolding least_left
    least_more f g x s = f ∙ g ∙ rw (x, add-one r, ← e, ← p) (lesser_some (get_or left k 0) least s)

    pub least_same : {u : ℕ} → u ≡ least → get_or left k 0 ≤ 0 → u ≡ least_left left at most (r + 1)
    unfolding least_left
    least_same f s = f ∙ rw (add-one r, ← e, ← p) (lesser_none (get_or left k 0) least s)

  pub spent_more : (d : ℕ) {u : List ℕ} {x y : ℕ} → u ≡ spent left at d r → y ≡ get_or u k 0 → x ≡ y - d → set u k x ≡ spent left at d (r + 1)
  unfolding spent
  spent_more d e y f = rw (add-one r, ← e, ← p, f, y)
