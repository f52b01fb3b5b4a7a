-- A row of links, as a function of the server job's number: where each link is 0 or the next number, what is linked up to k are the jobs
-- from 1 to their count, each once.
use mathlib.Core.Path.{◌≡◌, refl, sym, ◌∙◌}
use mathlib.Core.Logic.{◌⊎◌}
use Prim.Native.Nat.{ℕ, zero, suc, ◌+◌, ◌-◌, ◌≤◌, ◌<◌}
use native.Mathlib.Nat.{not-suc-le-zero}
use native.Mathlib.Omega.{arith}
use lib.Dec.{ltb}
use borrow.Author.Tests.{lt-ltb}
use Rattle.schedule.specs.Lists.{one?, count, up_to}
use Rattle.schedule.proofs.Tests.{by_lt, either_way, one_le_one}
use Rattle.theorems.proofs.Counts.{up_to_last, count_le}

-- how many of server jobs 1 to n are linked
unfoldable pub linked_up_to : (ℕ → ℕ) → ℕ → ℕ
linked_up_to f n = count (λ (k : ℕ). ltb 0 (f k)) (up_to n)

-- each link is 0, or one more than those before it
unfoldable pub InOrder : (ℕ → ℕ) → ℕ → Type 0
InOrder f n = (k : ℕ) → k < n → (f (suc k) ≡ 0) ⊎ (f (suc k) ≡ suc (linked_up_to f k))

module _ (f : ℕ → ℕ) where
  pub linked_zero : linked_up_to f 0 ≡ 0
  unfolding linked_up_to
  linked_zero = refl

  pub linked_last : (n : ℕ) → linked_up_to f (suc n) ≡ linked_up_to f n + one? (ltb 0 (f (suc n)))
  unfolding linked_up_to
  linked_last n = up_to_last (λ (k : ℕ). ltb 0 (f k)) n

  linked_skip : (n : ℕ) → f (suc n) ≡ 0 → linked_up_to f (suc n) ≡ linked_up_to f n
  linked_skip n e = linked_last n ∙ rw e (omega arith)

  linked_step : (n : ℕ) → 0 < f (suc n) → linked_up_to f (suc n) ≡ suc (linked_up_to f n)
  linked_step n h = linked_last n ∙ rw (lt-ltb 0 (f (suc n)) h) (omega arith)

  pub linked_le : (n : ℕ) → linked_up_to f n ≤ n
  unfolding linked_up_to
  linked_le n = count_le (λ (k : ℕ). ltb 0 (f k)) n

  pub linked_grows : (a d : ℕ) → linked_up_to f a ≤ linked_up_to f (a + d)
  linked_grows a zero = let e : a + 0 ≡ a = omega arith in rw e (omega arith)
  linked_grows a (suc d) = let e : a + suc d ≡ suc (a + d) = omega arith in rw e (omega (arith, linked_last (a + d), linked_grows a d))

  -- no faster than the numbers
  pub linked_slow : (a d : ℕ) → linked_up_to f (a + d) ≤ linked_up_to f a + d
  linked_slow a zero = let e : a + 0 ≡ a = omega arith in rw e (omega arith)
  linked_slow a (suc d) =
      let e : a + suc d ≡ suc (a + d) = omega arith in
      rw e (omega (arith, linked_last (a + d), linked_slow a d, one_le_one (ltb 0 (f (suc (a + d))))))

  -- where each server job has the job of its own number
  pub linked_all : (n : ℕ) → ((k : ℕ) → 1 ≤ k → k ≤ n → f k ≡ k) → linked_up_to f n ≡ n
  linked_all zero h = linked_zero
  linked_all (suc n) h =
      omega (arith, linked_step n (omega (arith, h (suc n) (omega arith) (omega arith))), linked_all n (λ k a b. h k a (omega arith)))

pub linked_cong : (f g : ℕ → ℕ) (n : ℕ) → ((k : ℕ) → 1 ≤ k → k ≤ n → f k ≡ g k) → linked_up_to f n ≡ linked_up_to g n
linked_cong f g zero h = linked_zero f ∙ sym (linked_zero g)
linked_cong f g (suc n) h =
    let before = linked_cong f g n (λ k a b. h k a (omega arith)) in
    rw (linked_last f n, linked_last g n, h (suc n) (omega arith) (omega arith), before)

module _ (f : ℕ → ℕ) (n : ℕ) (o : InOrder f n) where
  -- a job that is linked has as its number the count so far
  pub linked_at_lem : (k : ℕ) → 1 ≤ k → k ≤ n → 1 ≤ f k → f k ≡ linked_up_to f k
  unfolding InOrder
  linked_at_lem zero h g p = absurd (not-suc-le-zero h)
  linked_at_lem (suc k) h g p = either_way (o k g) (λ z. absurd (let x : ⊥ = omega arith in x)) (λ e. e ∙ sym (linked_step f k p))

  -- each job up to the count is linked
  pub linked_find : (k : ℕ) → k ≤ n → (j : ℕ) → 1 ≤ j → j ≤ linked_up_to f k → (m : ℕ) × (1 ≤ m) × (m ≤ k) × (f m ≡ j)
  unfolding InOrder
  linked_find zero h j g l = absurd (let x : ⊥ = omega (arith, linked_zero f) in x)
  linked_find (suc k) h j g l =
      either_way (o k h) (λ z. up (linked_find k (omega arith) j g (omega (arith, linked_skip f k z))))
      (λ e. by_lt (linked_up_to f k) j (λ b. (suc k, omega arith, omega arith, e ∙ omega (arith, linked_step f k (omega arith))))
      (λ b. up (linked_find k (omega arith) j g b)))
    where
      up : (m : ℕ) × (1 ≤ m) × (m ≤ k) × (f m ≡ j) → (m : ℕ) × (1 ≤ m) × (m ≤ suc k) × (f m ≡ j)
      up (m, a, b, c) = (m, a, omega arith, c)

  linked_later : (a b : ℕ) → 1 ≤ a → a < b → b ≤ n → 1 ≤ f a → f a ≡ f b → ⊥
  linked_later a zero x y z p e = not-suc-le-zero y
  linked_later a (suc b) x y z p e =
      let q : a + (b - a) ≡ b = omega arith in
      omega (
        arith,
        linked_at_lem a x (omega arith) p,
        linked_at_lem (suc b) (omega arith) z (omega arith),
        linked_step f b (omega arith),
        rw q at (linked_grows f a (b - a)),
      )

  -- no job is linked twice
  pub linked_once : (a b : ℕ) → 1 ≤ a → a ≤ n → 1 ≤ b → b ≤ n → 1 ≤ f a → f a ≡ f b → a ≡ b
  linked_once a b x u y v p e =
      by_lt a b (λ l. absurd (linked_later a b x l v p e))
      (λ l. by_lt b a (λ m. absurd (linked_later b a y m u (omega arith) (sym e))) (λ m. omega arith))
