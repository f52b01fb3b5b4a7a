-- Whether all of some entries pass a test, by their numbers from 0.
use Rattle.std.proofs.Common.{◌≡◌, refl, ap, ◌∙◌, Bool, ◌&&◌, ℕ, zero, suc, ◌+◌, arith}
use Rattle.std.specs.List.{list_all, range_with_len}
use Rattle.schedule.specs.Lists.{all?, tab}

module _ {B : Type 0} (p : B → Bool) (f : ℕ → B) (a : ℕ) where
  all_from : (i n : ℕ) → list_all (λ k. p (f (a + k))) (range_with_len i n) ≡ all? p (tab f (a + i) n)
  all_from i zero = refl
  all_from i (suc n) = let e : a + (i + 1) ≡ suc (a + i) = omega arith in ap (λ b. p (f (a + i)) && b) (all_from (i + 1) n ∙ ap (λ j. all? p (tab f j n)) e)

  pub all_tab : (n : ℕ) → list_all (λ k. p (f (a + k))) (range_with_len 0 n) ≡ all? p (tab f a n)
  all_tab n = let e : a + 0 ≡ a = omega arith in all_from 0 n ∙ ap (λ j. all? p (tab f j n)) e
