-- What gave the image of an outcome under a map.
use mathlib.Core.Path.{◌≡◌}
use Prim.Native.Nat.{ℕ}
use native.Mathlib.Omega.{arith}
use Rattle.format.specs.declared.Refusal.{Refusal}
use Rattle.format.specs.Reading.{Place, Outcome, refused, done}
use Rattle.lines.specs.Numbered.{map_outcome}

module _ {A B : Type 0} (f : A → B) where
  pub image_done : (x : Outcome A) (b : B) (p : Place) → done b p ≡ map_outcome f x → (a : A) × (x ≡ done a p) × (b ≡ f a)
  image_done (done a q) b p e = (a, (cc), (cc))
  image_done (refused r) b p e = absurd (let z : ◌≡◌ {A = ℕ} 0 1 = cc in omega arith)

  pub image_refused : (x : Outcome A) (r : Refusal) → refused r ≡ map_outcome f x → x ≡ refused r
  image_refused (done a q) r e = absurd (let z : ◌≡◌ {A = ℕ} 0 1 = cc in omega arith)
  image_refused (refused m) r e = cc
