-- What gave the image of a scan under a map.
use mathlib.Core.Path.{◌≡◌}
use mathlib.Core.List.{List}
use Prim.Native.Nat.{ℕ}
use native.Mathlib.Omega.{arith}
use Rattle.format.specs.Spelling.{Scan, read, wrong}
use Rattle.scanning.specs.Positions.{map_scan}

module _ {A B : Type 0} (f : A → B) where
  pub image_read : (x : Scan A) (v : B) (rest : List ℕ) → read v rest ≡ map_scan f x → (w : A) × (x ≡ read w rest) × (v ≡ f w)
  image_read (read w r) v rest e = (w, (cc), (cc))
  image_read (wrong r) v rest e = absurd (let z : ◌≡◌ {A = ℕ} 0 1 = cc in omega arith)

  pub image_wrong : (x : Scan A) (rest : List ℕ) → wrong rest ≡ map_scan f x → x ≡ wrong rest
  image_wrong (read w r) rest e = absurd (let z : ◌≡◌ {A = ℕ} 0 1 = cc in omega arith)
  image_wrong (wrong r) rest e = cc
