-- Where the tables and the shares of a call on several tables stand: table i behind the lengths before it, share i at i times the size.
use mathlib.Core.Path.{◌≡◌, refl, ap, ◌∙◌}
use mathlib.Core.List.{List, [], ◌∷◌}
use Prim.Native.Nat.{ℕ, zero, suc, ◌+◌, ◌*◌, ◌<◌}
use native.Mathlib.Omega.{arith}
use native.Mathlib.Nat.{suc-mul}
use lib.ListN.{length, take, drop, get_or}
use lib.Seq.{drop-drop}
use Rattle.rules.specs.Answers.{Reply, Call, call_of}
use Rattle.rules.specs.Batch.{total, parted, calls_by}

pub table_begins : (tables lengths : List ℕ) (i : ℕ) → i < length lengths
    → get_or (parted tables lengths) i [] ≡ take (get_or lengths i 0) (drop (total (take i lengths)) tables)
table_begins tables [] i h = absurd (omega arith)
table_begins tables (l ∷ ls) zero h = refl
table_begins tables (l ∷ ls) (suc i) h =
    table_begins (drop l tables) ls i (omega arith) ∙ ap (take (get_or ls i 0)) (drop-drop (total (take i ls)) l tables)

module _ (reply : List ℕ → Reply) (size : ℕ) (none : Call) where
  pub share_begins : (ts : List (List ℕ)) (buffer : List ℕ) (i : ℕ) → i < length ts
      → get_or (calls_by reply size ts buffer) i none ≡ call_of (take size (drop (i * size) buffer)) (reply (get_or ts i []))
  share_begins [] buffer i h = absurd (omega arith)
  share_begins (t ∷ ts) buffer zero h = let z : 0 * size ≡ 0 = omega arith in rw z
  share_begins (t ∷ ts) buffer (suc i) h =
      let e : size + i * size ≡ suc i * size = omega (arith, suc-mul i size) in
      share_begins ts (drop size buffer) i (omega arith)
      ∙ ap (λ (b : List ℕ). call_of (take size b) (reply (get_or ts i []))) (drop-drop (i * size) size buffer ∙ ap (λ (n : ℕ). drop n buffer) e)
