-- The `limit=` lines one after another: one more limit, a line that is refused, and no line left.
use mathlib.Core.Path.{◌≡◌, refl, sym, ap, ◌∙◌}
use mathlib.Core.List.{List, [], ◌∷◌, ◌++◌, append-nil}
use Prim.Native.Nat.{ℕ, suc, ◌+◌, ◌-◌, ◌<◌, ◌≤◌}
use native.Mathlib.Numerals.{add-one}
use native.Mathlib.Omega.{arith}
use lib.ListN.{length, take, set}
use lib.Seq.{append_snoc, take-suc-set}
use Rattle.format.specs.declared.Refusal.{Refusal}
use Rattle.format.specs.Keys as Keys
use Rattle.format.specs.Reading.{Place, Outcome, refused, done, ◌and_then◌, number_line}
use Rattle.lines.specs.Numbered.{map_outcome}
use Rattle.margins.specs.Margins.{limits_from}
use Rattle.agelimits.specs.Read.{behind}

-- a limit that is read goes behind those before it
limits_on : (front : List ℕ) (left : ℕ) (x : Outcome ℕ)
    → map_outcome (behind front) (x and_then λ v p. limits_from left p and_then λ vs p. done (v ∷ vs) p)
    ≡ x and_then (λ v q. map_outcome (behind (front ++ (v ∷ []))) (limits_from left q))
limits_on front left (refused r) = refl
limits_on front left (done v q) = more (limits_from left q)
  where
    more : (y : Outcome (List ℕ))
        → map_outcome (behind front) (y and_then λ vs p. done (v ∷ vs) p) ≡ map_outcome (behind (front ++ (v ∷ []))) y
    more (refused r) = refl
    more (done vs r) = ap (λ (l : List ℕ). done l r) (sym (append_snoc front v vs))

map_none : (x : Outcome (List ℕ)) → x ≡ map_outcome (behind []) x
map_none (refused r) = refl
map_none (done vs p) = refl

pub limits_all : (n : ℕ) (p : Place) → limits_from n p ≡ map_outcome (behind []) (limits_from (n - 0) p)
limits_all n p = let e : n - 0 ≡ n = omega arith in rw e (map_none (limits_from n p))

-- the first g of n limits stand in l
module _ (l : List ℕ) (n g : ℕ) (p : Place) where
  limits_step : g < n → map_outcome (behind (take g l)) (limits_from (n - g) p)
      ≡ number_line Keys.limit p and_then (λ v q. map_outcome (behind (take g l ++ (v ∷ []))) (limits_from (n - (g + 1)) q))
  unfolding limits_from
  limits_step h = let e : n - g ≡ suc (n - (g + 1)) = omega arith in rw e (limits_on (take g l) (n - (g + 1)) (number_line Keys.limit p))

  pub limits_one : g < n → g < length l → (v : ℕ) (q : Place) → number_line Keys.limit p ≡ done v q
      → map_outcome (behind (take g l)) (limits_from (n - g) p) ≡ map_outcome (behind (take (g + 1) (set l g v))) (limits_from (n - (g + 1)) q)
  limits_one h i v q e =
      limits_step h
      ∙ ap (λ (x : Outcome ℕ). x and_then (λ v q. map_outcome (behind (take g l ++ (v ∷ []))) (limits_from (n - (g + 1)) q))) e
      ∙ ap (λ (f : List ℕ). map_outcome (behind f) (limits_from (n - (g + 1)) q))
      (sym (ap (λ (k : ℕ). take k (set l g v)) (add-one g) ∙ take-suc-set l g v i))

  pub limits_stop : g < n → (r : Refusal) → number_line Keys.limit p ≡ refused r → map_outcome (behind (take g l)) (limits_from (n - g) p) ≡ refused r
  limits_stop h r e =
      limits_step h ∙ ap (λ (x : Outcome ℕ). x and_then (λ v q. map_outcome (behind (take g l ++ (v ∷ []))) (limits_from (n - (g + 1)) q))) e

  pub limits_none : n ≤ g → map_outcome (behind (take g l)) (limits_from (n - g) p) ≡ done (take g l) p
  unfolding limits_from
  limits_none h = let e : n - g ≡ 0 = omega arith in rw e (ap (λ (f : List ℕ). done f p) (append-nil (take g l)))
