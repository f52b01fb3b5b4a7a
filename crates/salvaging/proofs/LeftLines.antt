-- What is left has no carriage return, no empty line and no line that ends in a blank, and each of its lines has its LF. Shown at the end:
-- `left_neat`.
use mathlib.Core.Path.{◌≡◌, refl, ap, subst}
use mathlib.Core.Bool.{Bool, true, false, not, ◌&&◌}
use mathlib.Core.List.{List, [], ◌∷◌}
use Prim.Native.Nat.{ℕ}
use lib.Dec.{eqb}
use Rattle.schedule.specs.Lists.{all?}
use Rattle.theorems.proofs.Formed.{both}
use Rattle.salvaging.specs.Lines.{lines_of}
use Rattle.salvaging.specs.Steps.{blank, plain?, without_returns, trimmed, salvaged}
use Rattle.salvaging.specs.Neat.{ends_blank, neat?}
use Rattle.salvaging.proofs.Again.{Clean, Tidy, nothing, line, kept_all, trimmed_first, lines_first, salvaged_tidy}

no_blank_last : (b : List ℕ) → trimmed b ≡ b → ends_blank b ≡ false
no_blank_last [] e = refl
no_blank_last (c ∷ []) e = single (eqb c blank) (trimmed_first c [] e).1
  where
    single : (x : Bool) → (x && true) ≡ false → x ≡ false
    single true h = h
    single false h = refl
no_blank_last (c ∷ d ∷ s) e = no_blank_last (d ∷ s) (trimmed_first c (d ∷ s) e).0

no_return : (b : List ℕ) → without_returns b ≡ b → all? plain? b ≡ true
unfolding without_returns
no_return b e = subst (λ (s : List ℕ). all? plain? s ≡ true) e (kept_all plain? b)

clean_neat : (b : List ℕ) → Clean b → neat? (record { body = b; ended = true }) ≡ true
clean_neat b h = both (no_return b h.returns) (both (ap not h.some) (ap not (no_blank_last b h.blanks)))

tidy_neat : (s : List ℕ) → Tidy s → all? neat? (lines_of s) ≡ true
unfolding lines_of
tidy_neat _ nothing = refl
tidy_neat _ (line b s h t) = rw (lines_first b s h.one) (both (clean_neat b h) (tidy_neat s t))

pub left_neat : (s : List ℕ) → all? neat? (lines_of (salvaged s)) ≡ true
left_neat s = tidy_neat (salvaged s) (salvaged_tidy s)
