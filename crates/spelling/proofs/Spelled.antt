-- What a scanner finds, beside what is written: a value that it reads is written there, and where it goes wrong some written value begins so,
-- but none goes on with the byte there. A scanner is lawful where this holds of every text; it stays so behind a fixed text.
use mathlib.Core.Path.{◌≡◌, refl, ap, ◌∙◌}
use mathlib.Core.Bool.{true, false}
use mathlib.Core.List.{List, [], ◌∷◌, ◌++◌}
use Prim.Native.Nat.{ℕ}
use native.Mathlib.Omega.{arith}
use lib.Dec.{eqb}
use borrow.Author.Tests.{eqb-true, eq-eqb}
use Rattle.schedule.proofs.Tests.{by_test}
use Rattle.format.specs.Spelling.{Scan, read, wrong, ◌⟫◌, text}

pub no_byte : {c : ℕ} {r : List ℕ} → [] ≡ c ∷ r → ⊥
no_byte e = let z : ◌≡◌ {A = ℕ} 0 1 = cc in omega arith

module _ {A : Type 0} (written : A → List ℕ) (scan : List ℕ → Scan A) where
  -- the bytes b before `rest` begin a written value, and whatever follows the first byte of `rest`, the scanner goes wrong there
  pub record Wrong (s rest : List ℕ) : Type 0 where
    pub before : List ℕ
    pub parted : s ≡ before ++ rest
    pub value : A
    pub more : List ℕ
    pub begins : before ++ more ≡ written value
    pub stays : (c : ℕ) (r t : List ℕ) → rest ≡ c ∷ r → scan (before ++ (c ∷ t)) ≡ wrong (c ∷ t)

  abbrev pub Found : List ℕ → Scan A → Type 0
  Found s (read v rest) = s ≡ written v ++ rest
  Found s (wrong rest) = Wrong s rest

  -- every written value is read, and every text is one of the two
  pub record Lawful : Type 0 where
    pub complete : (v : A) (rest : List ℕ) → scan (written v ++ rest) ≡ read v rest
    pub found : (s : List ℕ) → Found s (scan s)

-- behind a text of one byte more
module _ {A : Type 0} (written : A → List ℕ) (scan : List ℕ → Scan A) (some : A) (t : ℕ) (ts : List ℕ) where
  abbrev put : List ℕ → A → List ℕ
  put us v = us ++ written v

  abbrev behind : List ℕ → List ℕ → Scan A
  behind us s = text us s ⟫ λ u rest. scan rest

  at_end_lem : Wrong (put (t ∷ ts)) (behind (t ∷ ts)) [] []
  at_end_lem =
      record { before = []; parted = refl; value = some; more = t ∷ (ts ++ written some); begins = refl; stays = λ c r q e. absurd (no_byte e) }

  at_other : (x : ℕ) (s : List ℕ) → eqb x t ≡ false → Wrong (put (t ∷ ts)) (behind (t ∷ ts)) (x ∷ s) (x ∷ s)
  unfolding text
  at_other x s f =
      record {
        before = [];
        parted = refl;
        value = some;
        more = t ∷ (ts ++ written some);
        begins = refl;
        stays = λ c r q g. let e : x ≡ c = cc in rw (← e, f);
      }

  at_same : (x : ℕ) (s : List ℕ) → eqb x t ≡ true → (y : Scan A) → Found (put ts) (behind ts) s y → Found (put (t ∷ ts)) (behind (t ∷ ts)) (x ∷ s) y
  unfolding text
  at_same x s f (read v rest) h = ap (λ (c : ℕ). c ∷ s) (eqb-true x t f) ∙ ap (λ (l : List ℕ). t ∷ l) h
  at_same x s f (wrong rest) h =
      record {
        before = t ∷ h.before;
        parted = ap (λ (c : ℕ). c ∷ s) (eqb-true x t f) ∙ ap (λ (l : List ℕ). t ∷ l) h.parted;
        value = h.value;
        more = h.more;
        begins = ap (λ (l : List ℕ). t ∷ l) h.begins;
        stays = λ c r q g. rw (eq-eqb t t refl) (h.stays c r q g);
      }

  lawful_more : Lawful (put ts) (behind ts) → Lawful (put (t ∷ ts)) (behind (t ∷ ts))
  unfolding text
  lawful_more law = record { complete = λ v rest. rw (eq-eqb t t refl) (law.complete v rest); found = found }
    where
      found : (s : List ℕ) → Found (put (t ∷ ts)) (behind (t ∷ ts)) s (behind (t ∷ ts) s)
      found [] = at_end_lem
      found (x ∷ s) = by_test (eqb x t) (λ f. rw f (at_same x s f (behind ts s) (law.found s))) (λ f. rw f (at_other x s f))

-- behind a fixed text
pub lawful_behind : {A : Type 0} (written : A → List ℕ) (scan : List ℕ → Scan A) (some : A) → Lawful written scan → (t : List ℕ)
    → Lawful (λ v. t ++ written v) (λ s. text t s ⟫ λ u rest. scan rest)
unfolding text
lawful_behind written scan some law [] = law
lawful_behind written scan some law (t ∷ ts) = lawful_more written scan some t ts (lawful_behind written scan some law ts)
