-- Tests as facts: what a passed test says, and how a proof goes by the two cases of one.
use mathlib.Core.Path.{◌≡◌, refl, sym, subst}
use mathlib.Core.Bool.{Bool, true, false, ◌&&◌, ◌||◌}
use mathlib.Core.Logic.{◌⊎◌, inl, inr}
use mathlib.Core.List.{List, [], ◌∷◌}
use Prim.Native.Nat.{ℕ, ◌≤◌, ◌<◌, zero-le}
use native.Mathlib.Omega.{arith}
use native.Mathlib.Decide.{dec_lt}
use lib.Dec.{T, eqb, eqb_refl}
use Rattle.schedule.specs.Lists.{one?, all?}

pub and_l : (a b : Bool) → T (a && b) → T a
and_l true b t = tt
and_l false b t = t

pub and_r : (a b : Bool) → T (a && b) → T b
and_r true b t = t
and_r false b t = absurd t

pub and_i : (a b : Bool) → T a → T b → T (a && b)
and_i true b s t = t
and_i false b s t = s

pub or_l : (a b : Bool) → T a → T (a || b)
or_l true b t = tt
or_l false b t = absurd t

pub or_r : (a b : Bool) → T b → T (a || b)
or_r true b t = tt
or_r false b t = t

-- one of the two, each with what it says
pub or_e : {A B : Type 0} (a b : Bool) → (T a → A) → (T b → B) → T (a || b) → A ⊎ B
or_e true b f g t = inl (f tt)
or_e false b f g t = inr (g t)

pub either_way {ℓ} : {A B : Type 0} {C : Type ℓ} → A ⊎ B → (A → C) → (B → C) → C
either_way (inl a) f g = f a
either_way (inr b) f g = g b

-- a < b, or not
pub by_lt {ℓ} : {C : Type ℓ} (a b : ℕ) → (a < b → C) → (b ≤ a → C) → C
by_lt {C} a b f g = go (dec_lt a b)
  where
    go : Dec (a < b) → C
    go (yes h) = f h
    go (no h) = g (omega arith)

-- a test passes or fails
pub dec : (b : Bool) → (b ≡ true) ⊎ (b ≡ false)
dec true = inl refl
dec false = inr refl

pub by_test : {C : Type 0} (b : Bool) → (b ≡ true → C) → (b ≡ false → C) → C
by_test true f g = f refl
by_test false f g = g refl

pub T_true : {b : Bool} → T b → b ≡ true
T_true {b = true} t = refl
T_true {b = false} t = absurd t

pub true_T : (b : Bool) → b ≡ true → T b
true_T b e = subst T (sym e) tt

-- two tests that say the same are equal
pub bool_ext : (a b : Bool) → (T a → T b) → (T b → T a) → a ≡ b
bool_ext true true f g = refl
bool_ext true false f g = absurd (f tt)
bool_ext false true f g = absurd (g tt)
bool_ext false false f g = refl

pub eq→eqb : (a b : ℕ) → a ≡ b → T (eqb a b)
eq→eqb a b e = subst (λ (x : ℕ). T (eqb a x)) e (eqb_refl a)

pub one_le : (a b : Bool) → (T a → T b) → one? a ≤ one? b
one_le true true h = omega arith
one_le true false h = absurd (h tt)
one_le false b h = zero-le

pub one_le_one : (a : Bool) → one? a ≤ 1
one_le_one true = omega arith
one_le_one false = zero-le

pub one_of : (b : Bool) → T b → one? b ≡ 1
one_of true t = refl
one_of false t = absurd t

pub none_of : (b : Bool) → (T b → ⊥) → one? b ≡ 0
none_of true h = absurd (h tt)
none_of false h = refl

-- over a list whose entries pass r: where p passes, q passes
pub all_under : {A : Type 0} (r p q : A → Bool) → ((x : A) → T (r x) → T (p x) → T (q x)) → (l : List A)
    → T (all? r l) → T (all? p l) → T (all? q l)
all_under r p q h [] u t = tt
all_under r p q h (x ∷ xs) u t =
    and_i (q x) (all? q xs) (h x (and_l (r x) (all? r xs) u) (and_l (p x) (all? p xs) t))
    (all_under r p q h xs (and_r (r x) (all? r xs) u) (and_r (p x) (all? p xs) t))
