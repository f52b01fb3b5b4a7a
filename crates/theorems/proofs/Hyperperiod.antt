-- Euclid's rule gives the greatest common divisor, so the hyperperiod is the least common multiple of the periods: each period divides
-- it, and it divides every number that each period divides.
use mathlib.Core.Path.{◌≡◌, refl, sym, ap, ◌∙◌}
use mathlib.Core.List.Memᴰ
use mathlib.Core.List.{List, [], ◌∷◌, Memᴰ}
use Prim.Native.Nat.{ℕ, zero, suc, ◌+◌, ◌*◌, ◌/◌, ◌%◌, ◌≤◌, ◌<◌, ◌∣◌}
use native.Mathlib.Nat.{mod-lt, div-add-mod', dvd_refl, dvd-zero, dvd_trans, dvd-mod_iff, dvd-mul_left, dvd-mul_right, dvd-mul_left_of_dvd}
use native.Mathlib.Nat.{dvd-add_iff_right, dvd_of_mul-dvd-mul_right, mul-dvd-mul_left, mul-dvd-mul_right, div-mul_cancel, mul-div_cancel'}
use native.Mathlib.Nat.{mul-add, mul_assoc, mul_comm, mul_left_comm, mul-pos, one-mul, one-dvd, zero-mul, le_refl, le_of_dvd}
use native.Mathlib.Nat.{pos_of_dvd_of_pos}
use native.Mathlib.Omega.{arith}
use Rattle.schedule.specs.Table.{Graph, Table, euclid, gcd, lcm, lcm_from, hyperperiod}
use Rattle.schedule.proofs.Tests.{by_lt, either_way}

euclid_divides : (steps a b : ℕ) → b ≤ steps → (euclid steps a b ∣ a) × (euclid steps a b ∣ b)
unfolding euclid
euclid_divides zero a b h = let e : b ≡ 0 = omega arith in rw e (dvd_refl a, dvd-zero a)
euclid_divides (suc steps) a zero h = (dvd_refl a, dvd-zero a)
euclid_divides (suc steps) a (suc b) h =
    let r = euclid_divides steps (suc b) (a % suc b) (omega (arith, mod-lt a {m = suc b} (omega arith))) in
    ((dvd-mod_iff (euclid steps (suc b) (a % suc b)) {m = a} {n = suc b} r.0).0 r.1, r.0)

-- a remainder keeps what divides both multiples
rest_divides : (d m a b : ℕ) → d ∣ m * a → d ∣ m * b → d ∣ m * (a % b)
rest_divides d m a b p q =
    let e : m * (a / b * b) + m * (a % b) ≡ m * a = sym (mul-add m (a / b * b) (a % b)) ∙ ap (λ (x : ℕ). m * x) (div-add-mod' a b) in
    let whole : d ∣ m * (a / b * b) = rw (mul_left_comm m (a / b) b) (dvd-mul_left_of_dvd d q (a / b)) in
    (dvd-add_iff_right d {m = m * (a / b * b)} {n = m * (a % b)} whole).1 (rw e p)

euclid_greatest : (d m steps a b : ℕ) → d ∣ m * a → d ∣ m * b → d ∣ m * euclid steps a b
unfolding euclid
euclid_greatest d m zero a b p q = p
euclid_greatest d m (suc steps) a zero p q = p
euclid_greatest d m (suc steps) a (suc b) p q = euclid_greatest d m steps (suc b) (a % suc b) q (rest_divides d m a (suc b) p q)

pub gcd_divides : (a b : ℕ) → (gcd a b ∣ a) × (gcd a b ∣ b)
unfolding gcd
gcd_divides a b = euclid_divides b a b (le_refl b)

pub gcd_greatest : (a b d : ℕ) → d ∣ a → d ∣ b → d ∣ gcd a b
unfolding gcd
gcd_greatest a b d p q = rw one-mul at (euclid_greatest d 1 b a b (rw one-mul p) (rw one-mul q))

-- a/g × b is both b × a/g and a × b/g
lcm_left : (a b : ℕ) → a ∣ lcm a b
unfolding lcm
lcm_left a b =
    let g = gcd a b in
    let r = gcd_divides a b in
    let e : a / g * b ≡ a * (b / g) =
    ap (λ (x : ℕ). a / g * x) (sym (mul-div_cancel' g {m = b} r.1))
    ∙ sym (mul_assoc (a / g) g (b / g))
    ∙ ap (λ (x : ℕ). x * (b / g)) (div-mul_cancel g {m = a} r.0) in
    rw e (dvd-mul_right a (b / g))

lcm_right : (a b : ℕ) → b ∣ lcm a b
unfolding lcm
lcm_right a b = dvd-mul_left b (a / gcd a b)

-- lcm × gcd is a × b
lcm_gcd : (a b : ℕ) → lcm a b * gcd a b ≡ a * b
unfolding lcm
lcm_gcd a b =
    let g = gcd a b in
    mul_assoc (a / g) b g
    ∙ ap (λ (x : ℕ). a / g * x) (mul_comm b g)
    ∙ sym (mul_assoc (a / g) g b)
    ∙ ap (λ (x : ℕ). x * b) (div-mul_cancel g {m = a} (gcd_divides a b).0)

lcm_some : (a b : ℕ) → 0 < a → 0 < b → 0 < lcm a b
lcm_some a b p q =
    by_lt 0 (lcm a b) (λ l. l)
    (λ l.
    let z : lcm a b ≡ 0 = omega arith in
    let w : 0 * gcd a b ≡ a * b = rw z at (lcm_gcd a b) in
    absurd (let x : ⊥ = omega (arith, zero-mul (gcd a b), mul-pos p q) in x))

lcm_least : (a b n : ℕ) → 0 < a → a ∣ n → b ∣ n → lcm a b ∣ n
unfolding gcd
lcm_least a b n p u v =
    let both : a * b ∣ n * gcd a b = euclid_greatest (a * b) n b a b (rw (mul_comm n a) (mul-dvd-mul_left b a v)) (mul-dvd-mul_right a u b) in
    dvd_of_mul-dvd-mul_right {k = gcd a b} (lcm a b) (pos_of_dvd_of_pos (gcd_divides a b).0 p) (rw (lcm_gcd a b) both)

-- n is a multiple of each period
abbrev pub Common : List Graph → ℕ → Type 0
Common Gs n = (G : Graph) → Memᴰ G Gs → G.period ∣ n

pub lcm_from_first : (h : ℕ) (Gs : List Graph) → h ∣ lcm_from h Gs
unfolding lcm_from
lcm_from_first h [] = dvd_refl h
lcm_from_first h (G ∷ Gs) = dvd_trans h (lcm_left h G.period) (lcm_from_first (lcm h G.period) Gs)

pub lcm_from_each : (h : ℕ) (Gs : List Graph) → Common Gs (lcm_from h Gs)
unfolding lcm_from
lcm_from_each h [] G m = absurd (Memᴰ.not-nil m)
lcm_from_each h (G₀ ∷ Gs) G m =
    either_way (Memᴰ.cases_cons m)
    (λ e. rw e (dvd_trans G₀.period (lcm_right h G₀.period) (lcm_from_first (lcm h G₀.period) Gs)))
    (λ m. lcm_from_each (lcm h G₀.period) Gs G m)

pub lcm_from_some : (h : ℕ) (Gs : List Graph) → 0 < h → ((G : Graph) → Memᴰ G Gs → 0 < G.period) → 0 < lcm_from h Gs
unfolding lcm_from
lcm_from_some h [] p q = p
lcm_from_some h (G ∷ Gs) p q =
    lcm_from_some (lcm h G.period) Gs (lcm_some h G.period p (q G (Memᴰ.head refl))) (λ G m. q G (Memᴰ.tail m))

pub lcm_from_least : (h : ℕ) (Gs : List Graph) (n : ℕ) → 0 < h → 0 < n → h ∣ n → Common Gs n → lcm_from h Gs ∣ n
unfolding lcm_from
lcm_from_least h [] n p q u c = u
lcm_from_least h (G ∷ Gs) n p q u c =
    let v : G.period ∣ n = c G (Memᴰ.head refl) in
    lcm_from_least (lcm h G.period) Gs n (lcm_some h G.period p (pos_of_dvd_of_pos v q)) q (lcm_least h G.period n p u v)
    (λ G m. c G (Memᴰ.tail m))

pub hyperperiod_some : (T : Table) → ((G : Graph) → Memᴰ G T.graphs → 0 < G.period) → 0 < hyperperiod T
unfolding hyperperiod
hyperperiod_some T p = lcm_from_some 1 T.graphs (omega arith) p

pub record LeastCommonMultiple (Gs : List Graph) (m : ℕ) : Type 0 where
  pub multiple : Common Gs m
  pub divides : (n : ℕ) → Common Gs n → m ∣ n
  pub least : (n : ℕ) → 0 < n → Common Gs n → m ≤ n

pub hyperperiod_least : (T : Table) → LeastCommonMultiple T.graphs (hyperperiod T)
unfolding hyperperiod
hyperperiod_least T =
    record {
      multiple = lcm_from_each 1 T.graphs;
      divides = λ n c. by_lt 0 n (λ l. divides n l c) (λ l. let e : n ≡ 0 = omega arith in rw e (dvd-zero (lcm_from 1 T.graphs)));
      least = λ n l c. le_of_dvd l (divides n l c);
    }
  where
    divides : (n : ℕ) → 0 < n → Common T.graphs n → lcm_from 1 T.graphs ∣ n
    divides n l c = lcm_from_least 1 T.graphs n (omega arith) l (one-dvd n) c
