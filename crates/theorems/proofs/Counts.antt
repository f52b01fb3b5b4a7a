-- Counting: how many numbers or server jobs pass a test, and what the count says where those that pass are the first ones.
use mathlib.Core.Path.{◌≡◌, refl, ap, subst}
use mathlib.Core.Bool.{Bool, true, false, ◌&&◌, cond}
use mathlib.Core.List.{List, [], ◌∷◌, ◌++◌}
use Prim.Native.Nat.{ℕ, zero, suc, ◌+◌, ◌-◌, ◌≤◌, ◌<◌, zero-le}
use native.Mathlib.Nat.{le_refl, add-zero}
use native.Mathlib.Omega.{arith}
use lib.Dec.{T}
use Rattle.schedule.specs.Lists.{one?, count, any?, keep, joined, numbers, up_to}
use Rattle.schedule.specs.ServerJobs.{ServerJob, jobs_from}
use Rattle.schedule.proofs.Tests.{or_l, or_r, or_e, by_lt, either_way, dec, true_T, one_le, one_le_one, one_of, none_of}

abbrev pub server_job : ℕ → ℕ → ServerJob
server_job i k = record { server = i; number = k }

module _ {A : Type 0} where
  pub count_mono : (p q : A → Bool) → ((x : A) → T (p x) → T (q x)) → (l : List A) → count p l ≤ count q l
  count_mono p q h [] = zero-le
  count_mono p q h (x ∷ xs) = omega (arith, one_le (p x) (q x) (h x), count_mono p q h xs)

  pub count_keep : (p q : A → Bool) (l : List A) → count p (keep q l) ≡ count (λ (x : A). q x && p x) l
  count_keep p q [] = refl
  count_keep p q (x ∷ xs) = go (q x) (count_keep p q xs)
    where
      go : (b : Bool) → count p (keep q xs) ≡ count (λ (x : A). q x && p x) xs
          → count p (cond b (x ∷ keep q xs) (keep q xs)) ≡ one? (b && p x) + count (λ (x : A). q x && p x) xs
      go true e = ap (λ (n : ℕ). one? (p x) + n) e
      go false e = omega arith

  pub count_append : (p : A → Bool) (l r : List A) → count p (l ++ r) ≡ count p l + count p r
  count_append p [] r = omega arith
  count_append p (x ∷ xs) r = omega (arith, count_append p xs r)

  -- two joined lists whose parts count alike
  pub count_joined : (p q : A → Bool) (f g : ℕ → List A) → ((i : ℕ) → count p (f i) ≡ count q (g i)) → (a n : ℕ)
      → count p (joined f a n) ≡ count q (joined g a n)
  count_joined p q f g h a zero = refl
  count_joined p q f g h a (suc n) =
      rw (count_append p (f a) (joined f (suc a) n), count_append q (g a) (joined g (suc a) n), h a, count_joined p q f g h (suc a) n)

-- server jobs a to a + n - 1 of server i: none counts; the first m and the rest; those h numbers on
pub count_none : (p : ServerJob → Bool) (i a n : ℕ) → ((k : ℕ) → a ≤ k → k < a + n → T (p (server_job i k)) → ⊥) → count p (jobs_from i a n) ≡ 0
count_none p i a zero h = refl
count_none p i a (suc n) h =
    omega
    (arith, none_of (p (server_job i a)) (h a (omega arith) (omega arith)), count_none p i (suc a) n (λ k b c. h k (omega arith) (omega arith)))

pub jobs_split : (p : ServerJob → Bool) (i a m n : ℕ) → count p (jobs_from i a (m + n)) ≡ count p (jobs_from i a m) + count p (jobs_from i (a + m) n)
jobs_split p i a zero n = let e : 0 + n ≡ n = omega arith in let e' : a + 0 ≡ a = omega arith in rw (e, e') (omega arith)
jobs_split p i a (suc m) n =
    let e : suc m + n ≡ suc (m + n) = omega arith in
    let e' : a + suc m ≡ suc a + m = omega arith in
    rw (e, e') (omega (arith, jobs_split p i (suc a) m n))

pub jobs_shift : (p q : ServerJob → Bool) (i h a n : ℕ) → ((k : ℕ) → a ≤ k → p (server_job i (k + h)) ≡ q (server_job i k))
    → count p (jobs_from i (a + h) n) ≡ count q (jobs_from i a n)
jobs_shift p q i h a zero e = refl
jobs_shift p q i h a (suc n) e =
    let e' : suc (a + h) ≡ suc a + h = omega arith in
    rw (e a (omega arith), e') (ap (λ (m : ℕ). one? (q (server_job i a)) + m) (jobs_shift p q i h (suc a) n (λ k b. e k (omega arith))))

-- some number from a on, of n, passes
pub some_in : (p : ℕ → Bool) (a n : ℕ) → T (any? p (numbers a n)) → (k : ℕ) × (a ≤ k) × (k < a + n) × T (p k)
some_in p a zero t = absurd t
some_in p a (suc n) t =
    either_way (or_e (p a) (any? p (numbers (suc a) n)) (λ x. x) (λ x. x) t) (λ x. (a, omega arith, omega arith, x))
    (λ x. let (k, u, v, w) = some_in p (suc a) n x in (k, omega arith, omega arith, w))

pub in_some : (p : ℕ → Bool) (a n k : ℕ) → a ≤ k → k < a + n → T (p k) → T (any? p (numbers a n))
in_some p a zero k h g t = absurd (let z : ⊥ = omega arith in z)
in_some p a (suc n) k h g t =
    by_lt a k (λ l. or_r (p a) (any? p (numbers (suc a) n)) (in_some p (suc a) n k l (omega arith) t))
    (λ l. or_l (p a) (any? p (numbers (suc a) n)) (subst (λ (x : ℕ). T (p x)) (omega arith) t))

module _ (p : ℕ → Bool) where
  count_last : (a n : ℕ) → count p (numbers a (suc n)) ≡ count p (numbers a n) + one? (p (a + n))
  count_last a zero = let e : a + 0 ≡ a = add-zero a in rw e (omega arith)
  count_last a (suc n) = let e : a + suc n ≡ suc a + n = omega arith in rw e (omega (arith, count_last (suc a) n))

  pub up_to_last : (n : ℕ) → count p (up_to (suc n)) ≡ count p (up_to n) + one? (p (suc n))
  up_to_last n = let e : 1 + n ≡ suc n = omega arith in rw e at (count_last 1 n)

  pub count_le : (n : ℕ) → count p (up_to n) ≤ n
  count_le zero = zero-le
  count_le (suc n) = omega (arith, up_to_last n, count_le n, one_le_one (p (suc n)))

  -- all that pass lie above c and up to c + m: there are at most m
  module _ (c m : ℕ) (h : (k : ℕ) → T (p k) → (c < k) × (k ≤ c + m)) where
    above : (n : ℕ) → count p (up_to n) ≤ n - c
    above zero = zero-le
    above (suc n) =
        either_way (dec (p (suc n)))
        (λ e. let q = h (suc n) (true_T (p (suc n)) e) in omega (arith, up_to_last n, above n, one_le_one (p (suc n))))
        (λ e. let z : one? (p (suc n)) ≡ 0 = rw e in omega (arith, up_to_last n, above n))

    pub count_within : (n : ℕ) → count p (up_to n) ≤ m
    count_within zero = zero-le
    count_within (suc n) =
        either_way (dec (p (suc n))) (λ e. let q = h (suc n) (true_T (p (suc n)) e) in omega (arith, above (suc n)))
        (λ e. let z : one? (p (suc n)) ≡ 0 = rw e in omega (arith, up_to_last n, count_within n))

  -- where each number below one that passes does: those up to the count pass, and no more do
  module _ (closed : (j k : ℕ) → 1 ≤ j → j ≤ k → T (p k) → T (p j)) where
    pub first_pass : (n j : ℕ) → 1 ≤ j → j ≤ count p (up_to n) → T (p j)
    first_pass zero j a b = absurd (let x : ⊥ = omega arith in x)
    first_pass (suc n) j a b =
        by_lt (count p (up_to n)) j
        (λ l. either_way (dec (p (suc n)))
        (λ e. closed j (suc n) a (omega (arith, up_to_last n, count_le n, one_le_one (p (suc n)))) (true_T (p (suc n)) e))
        (λ e. absurd (let z : one? (p (suc n)) ≡ 0 = rw e in let x : ⊥ = omega (arith, up_to_last n) in x)))
        (λ l. first_pass n j a l)

    pub pass_first : (n j : ℕ) → 1 ≤ j → j ≤ n → T (p j) → j ≤ count p (up_to n)
    pass_first zero j a b t = absurd (let x : ⊥ = omega arith in x)
    pass_first (suc n) j a b t =
        by_lt n j
        (λ l.
        let e : j ≡ suc n = omega arith in
        let o : one? (p (suc n)) ≡ 1 = one_of (p (suc n)) (rw e at t) in
        by_lt 0 n (λ z. omega (arith, up_to_last n, pass_first n n z (le_refl n) (closed n j z (omega arith) t)))
        (λ z. omega (arith, up_to_last n)))
        (λ l. omega (arith, up_to_last n, pass_first n j a l t))
