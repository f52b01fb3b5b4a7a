-- No two ready server jobs have the same rank: the order of rule 5 is total, and one that stands before another has a lower rank.
use mathlib.Core.Path.{◌≡◌, sym, ap, ◌∙◌}
use mathlib.Core.Bool.{Bool, ◌&&◌}
use mathlib.Core.List.{List, [], ◌∷◌}
use Prim.Native.Nat.{ℕ, zero, suc, ◌+◌, ◌*◌, ◌-◌, ◌≤◌, ◌<◌, zero-le}
use native.Mathlib.Nat.{le_trans, mul-lt-mul_of_pos_right}
use native.Mathlib.Omega.{arith}
use lib.Dec.{T, eqb, eqb→eq, eqb_refl}
use lib.ListN.{length}
use Rattle.schedule.specs.Lists.{one?, count, joined}
use Rattle.schedule.specs.Servers.{Server, srv}
use Rattle.schedule.specs.ServerJobs.{ServerJob, jobs_from, release_of, released, priority_of, before, ready, ready_jobs, rank}
use Rattle.schedule.proofs.Tests.{and_l, and_r, and_i, by_lt, either_way, dec, true_T, one_of, none_of, one_le_one}
use Rattle.theorems.proofs.Counts.{server_job, count_keep, count_append}
use Rattle.theorems.proofs.Ready.{priority, before_is, is_before_lt, is_before_eq, ready_is}

-- p and e do not pass together, and where one of them passes so does q
count_apart : {A : Type 0} (p e q : A → Bool) → ((x : A) → one? (p x) + one? (e x) ≤ one? (q x)) → (l : List A) → count p l + count e l ≤ count q l
count_apart p e q h [] = omega arith
count_apart p e q h (x ∷ xs) = omega (arith, h x, count_apart p e q h xs)

jobs_there : (p : ServerJob → Bool) (i a n k : ℕ) → a ≤ k → k < a + n → T (p (server_job i k)) → 1 ≤ count p (jobs_from i a n)
jobs_there p i a zero k u v w = absurd (let z : ⊥ = omega arith in z)
jobs_there p i a (suc n) k u v w =
    by_lt a k (λ l. omega (arith, jobs_there p i (suc a) n k l (omega arith) w))
    (λ l. let e : k ≡ a = omega arith in omega (arith, one_of (p (server_job i a)) (rw e at w)))

joined_there : (p : ServerJob → Bool) (f : ℕ → List ServerJob) (a n i : ℕ) → a ≤ i → i < a + n → count p (f i) ≤ count p (joined f a n)
joined_there p f a zero i u v = absurd (let z : ⊥ = omega arith in z)
joined_there p f a (suc n) i u v =
    let both = count_append p (f a) (joined f (suc a) n) in
    by_lt a i (λ l. omega (arith, both, joined_there p f (suc a) n i l (omega arith)))
    (λ l. let e : i ≡ a = omega arith in rw e (omega (arith, both)))

-- of one server an earlier server job has the earlier deadline
pub priority_rises : (s : Server) → 0 < s.period → (j k : ℕ) → 1 ≤ j → j < k → priority_of s j < priority_of s k
unfolding priority_of release_of
priority_rises s some j k a b =
    let m : (j - 1) * s.period < (k - 1) * s.period = mul-lt-mul_of_pos_right {m = j - 1} {n = k - 1} {k = s.period} (omega arith) some in
    omega arith

module _ (S : List Server) (some : (i : ℕ) → i < length S → 0 < (srv S i).period) (σ : List (List ℕ)) (t : ℕ) where
  before_then : (x y z : ServerJob) → T (before S x y) → T (before S y z) → T (before S x z)
  before_then x y z a b =
      either_way (before_is S x y a)
      (λ p. either_way (before_is S y z b) (λ q. is_before_lt S x z (omega arith)) (λ q. is_before_lt S x z (omega (arith, q.0))))
      (λ p. either_way (before_is S y z b) (λ q. is_before_lt S x z (omega (arith, p.0)))
      (λ q. is_before_eq S x z (p.0 ∙ q.0) (omega (arith, p.1, q.1))))

  not_before_itself : (x : ServerJob) → T (before S x x) → ⊥
  not_before_itself x a = either_way (before_is S x x a) (λ p. let z : ⊥ = omega arith in z) (λ p. let z : ⊥ = omega (arith, p.1) in z)

  abbrev same : ServerJob → ServerJob → Bool
  same x y = eqb y.server x.server && eqb y.number x.number

  same_is : (x y : ServerJob) → T (same x y) → y ≡ x
  same_is x y w =
      let a : y.server ≡ x.server = eqb→eq y.server x.server (and_l (eqb y.server x.server) (eqb y.number x.number) w) in
      let b : y.number ≡ x.number = eqb→eq y.number x.number (and_r (eqb y.server x.server) (eqb y.number x.number) w) in
      λ i. record { server = a i; number = b i }

  abbrev R : List ServerJob
  R = ready_jobs S σ t

  -- a ready server job is among them
  itself : (x : ServerJob) → x.server < length S → T (ready S σ t x) → 1 ≤ count (same x) R
  unfolding ready_jobs
  itself x h w =
      let jobs : ℕ → List ServerJob = λ i. jobs_from i 1 (released (srv S i) t) in
      let both : ServerJob → Bool = λ y. ready S σ t y && same x y in
      let p = (ready_is S σ t x.server x.number w).pends in
      rw (count_keep (same x) (ready S σ t) (joined jobs 0 (length S)))
      (le_trans
      (jobs_there both x.server 1 (released (srv S x.server) t) x.number p.from (omega (arith, p.to))
      (and_i (ready S σ t x) (same x x) w (and_i (eqb x.server x.server) (eqb x.number x.number) (eqb_refl x.server) (eqb_refl x.number))))
      (joined_there both jobs 0 (length S) x.server zero-le (omega arith)))

  lower_rank : (x y : ServerJob) → x.server < length S → T (ready S σ t x) → T (before S x y) → rank S σ t x < rank S σ t y
  unfolding rank
  lower_rank x y h w b =
      let apart = count_apart (λ (z : ServerJob). before S z x) (same x) (λ (z : ServerJob). before S z y) each R in
      omega (arith, apart, itself x h w)
    where
      each : (z : ServerJob) → one? (before S z x) + one? (same x z) ≤ one? (before S z y)
      each z =
          either_way (dec (before S z x))
          (λ e.
          let a = true_T (before S z x) e in
          let q = one_of (before S z y) (before_then z x y a b) in
          omega (
            arith,
            q,
            one_le_one (before S z x),
            none_of (same x z) (λ v. not_before_itself x (rw (same_is x z v) at a)),
          ))
          (λ e.
          let n : one? (before S z x) ≡ 0 = rw e in
          either_way (dec (same x z))
          (λ f.
          let v = same_is x z (true_T (same x z) f) in
          omega (arith, n, one_le_one (same x z), one_of (before S z y) (rw v b)))
          (λ f. let m : one? (same x z) ≡ 0 = rw f in omega (arith, n, m)))

  pub one_rank : (i j k m : ℕ) → i < length S → k < length S → T (ready S σ t (server_job i j)) → T (ready S σ t (server_job k m))
      → rank S σ t (server_job i j) ≡ rank S σ t (server_job k m) → (i ≡ k) × (j ≡ m)
  one_rank i j k m h g a b e =
      let x = server_job i j in
      let y = server_job k m in
      let from-j = (ready_is S σ t i j a).pends.from in
      let from-m = (ready_is S σ t k m b).pends.from in
      by_lt (priority S x) (priority S y) (λ l. absurd (let z : ⊥ = omega (arith, e, lower_rank x y h a (is_before_lt S x y l)) in z))
      (λ l. by_lt (priority S y) (priority S x) (λ l'. absurd (let z : ⊥ = omega (arith, e, lower_rank y x g b (is_before_lt S y x l')) in z))
      (λ l'.
      let q : priority S x ≡ priority S y = omega arith in
      by_lt i k (λ u. absurd (let z : ⊥ = omega (arith, e, lower_rank x y h a (is_before_eq S x y q u)) in z))
      (λ u. by_lt k i (λ u'. absurd (let z : ⊥ = omega (arith, e, lower_rank y x g b (is_before_eq S y x (sym q) u')) in z))
      (λ u'.
      let p : i ≡ k = omega arith in
      (p, same_number i k j m p h from-j from-m q)))))
    where
      same_number : (i k j m : ℕ) → i ≡ k → i < length S → 1 ≤ j → 1 ≤ m → priority_of (srv S i) j ≡ priority_of (srv S k) m → j ≡ m
      same_number i k j m p h u v q =
          let q' : priority_of (srv S i) j ≡ priority_of (srv S i) m = q ∙ ap (λ (n : ℕ). priority_of (srv S n) m) (sym p) in
          by_lt j m (λ l. absurd (let z : ⊥ = omega (arith, q', priority_rises (srv S i) (some i h) j m u l) in z))
          (λ l. by_lt m j (λ l'. absurd (let z : ⊥ = omega (arith, q', priority_rises (srv S i) (some i h) m j v l') in z)) (λ l'. omega arith))
