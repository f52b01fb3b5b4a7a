-- Lists one after the other, and what a test keeps of server jobs: the one that passes, or none.
use mathlib.Core.Path.{◌≡◌, refl, sym, ◌∙◌}
use mathlib.Core.Bool.{Bool, ◌&&◌}
use mathlib.Core.List.{List, [], ◌∷◌, ◌++◌, append_assoc, append-nil, map, map-append}
use Prim.Native.Nat.{ℕ, zero, suc, ◌+◌, ◌≤◌, ◌<◌}
use native.Mathlib.Nat.{le_refl, zero-add}
use native.Mathlib.Omega.{arith}
use lib.Dec.{T}
use Rattle.schedule.specs.Lists.{keep, joined}
use Rattle.schedule.specs.ServerJobs.{ServerJob, jobs_from}
use Rattle.schedule.proofs.Tests.{by_lt, either_way, dec, true_T, T_true}
use Rattle.theorems.proofs.Counts.{server_job}

module _ {A : Type 0} where
  pub joined_last : (f : ℕ → List A) (a n : ℕ) → joined f a (suc n) ≡ joined f a n ++ f (a + n)
  joined_last f a zero = let e : a + 0 ≡ a = omega arith in rw (e, append-nil (f a))
  joined_last f a (suc n) =
      let e : a + suc n ≡ suc a + n = omega arith in
      rw (e, joined_last f (suc a) n, ← append_assoc (f a) (joined f (suc a) n) (f (suc a + n)))

  -- the lists from the n-th on are empty
  pub joined_cut : (f : ℕ → List A) (n m : ℕ) → n ≤ m → ((r : ℕ) → n ≤ r → r < m → f r ≡ []) → joined f 0 m ≡ joined f 0 n
  joined_cut f n zero h e = let z : n ≡ 0 = omega arith in rw z
  joined_cut f n (suc m) h e =
      by_lt n (suc m)
      (λ l. joined_last f 0 m
      ∙ rw (zero-add m, e m (omega arith) (omega arith), append-nil (joined f 0 m)) (joined_cut f n m (omega arith) (λ r u v. e r u (omega arith))))
      (λ l. let z : n ≡ suc m = omega arith in rw z)

  -- all are empty but that of j
  joined_none : (f : ℕ → List A) (a n : ℕ) → ((i : ℕ) → a ≤ i → f i ≡ []) → joined f a n ≡ []
  joined_none f a zero e = refl
  joined_none f a (suc n) e = rw (e a (le_refl a), joined_none f (suc a) n (λ i u. e i (omega arith)))

  pub joined_one : (f : ℕ → List A) (j a n : ℕ) → a ≤ j → j < a + n → ((i : ℕ) → (i ≡ j → ⊥) → f i ≡ []) → joined f a n ≡ f j
  joined_one f j a zero u v e = absurd (omega arith)
  joined_one f j a (suc n) u v e =
      by_lt a j
      (λ l. rw (e a (λ (z : a ≡ j). omega arith)) (joined_one f j (suc a) n l (omega arith) e))
      (λ l.
      let z : a ≡ j = omega arith in
      rw (z, joined_none f (suc j) n (λ i k. e i (λ (y : i ≡ j). omega arith)), append-nil (f j)))

  pub map_joined : {B : Type 0} (f : A → B) (g : ℕ → List A) (h : ℕ → List B) (a n : ℕ)
      → ((r : ℕ) → a ≤ r → r < a + n → map f (g r) ≡ h r) → map f (joined g a n) ≡ joined h a n
  map_joined f g h a zero e = refl
  map_joined f g h a (suc n) e =
      map-append f (g a) (joined g (suc a) n)
      ∙ rw (e a (le_refl a) (omega arith), map_joined f g h (suc a) n (λ r u v. e r (omega arith) (omega arith)))

  keep_append : (p : A → Bool) (l r : List A) → keep p (l ++ r) ≡ keep p l ++ keep p r
  keep_append p [] r = refl
  keep_append p (x ∷ l) r = either_way (dec (p x)) (λ e. rw (e, keep_append p l r)) (λ e. rw (e, keep_append p l r))

  pub keep_joined : (p : A → Bool) (f : ℕ → List A) (a n : ℕ) → keep p (joined f a n) ≡ joined (λ (i : ℕ). keep p (f i)) a n
  keep_joined p f a zero = refl
  keep_joined p f a (suc n) = keep_append p (f a) (joined f (suc a) n) ∙ rw (keep_joined p f (suc a) n)

  pub keep_keep : (p q : A → Bool) (l : List A) → keep p (keep q l) ≡ keep (λ (x : A). q x && p x) l
  keep_keep p q [] = refl
  keep_keep p q (x ∷ l) = either_way (dec (q x)) (λ z. rw (z, keep_keep p q l)) (λ z. rw (z, keep_keep p q l))

  -- none passes both
  pub keep_neither : (p q : A → Bool) → ((x : A) → T (q x) → T (p x) → ⊥) → (l : List A) → keep p (keep q l) ≡ []
  keep_neither p q h [] = refl
  keep_neither p q h (x ∷ l) =
      either_way (dec (q x))
      (λ z. either_way (dec (p x)) (λ y. absurd (h x (true_T (q x) z) (true_T (p x) y))) (λ y. rw (z, y) (keep_neither p q h l)))
      (λ z. rw z (keep_neither p q h l))

module _ (p : ServerJob → Bool) (i : ℕ) where
  pub jobs_none : (b m : ℕ) → ((k : ℕ) → b ≤ k → T (p (server_job i k)) → ⊥) → keep p (jobs_from i b m) ≡ []
  jobs_none b zero h = refl
  jobs_none b (suc m) h =
      either_way (dec (p (server_job i b))) (λ e. absurd (h b (le_refl b) (true_T (p (server_job i b)) e)))
      (λ e. rw e (jobs_none (suc b) m (λ k u. h k (omega arith))))

  pub jobs_one : (k b m : ℕ) → b ≤ k → k < b + m → T (p (server_job i k)) → ((j : ℕ) → T (p (server_job i j)) → j ≡ k)
      → keep p (jobs_from i b m) ≡ server_job i k ∷ []
  jobs_one k b zero u v t only = absurd (omega arith)
  jobs_one k b (suc m) u v t only =
      by_lt b k
      (λ l. either_way (dec (p (server_job i b))) (λ e. absurd (other l (only b (true_T (p (server_job i b)) e))))
      (λ e. rw e (jobs_one k (suc b) m l (omega arith) t only)))
      (λ l. let z : b ≡ k = omega arith in rw (z, T_true {b = p (server_job i k)} t, jobs_none (suc k) m (λ j g s. other g (sym (only j s)))))
    where
      other : {a c : ℕ} → a < c → a ≡ c → ⊥
      other l e = omega arith
