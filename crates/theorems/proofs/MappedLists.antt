-- Lists whose entries are moved: what is kept, joined or read of a list with each entry moved is that of the list itself, moved.
use mathlib.Core.Path.{◌≡◌, refl, sym, ap, ◌∙◌}
use mathlib.Core.Bool.{Bool, true, false, cond}
use mathlib.Core.List.{List, [], ◌∷◌, ◌++◌, map, map-append}
use Prim.Native.Nat.{ℕ, zero, suc, ◌+◌, ◌≤◌, ◌<◌}
use native.Mathlib.Omega.{arith}
use lib.Dec.{T}
use Rattle.schedule.specs.Lists.{all?, keep, joined}
use Rattle.schedule.specs.ServerJobs.{ServerJob, jobs_from}
use Rattle.schedule.proofs.Tests.{and_l, and_r, and_i, by_test, true_T}
use Rattle.theorems.proofs.Counts.{server_job}

choice : {A B : Type 0} (f : A → B) (b : Bool) (x y : A) → f (cond b x y) ≡ cond b (f x) (f y)
choice f true x y = refl
choice f false x y = refl

module _ {A : Type 0} where
  pub keep_append : (p : A → Bool) (l r : List A) → keep p (l ++ r) ≡ keep p l ++ keep p r
  keep_append p [] r = refl
  keep_append p (x ∷ xs) r = go (p x) (keep_append p xs r)
    where
      go : (b : Bool) → keep p (xs ++ r) ≡ keep p xs ++ keep p r
          → cond b (x ∷ keep p (xs ++ r)) (keep p (xs ++ r)) ≡ cond b (x ∷ keep p xs) (keep p xs) ++ keep p r
      go true e = ap (λ (l : List A). x ∷ l) e
      go false e = e

  pub keep_joined : (p : A → Bool) (f : ℕ → List A) (a n : ℕ) → keep p (joined f a n) ≡ joined (λ (i : ℕ). keep p (f i)) a n
  keep_joined p f a zero = refl
  keep_joined p f a (suc n) =
      keep_append p (f a) (joined f (suc a) n) ∙ ap (λ (l : List A). keep p (f a) ++ l) (keep_joined p f (suc a) n)

  -- each entry kept passes; and what all entries pass, those kept, those joined and what is read of them pass
  pub kept_pass : (p : A → Bool) (l : List A) → T (all? p (keep p l))
  kept_pass p [] = tt
  kept_pass p (x ∷ xs) =
      by_test (p x) (λ e. rw e (and_i (p x) (all? p (keep p xs)) (true_T (p x) e) (kept_pass p xs))) (λ e. rw e (kept_pass p xs))

  pub pass_kept : (ok p : A → Bool) (l : List A) → T (all? ok l) → T (all? ok (keep p l))
  pass_kept ok p [] t = tt
  pass_kept ok p (x ∷ xs) t =
      let rest = pass_kept ok p xs (and_r (ok x) (all? ok xs) t) in
      by_test (p x) (λ e. rw e (and_i (ok x) (all? ok (keep p xs)) (and_l (ok x) (all? ok xs) t) rest)) (λ e. rw e rest)

  pass_append : (ok : A → Bool) (l r : List A) → T (all? ok l) → T (all? ok r) → T (all? ok (l ++ r))
  pass_append ok [] r t u = u
  pass_append ok (x ∷ xs) r t u =
      and_i (ok x) (all? ok (xs ++ r)) (and_l (ok x) (all? ok xs) t) (pass_append ok xs r (and_r (ok x) (all? ok xs) t) u)

  pub pass_joined : (ok : A → Bool) (f : ℕ → List A) → ((i : ℕ) → T (all? ok (f i))) → (a n : ℕ) → T (all? ok (joined f a n))
  pass_joined ok f h a zero = tt
  pass_joined ok f h a (suc n) = pass_append ok (f a) (joined f (suc a) n) (h a) (pass_joined ok f h (suc a) n)

  pub pass_read : {B : Type 0} (ok : A → Bool) (q : B → Bool) (f : A → B) → ((x : A) → T (ok x) → T (q (f x))) → (l : List A) → T (all? ok l)
      → T (all? q (map f l))
  pass_read ok q f h [] t = tt
  pass_read ok q f h (x ∷ xs) t =
      and_i (q (f x)) (all? q (map f xs)) (h x (and_l (ok x) (all? ok xs) t)) (pass_read ok q f h xs (and_r (ok x) (all? ok xs) t))

  module _ (s : A → A) where
    -- where a moved entry passes q as the entry itself passes p
    pub keep_moved : (ok p q : A → Bool) → ((x : A) → T (ok x) → q (s x) ≡ p x) → (l : List A) → T (all? ok l)
        → keep q (map s l) ≡ map s (keep p l)
    keep_moved ok p q h [] t = refl
    keep_moved ok p q h (x ∷ xs) t =
        rw (h x (and_l (ok x) (all? ok xs) t), keep_moved ok p q h xs (and_r (ok x) (all? ok xs) t))
        (sym (choice (map s) (p x) (x ∷ keep p xs) (keep p xs)))

    pub joined_moved : (f g : ℕ → List A) → ((i : ℕ) → f i ≡ map s (g i)) → (a n : ℕ) → joined f a n ≡ map s (joined g a n)
    joined_moved f g h a zero = refl
    joined_moved f g h a (suc n) = rw (h a, joined_moved f g h (suc a) n) (sym (map-append s (g a) (joined g (suc a) n)))

    -- what is read of each moved entry is what is read of the entry, moved in its own way
    pub read_moved : {B : Type 0} (ok : A → Bool) (f g : A → B) (m : B → B) → ((x : A) → T (ok x) → f (s x) ≡ m (g x)) → (l : List A)
        → T (all? ok l) → map f (map s l) ≡ map m (map g l)
    read_moved ok f g m h [] t = refl
    read_moved ok f g m h (x ∷ xs) t =
        rw (h x (and_l (ok x) (all? ok xs) t), read_moved ok f g m h xs (and_r (ok x) (all? ok xs) t))

-- server jobs a to a + n - 1 of server i: none is kept; the first m and the rest; those h numbers on
pub keep_none : (p : ServerJob → Bool) (i a n : ℕ) → ((k : ℕ) → a ≤ k → k < a + n → T (p (server_job i k)) → ⊥) → keep p (jobs_from i a n) ≡ []
keep_none p i a zero h = refl
keep_none p i a (suc n) h =
    by_test (p (server_job i a)) (λ e. absurd (h a (omega arith) (omega arith) (true_T (p (server_job i a)) e)))
    (λ e. rw e (keep_none p i (suc a) n (λ k b c. h k (omega arith) (omega arith))))

pub jobs_append : (i a m n : ℕ) → jobs_from i a (m + n) ≡ jobs_from i a m ++ jobs_from i (a + m) n
jobs_append i a zero n = let e : 0 + n ≡ n = omega arith in let e' : a + 0 ≡ a = omega arith in rw (e, e')
jobs_append i a (suc m) n =
    let e : suc m + n ≡ suc (m + n) = omega arith in
    let e' : a + suc m ≡ suc a + m = omega arith in
    rw (e, e', jobs_append i (suc a) m n)

pub keep_shift : (p q : ServerJob → Bool) (s : ServerJob → ServerJob) (i h a n : ℕ)
    → ((k : ℕ) → a ≤ k → p (server_job i (k + h)) ≡ q (server_job i k)) → ((k : ℕ) → s (server_job i k) ≡ server_job i (k + h))
    → keep p (jobs_from i (a + h) n) ≡ map s (keep q (jobs_from i a n))
keep_shift p q s i h a zero e f = refl
keep_shift p q s i h a (suc n) e f =
    let e' : suc (a + h) ≡ suc a + h = omega arith in
    rw (e a (omega arith), e', keep_shift p q s i h (suc a) n (λ k b. e k (omega arith)) f, ← f a)
    (sym (choice (map s) (q (server_job i a)) (server_job i a ∷ keep q (jobs_from i (suc a) n)) (keep q (jobs_from i (suc a) n))))
