-- The rank of a server job is how many keys of ready server jobs are below its own. No two ready server jobs have the same key, so each key
-- counts once.
use mathlib.Core.Path.{◌≡◌, refl, ◌∙◌}
use mathlib.Core.Bool.{Bool, true, false, ◌&&◌}
use mathlib.Core.List.{List, [], ◌∷◌}
use mathlib.Core.Logic.{◌⊎◌}
use Prim.Native.Nat.{ℕ, zero, suc, ◌+◌, ◌%◌, ◌≤◌, ◌<◌, zero-le}
use native.Mathlib.Nat.{le_trans}
use native.Mathlib.Omega.{arith}
use lib.Dec.{T, ltb, eqb, ltb→lt, lt→ltb, eqb→eq}
use lib.ListN.{length}
use borrow.Author.Tests.{lt-ltb, le-ltb, eq-eqb, ne_eqb}
use Rattle.schedule.specs.Lists.{one?, count, joined}
use Rattle.schedule.specs.Servers.{Server, srv, Box}
use Rattle.schedule.specs.ServerJobs.{ServerJob, jobs_from, released, before, ready, ready_jobs, rank, used}
use Rattle.schedule.proofs.Tests.{by_lt, either_way, dec, true_T, and_l, and_r, and_i, one_of, one_le_one, eq→eqb}
use Rattle.theorems.proofs.Counts.{server_job, count_append, count_keep, count_none, count_mono}
use Rattle.theorems.proofs.Ready.{ready_is}
use Rattle.table.specs.declared.State.{State}
use Rattle.window.specs.declared.Plan.{Plan}
use Rattle.window.specs.Entries.{places}
use Rattle.window.proofs.Relation.{last_instant, Fits, Released}
use Rattle.window.proofs.Keys.{key_of, key_order, keys_rise, standing}

module _ {A : Type 0} where
  count_alike : (p q : A → Bool) → ((x : A) → p x ≡ q x) → (l : List A) → count p l ≡ count q l
  count_alike p q h [] = refl
  count_alike p q h (x ∷ l) = rw (h x, count_alike p q h l)

  count_sum : (p q r : A → Bool) → ((x : A) → one? (p x) ≡ one? (q x) + one? (r x)) → (l : List A) → count p l ≡ count q l + count r l
  count_sum p q r h [] = refl
  count_sum p q r h (x ∷ l) = omega (arith, h x, count_sum p q r h l)

unless : (b x y : Bool) → (T b → x ≡ y) → (b && x) ≡ (b && y)
unless true x y h = h tt
unless false x y h = refl

module _ (p : ServerJob → Bool) where
  -- of one server, where no two that pass differ
  jobs_once : (i b m : ℕ) → ((j k : ℕ) → b ≤ j → j < k → T (p (server_job i j)) → T (p (server_job i k)) → ⊥) → count p (jobs_from i b m) ≤ 1
  jobs_once i b zero h = zero-le
  jobs_once i b (suc m) h =
      either_way (dec (p (server_job i b)))
      (λ e. omega (
        arith,
        one_le_one (p (server_job i b)),
        count_none p i (suc b) m (λ k u v t. h b k (omega arith) u (true_T (p (server_job i b)) e) t),
      ))
      (λ e.
      let o : one? (p (server_job i b)) ≡ 0 = rw e in
      omega (arith, jobs_once i (suc b) m (λ j k u v s t. h j k (omega arith) v s t)))

  jobs_there : (i b m k : ℕ) → b ≤ k → k < b + m → T (p (server_job i k)) → 1 ≤ count p (jobs_from i b m)
  jobs_there i b zero k u v t = absurd (let z : ⊥ = omega arith in z)
  jobs_there i b (suc m) k u v t =
      by_lt b k (λ l. omega (arith, jobs_there i (suc b) m k l (omega arith) t))
      (λ l.
      let e : k ≡ b = omega arith in
      let o : one? (p (server_job i b)) ≡ 1 = one_of (p (server_job i b)) (rw e at t) in
      omega arith)

  module _ (f : ℕ → List ServerJob) where
    -- of lists one after the other, where all but that of j count nothing
    joined_once : (j N : ℕ) → ((i : ℕ) → i < N → (i ≡ j → ⊥) → count p (f i) ≡ 0) → (j < N → count p (f j) ≤ 1) → (a n : ℕ) → a + n ≤ N
        → (count p (joined f a n) ≤ 1) × (j < a → count p (joined f a n) ≡ 0)
    joined_once j N none one a zero h = (zero-le, λ l. refl)
    joined_once j N none one a (suc n) h =
        let (x, y) = joined_once j N none one (suc a) n (omega arith) in
        let both = count_append p (f a) (joined f (suc a) n) in (
          by_lt a j (λ l. omega (arith, none a (omega arith) (λ e. omega arith)))
              (λ l. by_lt j a (λ k. omega (arith, none a (omega arith) (λ e. omega arith)))
              (λ k.
              let e : a ≡ j = omega arith in
              let own : count p (f a) ≤ 1 = rw e (one (omega arith)) in
              omega (arith, y (omega arith)))),
          λ l. omega (arith, none a (omega arith) (λ e. omega arith), y (omega arith)),
        )

    joined_there : (a n i : ℕ) → a ≤ i → i < a + n → count p (f i) ≤ count p (joined f a n)
    joined_there a zero i u v = absurd (let z : ⊥ = omega arith in z)
    joined_there a (suc n) i u v =
        let both = count_append p (f a) (joined f (suc a) n) in
        by_lt a i (λ l. omega (arith, joined_there (suc a) n i l (omega arith)))
        (λ l. let e : i ≡ a = omega arith in rw e (omega arith))

module _ (X : Box) (t : ℕ) where
  abbrev S : List Server
  S = X.servers

  abbrev pub ready_at : ServerJob → Bool
  ready_at y = ready S (used S X.cap t) t y

  -- the rank at t, with the ticks used before it
  abbrev pub rank_at : ServerJob → ℕ
  rank_at x = rank S (used S X.cap t) t x

  abbrev released_jobs : List ServerJob
  released_jobs = joined (λ (i : ℕ). jobs_from i 1 (released (srv S i) t)) 0 (length S)

  -- how many ready server jobs have a key below x, and how many the key x
  pub below : ℕ → ℕ
  below x = count (λ (y : ServerJob). ready_at y && ltb (key_of S y) x) released_jobs

  having : ℕ → ℕ
  having x = count (λ (y : ServerJob). ready_at y && eqb (key_of S y) x) released_jobs

  pub below_grows : (a b : ℕ) → a ≤ b → below a ≤ below b
  unfolding below
  below_grows a b h =
      count_mono (λ (y : ServerJob). ready_at y && ltb (key_of S y) a) (λ (y : ServerJob). ready_at y && ltb (key_of S y) b)
      (λ y z.
      let r = and_l (ready_at y) (ltb (key_of S y) a) z in
      let l = ltb→lt (key_of S y) a (and_r (ready_at y) (ltb (key_of S y) a) z) in
      and_i (ready_at y) (ltb (key_of S y) b) r (lt→ltb (key_of S y) b (omega arith))) released_jobs

  -- no key lies from a up to b
  pub below_same : (a b : ℕ) → a ≤ b → ((y : ServerJob) → T (ready_at y) → (key_of S y < a) ⊎ (b ≤ key_of S y)) → below b ≡ below a
  unfolding below
  below_same a b h none =
      count_alike (λ (y : ServerJob). ready_at y && ltb (key_of S y) b) (λ (y : ServerJob). ready_at y && ltb (key_of S y) a)
      (λ y. unless (ready_at y) (ltb (key_of S y) b) (ltb (key_of S y) a)
      (λ r. either_way (none y r) (λ l. rw (lt-ltb (key_of S y) b (omega arith), lt-ltb (key_of S y) a l))
      (λ l. rw (le-ltb (key_of S y) b l, le-ltb (key_of S y) a (omega arith))))) released_jobs

  pub below_none : below 0 ≡ 0
  unfolding below
  below_none =
      count_alike (λ (y : ServerJob). ready_at y && ltb (key_of S y) 0) (λ (y : ServerJob). false)
      (λ y. rw (le-ltb (key_of S y) 0 zero-le) (never (ready_at y))) released_jobs
      ∙ zeros released_jobs
    where
      never : (b : Bool) → (b && false) ≡ false
      never true = refl
      never false = refl

      zeros : (l : List ServerJob) → count (λ (y : ServerJob). false) l ≡ 0
      zeros [] = refl
      zeros (x ∷ l) = omega (arith, zeros l)

  below_and_having : (x : ℕ) → below (x + 1) ≡ below x + having x
  unfolding below having
  below_and_having x =
      count_sum (λ (y : ServerJob). ready_at y && ltb (key_of S y) (x + 1)) (λ (y : ServerJob). ready_at y && ltb (key_of S y) x)
      (λ (y : ServerJob). ready_at y && eqb (key_of S y) x) (λ y. either (ready_at y) (key_of S y)) released_jobs
    where
      next : (y : ℕ) → one? (ltb y (x + 1)) ≡ one? (ltb y x) + one? (eqb y x)
      next y =
          by_lt y x (λ h. rw (lt-ltb y (x + 1) (omega arith), lt-ltb y x h, ne_eqb y x (λ e. omega arith)))
          (λ h. by_lt x y (λ g. rw (le-ltb y (x + 1) (omega arith), le-ltb y x h, ne_eqb y x (λ e. omega arith)))
          (λ g. rw (lt-ltb y (x + 1) (omega arith), le-ltb y x h, eq-eqb y x (omega arith))))

      either : (b : Bool) (y : ℕ) → one? (b && ltb y (x + 1)) ≡ one? (b && ltb y x) + one? (b && eqb y x)
      either true y = next y
      either false y = refl

  module _ (plan : Plan) (st : State) (fits : Fits X plan) (rel : Released X t st) (near : t ≤ last_instant) where
    abbrev jobs : ℕ → List ServerJob
    jobs i = jobs_from i 1 (released (srv S i) t)

    having_once : (x : ℕ) → having x ≤ 1
    unfolding having
    having_once x = (joined_once p jobs (x % places) (length S) elsewhere of_one 0 (length S) (omega arith)).0
      where
        p : ServerJob → Bool
        p y = ready_at y && eqb (key_of S y) x

        equal : (y : ServerJob) → T (p y) → key_of S y ≡ x
        equal y z = eqb→eq (key_of S y) x (and_r (ready_at y) (eqb (key_of S y) x) z)

        elsewhere : (i : ℕ) → i < length S → (i ≡ x % places → ⊥) → count p (jobs i) ≡ 0
        elsewhere i h z =
            count_none p i 1 (released (srv S i) t) (λ k u v e. z (omega (arith, equal (server_job i k) e, fits.small)))

        of_one : x % places < length S → count p (jobs (x % places)) ≤ 1
        of_one h =
            jobs_once p (x % places) 1 (released (srv S (x % places)) t)
            (λ j k u v s e.
            let i = x % places in
            omega (arith, keys_rise X plan t st fits rel near i j k h u v, equal (server_job i j) s, equal (server_job i k) e))

    key_there : (x : ServerJob) → T (ready_at x) → 1 ≤ having (key_of S x)
    unfolding having
    key_there x r =
        let i = x.server in
        let k = x.number in
        let p : ServerJob → Bool = λ y. ready_at y && eqb (key_of S y) (key_of S x) in
        let pends = (ready_is S (used S X.cap t) t i k r).pends in
        le_trans
        (jobs_there p i 1 (released (srv S i) t) k pends.from (omega (arith, pends.to))
        (and_i (ready_at x) (eqb (key_of S x) (key_of S x)) r (eq→eqb (key_of S x) (key_of S x) refl)))
        (joined_there p jobs 0 (length S) i zero-le (omega (arith, (standing X plan t st fits rel near x r).inside)))

    -- a ready server job's key counts once
    pub below_next : (x : ServerJob) → T (ready_at x) → below (key_of S x + 1) ≡ suc (below (key_of S x))
    below_next x r = omega (arith, below_and_having (key_of S x), having_once (key_of S x), key_there x r)

    -- the rank is how many keys are below
    pub rank_is : (x : ServerJob) → x.server < length S → rank_at x ≡ below (key_of S x)
    unfolding rank ready_jobs below
    rank_is x h =
        count_keep (λ (y : ServerJob). before S y x) ready_at (joined jobs 0 (length S))
        ∙ count_alike (λ (y : ServerJob). ready_at y && before S y x) (λ (y : ServerJob). ready_at y && ltb (key_of S y) (key_of S x))
        (λ y. unless (ready_at y) (before S y x) (ltb (key_of S y) (key_of S x))
        (λ r. key_order S y x (omega (arith, (standing X plan t st fits rel near y r).inside, fits.small)) (omega (arith, fits.small))))
        (joined jobs 0 (length S))

    -- two ready server jobs of one rank have one key
    pub same_key : (x y : ServerJob) → T (ready_at x) → T (ready_at y) → below (key_of S x) ≡ below (key_of S y) → key_of S x ≡ key_of S y
    same_key x y r s e =
        by_lt (key_of S x) (key_of S y)
        (λ l. absurd (let z : ⊥ = omega (arith, below_next x r, below_grows (key_of S x + 1) (key_of S y) (omega arith)) in z))
        (λ l. by_lt (key_of S y) (key_of S x)
        (λ k. absurd (let z : ⊥ = omega (arith, below_next y s, below_grows (key_of S y + 1) (key_of S x) (omega arith)) in z))
        (λ k. omega arith))
