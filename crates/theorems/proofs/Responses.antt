-- The figure is the largest response: each job of node i finished by t has a response of at most the figure, and where the figure is not 0
-- one of them has it exactly. For any needs of at least one tick.
use mathlib.Core.Path.{◌≡◌, refl, sym, ◌∙◌}
use mathlib.Core.Bool.{Bool, ◌&&◌, cond}
use mathlib.Core.Logic.{◌⊎◌, inl, inr}
use Prim.Native.Nat.{ℕ, zero, suc, ◌+◌, ◌-◌, ◌≤◌, ◌<◌, max}
use native.Mathlib.Nat.{le_refl, le_trans, not-suc-le-zero}
use native.Mathlib.Omega.{arith}
use lib.Dec.{T, leb, ltb, leb→le, ltb→lt, le→leb, lt→ltb}
use Rattle.schedule.specs.Lists.{largest, numbers, up_to}
use Rattle.schedule.specs.Servers.{srv, Box}
use Rattle.schedule.specs.ServerJobs.{release_of, released, released_before, used}
use Rattle.schedule.specs.Links.{links}
use Rattle.schedule.specs.Walk.{response_at, finishing, figure}
use Rattle.schedule.proofs.Tests.{by_lt, either_way, dec, and_l, and_r, and_i, T_true, true_T}
use Rattle.theorems.proofs.Releases.{released_before_le}
use Rattle.theorems.proofs.InTurn.{used_by, used_out}
use Rattle.theorems.proofs.LinkRows.{linked_once}
use Rattle.theorems.proofs.Linking.{link_of, links_old, links_in_order}
use Rattle.theorems.proofs.Finishing.{Finished, finished_next, finished_stays}

-- the largest of n numbers from a on is at least each, and is one of them if it is not 0
module _ (f : ℕ → ℕ) where
  largest_ge : (a n k : ℕ) → a ≤ k → k < a + n → f k ≤ largest f (numbers a n)
  largest_ge a zero k p q = absurd (let x : ⊥ = omega arith in x)
  largest_ge a (suc n) k p q =
      by_lt a k (λ l. omega (arith, largest_ge (suc a) n k l (omega arith))) (λ l. let e : k ≡ a = omega arith in rw e (omega arith))

  largest_is : (a n : ℕ) → 0 < largest f (numbers a n) → (k : ℕ) × (a ≤ k) × (k < a + n) × (f k ≡ largest f (numbers a n))
  largest_is a zero p = absurd (let x : ⊥ = omega arith in x)
  largest_is a (suc n) p =
      by_lt (f a) (largest f (numbers (suc a) n))
      (λ l. let (k, b, c, e) = largest_is (suc a) n (omega arith) in (k, omega arith, omega arith, e ∙ omega arith))
      (λ l. (a, le_refl a, omega arith, omega arith))

module _ (X : Box) (need : ℕ → ℕ → ℕ) (i : ℕ) (some : (j : ℕ) → 1 ≤ j → 1 ≤ need i j) where
  abbrev Fin : ℕ → ℕ → Type 0
  Fin t j = Finished X.servers X.cap need t i j

  abbrev ticks : ℕ → ℕ → ℕ
  ticks t k = used_by X.servers X.cap t i k

  abbrev job_of : ℕ → ℕ → ℕ
  job_of t k = link_of X.servers X.cap need t i k

  abbrev release : ℕ → ℕ
  release j = release_of (srv X.servers i) j

  abbrev released_by : ℕ → ℕ
  released_by t = released (srv X.servers i) t

  -- the job of server job k finishes at t + 1 exactly
  record Newly (t k : ℕ) : Type 0 where
    linked : 1 ≤ job_of (suc t) k
    full : need i (job_of (suc t) k) ≤ ticks (suc t) k
    not_yet : ticks t k < need i (job_of (suc t) k)

  newly : ℕ → ℕ → Bool
  newly t k = ltb 0 (job_of (suc t) k) && (leb (need i (job_of (suc t) k)) (ticks (suc t) k) && ltb (ticks t k) (need i (job_of (suc t) k)))

  newly_is : (t k : ℕ) → T (newly t k) → Newly t k
  unfolding newly
  newly_is t k n =
      let j = job_of (suc t) k in
      let A = ltb 0 j in
      let B = leb (need i j) (ticks (suc t) k) in
      let C = ltb (ticks t k) (need i j) in
      record {
        linked = ltb→lt 0 j (and_l A (B && C) n);
        full = leb→le (need i j) (ticks (suc t) k) (and_l B C (and_r A (B && C) n));
        not_yet = ltb→lt (ticks t k) (need i j) (and_r B C (and_r A (B && C) n));
      }

  is_newly : (t k : ℕ) → Newly t k → T (newly t k)
  unfolding newly
  is_newly t k n =
      let j = job_of (suc t) k in
      and_i (ltb 0 j) (leb (need i j) (ticks (suc t) k) && ltb (ticks t k) (need i j)) (lt→ltb 0 j n.linked)
      (and_i (leb (need i j) (ticks (suc t) k)) (ltb (ticks t k) (need i j)) (le→leb (need i j) (ticks (suc t) k) n.full)
      (lt→ltb (ticks t k) (need i j) n.not_yet))

  abbrev response : ℕ → ℕ → ℕ
  response t k =
      response_at X need (used X.servers X.cap t) (used X.servers X.cap (suc t)) (links X.servers X.cap need (suc t)) (suc t) i k

  response_cases : (t k : ℕ) → response t k ≡ cond (newly t k) (suc t - release (job_of (suc t) k)) 0
  unfolding response_at newly
  response_cases t k = refl

  response_of_lem : (t k : ℕ) → Newly t k → response t k ≡ suc t - release (job_of (suc t) k)
  response_of_lem t k n = response_cases t k ∙ rw (T_true {b = newly t k} (is_newly t k n))

  response_new : (t k : ℕ) → 0 < response t k → Newly t k
  response_new t k p =
      either_way (dec (newly t k)) (λ e. newly_is t k (true_T (newly t k) e))
      (λ e. absurd (let z : response t k ≡ 0 = response_cases t k ∙ rw e in let x : ⊥ = omega arith in x))

  best : ℕ → ℕ
  best t = largest (response t) (up_to (released_by t))

  figure_next : (t : ℕ) → figure X need i (suc t) ≡ max (best t) (figure X need i t)
  unfolding figure finishing best
  figure_next t = refl

  bound_next : (t j : ℕ) → 1 ≤ j → Fin (suc t) j → (Fin t j → Fin (release j + figure X need i t) j) → Fin (release j + figure X need i (suc t)) j
  unfolding released_before best
  bound_next t j a f ih =
      by_lt (ticks t f.k) (need i j)
      (λ l.
      let n : Newly t f.k = record { linked = rw f.is a; full = rw f.is f.has; not_yet = rw f.is l } in
      let g : suc t - release j ≤ best t =
      rw (response_of_lem t f.k n, f.is) at (largest_ge (response t) 1 (released_by t) f.k f.from (omega (arith, f.to))) in
      finished_stays X.servers X.cap need (suc t) (release j + figure X need i (suc t)) i j (omega (arith, figure_next t)) f)
      (λ l.
      let o : f.k ≤ released_before (srv X.servers i) t =
      by_lt (released_before (srv X.servers i) t) f.k
      (λ z. absurd (let x : ⊥ = omega (arith, some j a, used_out X.servers X.cap t i f.k z) in x)) (λ z. z) in
      let old : Fin t j =
      record { k = f.k; from = f.from; to = o; is = sym (links_old X.servers X.cap need t i f.k f.from o) ∙ f.is; has = l } in
      finished_stays X.servers X.cap need (release j + figure X need i t) (release j + figure X need i (suc t)) i j
      (omega (arith, figure_next t)) (ih old))

  pub figure_bounds : (t j : ℕ) → 1 ≤ j → Fin t j → Fin (release j + figure X need i t) j
  unfolding released_before
  figure_bounds zero j a f = absurd (not-suc-le-zero (le_trans f.from f.to))
  figure_bounds (suc t) j a f = bound_next t j a f (λ g. figure_bounds t j a g)

  -- a job finished by t that is not finished before R ticks after its release
  pub record Exact (t R : ℕ) : Type 0 where
    pub j : ℕ
    pub from : 1 ≤ j
    pub by : Fin t j
    pub no_earlier : (v : ℕ) → Fin v j → release j + R ≤ v

  not_before : (t k v : ℕ) → 1 ≤ k → k ≤ released_by t → Newly t k → Fin v (job_of (suc t) k) → suc t ≤ v
  unfolding released_before
  not_before t k v a b n f =
      by_lt v (suc t)
      (λ l.
      let g = finished_stays X.servers X.cap need v t i (job_of (suc t) k) (omega arith) f in
      let same : job_of (suc t) g.k ≡ job_of (suc t) k = links_old X.servers X.cap need t i g.k g.from g.to ∙ g.is in
      let e : g.k ≡ k =
      linked_once (job_of (suc t)) (released_by t) (links_in_order X.servers X.cap need (suc t) i) g.k k g.from
      (omega (arith, g.to, released_before_le (srv X.servers i) t)) a b (omega (arith, n.linked)) same in
      let z : need i (job_of (suc t) k) ≤ ticks t k = rw e at g.has in
      absurd (let x : ⊥ = omega (arith, n.not_yet) in x))
      (λ l. l)

  exact_next : (t : ℕ) → (figure X need i t ≡ 0) ⊎ Exact t (figure X need i t)
      → (figure X need i (suc t) ≡ 0) ⊎ Exact (suc t) (figure X need i (suc t))
  unfolding released_before best
  exact_next t r =
      by_lt (figure X need i t) (best t)
      (λ l.
      let (k, a, b, e) = largest_is (response t) 1 (released_by t) (omega arith) in
      let n = response_new t k (omega arith) in
      inr
      (record {
        j = job_of (suc t) k;
        from = n.linked;
        by = record { k = k; from = a; to = omega arith; is = refl; has = n.full };
        no_earlier = λ v f. omega (arith, figure_next t, e, response_of_lem t k n, not_before t k v a (omega arith) n f);
      }))
      (λ l.
      let e : figure X need i (suc t) ≡ figure X need i t = omega (arith, figure_next t) in
      rw e
      (either_way r (λ z. inl z)
      (λ w.
      let by = finished_next X.servers X.cap need t i w.j w.by in
      inr (record { j = w.j; from = w.from; by = by; no_earlier = w.no_earlier }))))

  pub figure_exact : (t : ℕ) → (figure X need i t ≡ 0) ⊎ Exact t (figure X need i t)
  unfolding figure
  figure_exact zero = inl refl
  figure_exact (suc t) = exact_next t (figure_exact t)
