-- The response that is taken of a dropped server job is that of the job linked to it, and the largest of them is the figure: over the
-- server jobs complete at a span's start it is the figure there, over those complete at its end the figure at its end, and each between adds
-- its own.
use mathlib.Core.Path.{◌≡◌, refl, sym, ap, ◌∙◌}
use mathlib.Core.Bool.{Bool, true, false, ◌&&◌, cond}
use mathlib.Core.List.{List}
use Prim.Native.Nat.{ℕ, zero, suc, ◌+◌, ◌*◌, ◌-◌, ◌≤◌, ◌<◌, max}
use native.Mathlib.Nat.{add-mul}
use native.Mathlib.Omega.{arith}
use lib.Dec.{leb, ltb}
use lib.ListN.{length}
use borrow.Author.Tests.{lt-ltb, le-ltb, le-leb, lt-leb}
use Rattle.schedule.specs.Lists.{largest, numbers, up_to}
use Rattle.schedule.specs.Servers.{Server, srv, Box, whole}
use Rattle.schedule.specs.ServerJobs.{release_of, released, released_before, used}
use Rattle.schedule.specs.Links.{links}
use Rattle.schedule.specs.Walk.{response_at, finishing, figure}
use Rattle.schedule.proofs.Tests.{by_lt}
use Rattle.theorems.proofs.InTurn.{budget_of, used_by, used_out, completed, completed_le, is_complete, not_complete}
use Rattle.theorems.proofs.Linking.{link_of}
use Rattle.theorems.proofs.QuietSpans.{Quiet}
use Rattle.theorems.proofs.QuietWalk.{links_within, whole_ahead, figure_after}
use Rattle.window.specs.Entries.{last_key}
use Rattle.window.specs.Finishing.{response_of}
use Rattle.window.proofs.Instants.{release_next}

-- the oldest of n pending server jobs is number c + 1 of N, and its linked job j lies so many numbers behind: what is left is the release of j
pub response_by_next : (s : Server) (N c j n now : ℕ) → n + c ≡ N → 1 ≤ j → j ≤ c + 1 → now ≤ last_key
    → response_of now (release_of s (suc N)) n (c + 1 - j) s.period ≡ now - release_of s j
response_by_next s N c j n now e a b small =
    let p = s.period in
    let z : j ≡ suc (j - 1) = omega arith in
    let own : release_of s j ≡ s.offset + (j - 1) * p = ap (release_of s) z ∙ release_next s (j - 1) in
    let split : N ≡ (j - 1) + (n + (c + 1 - j)) = omega arith in
    let far : N * p ≡ (j - 1) * p + (n + (c + 1 - j)) * p = ap (λ m. m * p) split ∙ add-mul (j - 1) (n + (c + 1 - j)) p in
    rw (release_next s N, own) (omega arith)

module _ (f : ℕ → ℕ) where
  largest_last : (a n : ℕ) → largest f (numbers a (suc n)) ≡ max (largest f (numbers a n)) (f (a + n))
  largest_last a zero = let e : a + 0 ≡ a = omega arith in rw e (omega arith)
  largest_last a (suc n) = let e : a + suc n ≡ suc a + n = omega arith in rw e (omega (arith, largest_last (suc a) n))

  largest_next : (n : ℕ) → largest f (up_to (n + 1)) ≡ max (largest f (up_to n)) (f (n + 1))
  largest_next n =
      let e : suc n ≡ n + 1 = omega arith in
      let e' : 1 + n ≡ n + 1 = omega arith in
      ap (λ m. largest f (up_to m)) (sym e) ∙ largest_last 1 n ∙ rw e'

  -- nothing after c responds
  largest_quiet : (c d : ℕ) → ((k : ℕ) → c < k → k ≤ c + d → f k ≡ 0) → largest f (up_to (c + d)) ≡ largest f (up_to c)
  largest_quiet c zero h = let e : c + 0 ≡ c = omega arith in rw e
  largest_quiet c (suc d) h =
      let e : c + suc d ≡ (c + d) + 1 = omega arith in
      rw e
      (omega (
        arith,
        largest_next (c + d),
        largest_quiet c d (λ k a b. h k a (omega arith)),
        h (c + d + 1) (omega arith) (omega arith),
      ))

and-false : (b : Bool) → (b && false) ≡ false
and-false true = refl
and-false false = refl

-- a server job after the complete ones has budget left
pub left_over : (S : List Server) (cap : ℕ → ℕ) (t i k : ℕ) → 0 < budget_of S i → completed S cap t i < k → used_by S cap t i k < budget_of S i
left_over S cap t i k b l =
    by_lt (released_before (srv S i) t) k (λ z. omega (arith, used_out S cap t i k z)) (λ z. not_complete S cap t i k (omega arith) z l)

module _ (X : Box) (t d i : ℕ) where
  -- of the job linked to server job k of node i, where it finishes in a span from t on that ends at v
  abbrev response_to : ℕ → ℕ → ℕ
  response_to v k =
      response_at X (whole X.servers) (used X.servers X.cap t) (used X.servers X.cap v)
      (links X.servers X.cap (whole X.servers) (suc t)) v i k

  -- the largest response so far, of the server jobs up to c
  pub worst_up_to : ℕ → ℕ
  worst_up_to c = max (largest (λ (k : ℕ). response_to (t + d) k) (up_to c)) (figure X (whole X.servers) i t)

module _ (X : Box) (t d : ℕ) (quiet : Quiet X.servers X.cap t d) (some : 1 ≤ d) where
  abbrev S : List Server
  S = X.servers

  abbrev last : ℕ
  last = d - 1

  end_is : t + d ≡ suc (t + last)
  end_is = omega arith

  -- nothing is released or linked after the span's start
  pub released_at_end : (i : ℕ) → i < length S → released_before (srv S i) (t + d) ≡ released (srv S i) t
  unfolding released_before
  released_at_end i h = rw end_is (quiet.none_released i last h (omega arith))

  pub links_at_end : links S X.cap (whole S) (t + d) ≡ links S X.cap (whole S) (suc t)
  links_at_end = rw end_is (links_within S X.cap (whole S) t d quiet last (omega arith))

  module _ (i : ℕ) (inside : i < length S) (budget_some : 0 < budget_of S i) where
    abbrev budget : ℕ
    budget = budget_of S i

    abbrev ticks : ℕ → ℕ → ℕ
    ticks v k = used_by S X.cap v i k

    abbrev job_of : ℕ → ℕ
    job_of k = link_of S X.cap (whole S) (suc t) i k

    abbrev response : ℕ → ℕ
    response k = response_to X t d i (t + d) k

    abbrev worst : ℕ → ℕ
    worst c = worst_up_to X t d i c

    complete_before : (k : ℕ) → budget ≤ ticks t k → response k ≡ 0
    unfolding response_at whole
    complete_before k h = rw (le-ltb (ticks t k) budget h, and-false (leb budget (ticks (t + d) k)), and-false (ltb 0 (job_of k)))

    not_complete_yet : (k : ℕ) → ticks (t + d) k < budget → response k ≡ 0
    unfolding response_at whole
    not_complete_yet k h = rw (lt-leb budget (ticks (t + d) k) h, and-false (ltb 0 (job_of k)))

    complete_now : (k : ℕ) → budget ≤ ticks (t + d) k → ticks t k < budget
        → response k ≡ cond (ltb 0 (job_of k)) (t + d - release_of (srv S i) (job_of k)) 0
    unfolding response_at whole
    complete_now k h l = rw (le-leb budget (ticks (t + d) k) h, lt-ltb (ticks t k) budget l) (same (ltb 0 (job_of k)))
      where
        same : (b : Bool) → cond (b && true) (t + d - release_of (srv S i) (job_of k)) 0 ≡ cond b (t + d - release_of (srv S i) (job_of k)) 0
        same true = refl
        same false = refl

    pub worst_at_first : worst (completed S X.cap t i) ≡ figure X (whole S) i t
    unfolding worst_up_to
    worst_at_first =
        let c = completed S X.cap t i in
        let e : 0 + c ≡ c = omega arith in
        let none : largest response (up_to c) ≡ 0 =
        rw e at (largest_quiet response 0 c (λ k a b. complete_before k (is_complete S X.cap t i k a (omega arith)))) in
        omega arith

    figure_at : (v : ℕ) → v ≡ suc (t + last)
        → figure X (whole S) i v ≡ max (largest (λ (k : ℕ). response_to X t d i v k) (up_to (released (srv S i) t))) (figure X (whole S) i t)
    unfolding finishing
    figure_at v e =
        let after =
        figure_after X (whole S) t d quiet i (whole_ahead S X.cap t d quiet i inside budget_some) last (omega arith) in
        rw (e, ← quiet.none_released i last inside (omega arith)) after

    figure_at_end : figure X (whole S) i (t + d) ≡ max (largest response (up_to (released (srv S i) t))) (figure X (whole S) i t)
    figure_at_end = figure_at (t + d) end_is

    pub worst_at_last : worst (completed S X.cap (t + d) i) ≡ figure X (whole S) i (t + d)
    unfolding worst_up_to
    worst_at_last =
        let c = completed S X.cap (t + d) i in
        let n = released (srv S i) t in
        let most : c ≤ n = omega (arith, completed_le S X.cap (t + d) i, released_at_end i inside) in
        let e : c + (n - c) ≡ n = omega arith in
        let none : largest response (up_to n) ≡ largest response (up_to c) =
        rw e at
        (largest_quiet response c (n - c)
        (λ k a b. not_complete_yet k (not_complete S X.cap (t + d) i k (omega arith) (omega (arith, released_at_end i inside)) a))) in
        rw (figure_at_end, none)

    -- one more that completes in this span adds the response of its linked job
    pub worst_next : (c : ℕ) → completed S X.cap t i ≤ c → budget ≤ ticks (t + d) (c + 1)
        → worst (c + 1) ≡ cond (ltb 0 (job_of (c + 1))) (max (worst c) (t + d - release_of (srv S i) (job_of (c + 1)))) (worst c)
    unfolding worst_up_to
    worst_next c l h =
        let own = complete_now (c + 1) h (left_over S X.cap t i (c + 1) budget_some (omega arith)) in
        rw (largest_next response c, own) (go (ltb 0 (job_of (c + 1))) (t + d - release_of (srv S i) (job_of (c + 1))))
      where
        go : (b : Bool) (r : ℕ)
            → max (max (largest response (up_to c)) (cond b r 0)) (figure X (whole S) i t)
            ≡ cond b (max (max (largest response (up_to c)) (figure X (whole S) i t)) r) (max (largest response (up_to c)) (figure X (whole S) i t))
        go true r = omega arith
        go false r = omega arith
