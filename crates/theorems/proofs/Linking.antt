-- Rule 3: each link of a node is 0 or the next number; links never change; and a source's job j is linked to server job j.
use mathlib.Core.Path.{◌≡◌, refl, sym, ◌∙◌}
use mathlib.Core.Bool.{Bool, true, false, cond}
use mathlib.Core.List.{List, []}
use mathlib.Core.Logic.{◌⊎◌, inl, inr}
use Prim.Native.Nat.{ℕ, zero, suc, ◌+◌, ◌-◌, ◌≤◌, ◌<◌}
use native.Mathlib.Nat.{not-suc-le-zero, add-zero, add-suc}
use native.Mathlib.Omega.{arith}
use lib.Dec.{leb}
use lib.ListN.{length}
use borrow.Author.Tests.{le-leb, lt-leb}
use Rattle.schedule.specs.Lists.{cell}
use Rattle.schedule.specs.Servers.{Server, srv}
use Rattle.schedule.specs.ServerJobs.{released, released_before, used}
use Rattle.schedule.specs.Links.{due_after, due, linked, link_now, link, links, due_by}
use Rattle.schedule.proofs.Tests.{by_lt, either_way}
use Rattle.schedule.proofs.Cells.{nth_nil, cell_in, cell_no_row}
use Rattle.theorems.proofs.Releases.{released_before_le, released_before_one}
use Rattle.theorems.proofs.LinkRows.{linked_up_to, linked_cong, linked_all, InOrder}

cond_is : {A : Type 0} (b : Bool) (x y : A) → (cond b x y ≡ x) ⊎ (cond b x y ≡ y)
cond_is true x y = inl refl
cond_is false x y = inr refl

module _ (S : List Server) (cap : ℕ → ℕ) (need : ℕ → ℕ → ℕ) where
  -- the job linked to server job k of node i before t; what a server job released at t is linked to; how many are linked before t
  abbrev pub link_of : ℕ → ℕ → ℕ → ℕ
  link_of t i k = cell (links S cap need t) i k

  abbrev pub new_link : ℕ → ℕ → ℕ
  new_link t i = link_now S need (used S cap t) (links S cap need t) t i

  abbrev pub linked_count : ℕ → ℕ → ℕ
  linked_count t i = linked_up_to (link_of t i) (released_before (srv S i) t)

  abbrev width : ℕ → ℕ → ℕ
  width t i = released (srv S i) t

  abbrev next : ℕ → ℕ → ℕ → ℕ
  next t i k = cond (leb k (released_before (srv S i) t)) (link_of t i k) (new_link t i)

  pub linked_count_lem : (t i : ℕ) → linked S need (used S cap t) (links S cap need t) t i ≡ linked_count t i
  unfolding linked linked_up_to
  linked_count_lem t i = refl

  -- rule 3 at t: the next unlinked job, if it is due
  pub new_link_is_lem : (t i : ℕ) → new_link t i ≡ cond (due_by S cap need t i (linked_count t i + 1)) (linked_count t i + 1) 0
  unfolding link_now linked linked_up_to due_by
  new_link_is_lem t i = refl

  pub links_none : (t i k : ℕ) → length S ≤ i → link_of t i k ≡ 0
  unfolding links link
  links_none zero i k h = nth_nil k
  links_none (suc t) i k h = cell_no_row (length S) (width t) (next t) i k h

  pub links_old : (t i k : ℕ) → 1 ≤ k → k ≤ released_before (srv S i) t → link_of (suc t) i k ≡ link_of t i k
  unfolding links link
  links_old t i k h g =
      by_lt i (length S)
      (λ l.
      cell_in (length S) (width t) (next t) i k l h (omega (arith, released_before_le (srv S i) t))
      ∙ rw (le-leb k (released_before (srv S i) t) g))
      (λ l. links_none (suc t) i k l ∙ sym (links_none t i k l))

  pub links_new : (t i k : ℕ) → i < length S → released_before (srv S i) t < k → k ≤ released (srv S i) t → link_of (suc t) i k ≡ new_link t i
  unfolding links link
  links_new t i k l h g = cell_in (length S) (width t) (next t) i k l (omega arith) g ∙ rw (lt-leb k (released_before (srv S i) t) h)

  pub same_count : (t i k : ℕ) → k ≤ released_before (srv S i) t → linked_up_to (link_of (suc t) i) k ≡ linked_up_to (link_of t i) k
  same_count t i k h = linked_cong (link_of (suc t) i) (link_of t i) k (λ m a b. links_old t i m a (omega arith))

  new_in_order : (t i : ℕ) → (new_link t i ≡ 0) ⊎ (new_link t i ≡ suc (linked_count t i))
  new_in_order t i =
      let n = linked_count t i in
      either_way (cond_is (due_by S cap need t i (n + 1)) (n + 1) 0) (λ e. inr (new_link_is_lem t i ∙ e ∙ omega arith)) (λ e. inl (new_link_is_lem t i ∙ e))

  -- each link is 0 or the next number
  pub links_in_order : (t i : ℕ) → InOrder (link_of t i) (released_before (srv S i) t)
  unfolding InOrder released_before
  links_in_order zero i k h = absurd (not-suc-le-zero h)
  links_in_order (suc t) i k h =
      by_lt k (released_before (srv S i) t)
      (λ l. rw (links_old t i (suc k) (omega arith) l, same_count t i k (omega arith)) (links_in_order t i k l))
      (λ l.
      let e : k ≡ released_before (srv S i) t = omega (arith, released_before_one (srv S i) t) in
      by_lt i (length S)
      (λ g. rw (links_new t i (suc k) g (omega arith) h, same_count t i k (omega arith), e) (new_in_order t i))
      (λ g. inl (links_none (suc t) i (suc k) g)))

  stays : (t d i k : ℕ) → 1 ≤ k → k ≤ released_before (srv S i) t → (k ≤ released_before (srv S i) (t + d)) × (link_of (t + d) i k ≡ link_of t i k)
  unfolding released_before
  stays t zero i k a b = rw (add-zero t) (b, refl)
  stays t (suc d) i k a b =
      let r = stays t d i k a b in
      rw (add-suc t d) (omega (arith, r.0, released_before_le (srv S i) (t + d)), links_old (t + d) i k a r.0 ∙ r.1)

  -- links never change
  pub links_stay : (t v i k : ℕ) → t ≤ v → 1 ≤ k → k ≤ released_before (srv S i) t → link_of v i k ≡ link_of t i k
  links_stay t v i k l a b = let e : v ≡ t + (v - t) = omega arith in rw e (stays t (v - t) i k a b).1

  new_of_source : (t i : ℕ) → (srv S i).predecessors ≡ [] → linked_count t i < released (srv S i) t → new_link t i ≡ suc (linked_count t i)
  unfolding due_by due due_after
  new_of_source t i e l =
      new_link_is_lem t i ∙ rw (e, le-leb (linked_count t i + 1) (released (srv S i) t) (omega arith)) (omega arith)

  -- a source's job k is linked to server job k
  pub source_linked : (t i k : ℕ) → i < length S → (srv S i).predecessors ≡ [] → 1 ≤ k → k ≤ released_before (srv S i) t → link_of t i k ≡ k
  unfolding released_before
  source_linked zero i k l e a b = absurd (let x : ⊥ = omega arith in x)
  source_linked (suc t) i k l e a b =
      let n = released_before (srv S i) t in
      by_lt n k
      (λ c.
      let all : linked_count t i ≡ n = linked_all (link_of t i) n (λ k a b. source_linked t i k l e a b) in
      links_new t i k l c b ∙ new_of_source t i e (omega arith) ∙ omega (arith, released_before_one (srv S i) t))
      (λ c. links_old t i k a c ∙ source_linked t i k l e a c)
