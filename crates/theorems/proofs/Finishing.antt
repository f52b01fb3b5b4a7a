-- Rule 6 as a fact: a job is finished when the server job that it is linked to has used the ticks it needs. What is finished stays so, and
-- where needs do not fall the jobs of a node finish in number order.
use mathlib.Core.Path.{◌≡◌, ◌∙◌}
use mathlib.Core.Bool.{Bool, ◌&&◌}
use mathlib.Core.List.{List}
use Prim.Native.Nat.{ℕ, zero, suc, ◌+◌, ◌-◌, ◌≤◌}
use native.Mathlib.Nat.{add-zero, add-suc}
use native.Mathlib.Omega.{arith}
use lib.Dec.{T, leb, eqb, leb→le, le→leb, eqb→eq}
use Rattle.schedule.specs.Servers.{Server, srv}
use Rattle.schedule.specs.ServerJobs.{released_before}
use Rattle.schedule.specs.Links.{finished, finished_by}
use Rattle.schedule.proofs.Tests.{and_l, and_r, and_i, by_lt, eq→eqb}
use Rattle.theorems.proofs.Counts.{some_in, in_some}
use Rattle.theorems.proofs.Releases.{released_before_le}
use Rattle.theorems.proofs.InTurn.{used_by, used_step, used_falls}
use Rattle.theorems.proofs.LinkRows.{linked_up_to, linked_le, linked_at_lem, linked_find}
use Rattle.theorems.proofs.Linking.{link_of, links_old, links_in_order}

-- job j of node i is linked to server job k, which has used the ticks that j needs
pub record Finished (S : List Server) (cap : ℕ → ℕ) (need : ℕ → ℕ → ℕ) (t i j : ℕ) : Type 0 where
  pub k : ℕ
  pub from : 1 ≤ k
  pub to : k ≤ released_before (srv S i) t
  pub is : link_of S cap need t i k ≡ j
  pub has : need i j ≤ used_by S cap t i k

module _ (S : List Server) (cap : ℕ → ℕ) (need : ℕ → ℕ → ℕ) where
  abbrev test : ℕ → ℕ → ℕ → ℕ → Bool
  test t i j k = eqb (link_of S cap need t i k) j && leb (need i j) (used_by S cap t i k)

  pub finished_is : (t i j : ℕ) → T (finished_by S cap need t i j) → Finished S cap need t i j
  unfolding finished_by finished
  finished_is t i j f =
      let (k, a, b, c) = some_in (test t i j) 1 (released_before (srv S i) t) f in
      let A = eqb (link_of S cap need t i k) j in
      let B = leb (need i j) (used_by S cap t i k) in
      record {
        k = k;
        from = a;
        to = omega arith;
        is = eqb→eq (link_of S cap need t i k) j (and_l A B c);
        has = leb→le (need i j) (used_by S cap t i k) (and_r A B c);
      }

  pub is_finished : (t i j : ℕ) → Finished S cap need t i j → T (finished_by S cap need t i j)
  unfolding finished_by finished
  is_finished t i j f =
      let link = link_of S cap need t i f.k in
      let ticks = used_by S cap t i f.k in
      in_some (test t i j) 1 (released_before (srv S i) t) f.k f.from (omega (arith, f.to))
      (and_i (eqb link j) (leb (need i j) ticks) (eq→eqb link j f.is) (le→leb (need i j) ticks f.has))

  pub finished_next : (t i j : ℕ) → Finished S cap need t i j → Finished S cap need (suc t) i j
  unfolding released_before
  finished_next t i j f =
      record {
        k = f.k;
        from = f.from;
        to = omega (arith, f.to, released_before_le (srv S i) t);
        is = links_old S cap need t i f.k f.from f.to ∙ f.is;
        has = omega (arith, f.has, used_step S cap t i f.k);
      }

  after : (t d i j : ℕ) → Finished S cap need t i j → Finished S cap need (t + d) i j
  after t zero i j f = rw (add-zero t) f
  after t (suc d) i j f = rw (add-suc t d) (finished_next (t + d) i j (after t d i j f))

  pub finished_stays : (t v i j : ℕ) → t ≤ v → Finished S cap need t i j → Finished S cap need v i j
  finished_stays t v i j l f = let e : v ≡ t + (v - t) = omega arith in rw e (after t (v - t) i j f)

  -- a job's number is at most its server job's, so at most the invocations released
  pub link_le : (t i k : ℕ) → 1 ≤ k → k ≤ released_before (srv S i) t → link_of S cap need t i k ≤ k
  link_le t i k a b =
      by_lt 0 (link_of S cap need t i k)
      (λ l. omega (
        arith,
        linked_at_lem (link_of S cap need t i) (released_before (srv S i) t) (links_in_order S cap need t i) k a b l,
        linked_le (link_of S cap need t i) k,
      ))
      (λ l. omega arith)

  pub finished_number : (t i j : ℕ) → Finished S cap need t i j → j ≤ released_before (srv S i) t
  finished_number t i j f = omega (arith, f.is, f.to, link_le t i f.k f.from f.to)

  -- jobs finish in number order
  pub finished_in_order : (t i j k : ℕ) → 1 ≤ j → j ≤ k → need i j ≤ need i k → T (finished_by S cap need t i k) → T (finished_by S cap need t i j)
  finished_in_order t i j k a b more f =
      let p = finished_is t i k f in
      let n = released_before (srv S i) t in
      let row = link_of S cap need t i in
      let o = links_in_order S cap need t i in
      let at : row p.k ≡ linked_up_to row p.k = linked_at_lem row n o p.k p.from p.to (omega (arith, p.is)) in
      let (m, c, d, e) = linked_find row n o p.k p.to j a (omega (arith, p.is)) in
      is_finished t i j
      (record { k = m; from = c; to = omega (arith, p.to); is = e; has = omega (arith, p.has, used_falls S cap t i m p.k c d) })
