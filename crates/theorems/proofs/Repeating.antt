-- The whole schedule repeats: once everything at t agrees with what is a hyperperiod H later, it does so a tick later, and for ever. For any
-- needs that repeat with the invocations of a hyperperiod and are at most the budgets.
use mathlib.Core.Path.{◌≡◌, refl, sym, ap, ◌∙◌}
use mathlib.Core.Bool.{Bool, true, false, ◌&&◌, cond}
use mathlib.Core.List.{List, [], ◌∷◌}
use Prim.Native.Nat.{ℕ, zero, suc, ◌+◌, ◌-◌, ◌≤◌, ◌<◌}
use native.Mathlib.Nat.{le_refl, add-zero, add-suc}
use native.Mathlib.Omega.{arith}
use lib.Dec.{T, leb, ltb, eqb, leb→le, le→leb, ltb→lt, eqb→eq}
use lib.ListN.{length}
use borrow.Author.Tests.{lt-ltb, le-ltb}
use Rattle.schedule.specs.Lists.{all?}
use Rattle.schedule.specs.Servers.{Server, srv}
use Rattle.schedule.specs.ServerJobs.{released, released_before, used}
use Rattle.schedule.specs.Links.{due_after, due, links, due_by, finished_by}
use Rattle.schedule.specs.FarRows.{moved}
use Rattle.schedule.proofs.Tests.{and_l, and_r, by_lt, bool_ext, all_under}
use Rattle.theorems.proofs.Releases.{released_before_le, released_before_one, released_shift, released_before_shift}
use Rattle.theorems.proofs.InTurn.{budget_of, used_by, running, used_step}
use Rattle.theorems.proofs.LinkRows.{linked_up_to, linked_last}
use Rattle.theorems.proofs.Linking.{link_of, new_link, new_link_is_lem, linked_count, links_old, links_new, links_none, same_count}
use Rattle.theorems.proofs.Finishing.{Finished, finished_is, is_finished, finished_next}
use Rattle.theorems.proofs.SameRunning.{Periodic, runs_shift}

pub moved_some : (h a : ℕ) → 1 ≤ a → moved h a ≡ a + h
moved_some h a p = rw (lt-ltb 0 a p)

pub moved_back : (h a j : ℕ) → 1 ≤ j → moved h a ≡ j + h → a ≡ j
moved_back h a j p e =
    by_lt 0 a (λ l. omega (arith, moved_some h a l))
    (λ l. absurd (let z : moved h a ≡ 0 = rw (le-ltb 0 a l) in let x : ⊥ = omega arith in x))

moved_test : (h a : ℕ) → ltb 0 (moved h a) ≡ ltb 0 a
moved_test h a =
    by_lt 0 a (λ l. rw (moved_some h a l, lt-ltb 0 a l) (lt-ltb 0 (a + h) (omega arith))) (λ l. let e : a ≡ 0 = omega arith in rw e)

-- each predecessor is a server of the list with as many periods in a hyperperiod
abbrev pub SameGraph : List Server → (ℕ → ℕ) → Type 0
SameGraph S h = (i : ℕ) → i < length S → T (all? (λ (p : ℕ). ltb p (length S) && eqb (h p) (h i)) (srv S i).predecessors)

pub record Repeated (S : List Server) (h : ℕ → ℕ) (need : ℕ → ℕ → ℕ) : Type 0 where
  pub same : (i j : ℕ) → i < length S → 1 ≤ j → need i (j + h i) ≡ need i j
  pub most : (i j : ℕ) → i < length S → 1 ≤ j → need i j ≤ (srv S i).budget

module _ (S : List Server) (cap : ℕ → ℕ) (H : ℕ) (h : ℕ → ℕ) (need : ℕ → ℕ → ℕ) where
  -- what is at u agrees with what is at t, server jobs and jobs moved on; what has no counterpart is complete
  pub record Agree (t u : ℕ) : Type 0 where
    pub apart : u ≡ t + H
    pub ticks : (i k : ℕ) → 1 ≤ k → used_by S cap u i (k + h i) ≡ used_by S cap t i k
    pub done : (i k : ℕ) → 1 ≤ k → k ≤ h i → budget_of S i ≤ used_by S cap u i k
    pub link : (i k : ℕ) → 1 ≤ k → k ≤ released_before (srv S i) t → used_by S cap t i k < budget_of S i
        → link_of S cap need u i (k + h i) ≡ moved (h i) (link_of S cap need t i k)
    pub linked : (i : ℕ) → i < length S → linked_count S cap need u i ≡ linked_count S cap need t i + h i
    pub fin_up : (i j : ℕ) → i < length S → 1 ≤ j → Finished S cap need t i j → Finished S cap need u i (j + h i)
    pub fin_down : (i j : ℕ) → i < length S → 1 ≤ j → Finished S cap need u i (j + h i) → Finished S cap need t i j

module _ (S : List Server) (cap : ℕ → ℕ) (H : ℕ) (h : ℕ → ℕ) (y : Periodic S cap H h) (graph : SameGraph S h) (need : ℕ → ℕ → ℕ)
    (again : Repeated S h need) where
  module _ (t u : ℕ) (late : (i : ℕ) → (srv S i).offset ≤ t) (r : Agree S cap H h need t u) where
    now : (i : ℕ) → released (srv S i) u ≡ released (srv S i) t + h i
    now i = rw r.apart (released_shift (srv S i) (h i) H (y.periods i) (y.period_some i) t (late i))

    before : (i : ℕ) → released_before (srv S i) u ≡ released_before (srv S i) t + h i
    before i = rw r.apart (released_before_shift (srv S i) (h i) H (y.periods i) (y.period_some i) t (late i) y.some)

    -- the same server jobs run
    pub same_running : (i k : ℕ) → 1 ≤ k → running S cap u i (k + h i) ≡ running S cap t i k
    same_running i k a =
        rw r.apart
        (runs_shift S cap H h y t late (used S cap t) (used S cap (t + H)) (rw r.apart at r.ticks) (rw r.apart at r.done) i k a)

    ticks_next : (i k : ℕ) → 1 ≤ k → used_by S cap (suc u) i (k + h i) ≡ used_by S cap (suc t) i k
    ticks_next i k a = rw (used_step S cap u i (k + h i), used_step S cap t i k, same_running i k a, r.ticks i k a)

    done_next : (i k : ℕ) → 1 ≤ k → k ≤ h i → budget_of S i ≤ used_by S cap (suc u) i k
    done_next i k a b = omega (arith, r.done i k a b, used_step S cap u i k)

    -- rule 2, by the two cases of a node
    after_shift : (i j : ℕ) → 1 ≤ j → (ps : List ℕ) → T (all? (λ (p : ℕ). ltb p (length S) && eqb (h p) (h i)) ps)
        → due_after S need (used S cap u) (links S cap need u) u i (j + h i) ps ≡ due_after S need (used S cap t) (links S cap need t) t i j ps
    unfolding due_after finished_by
    after_shift i j a [] g =
        bool_ext (leb (j + h i) (released (srv S i) u)) (leb j (released (srv S i) t))
        (λ d. le→leb j (released (srv S i) t) (omega (arith, now i, leb→le (j + h i) (released (srv S i) u) d)))
        (λ d. le→leb (j + h i) (released (srv S i) u) (omega (arith, now i, leb→le j (released (srv S i) t) d)))
    after_shift i j a (p ∷ ps) g =
        bool_ext (all? (fin u (j + h i)) (p ∷ ps)) (all? (fin t j) (p ∷ ps)) (all_under ok (fin u (j + h i)) (fin t j) down (p ∷ ps) g)
        (all_under ok (fin t j) (fin u (j + h i)) up (p ∷ ps) g)
      where
        fin : ℕ → ℕ → ℕ → Bool
        fin t j q = finished_by S cap need t q j

        ok : ℕ → Bool
        ok q = ltb q (length S) && eqb (h q) (h i)

        in_S : (q : ℕ) → T (ok q) → q < length S
        in_S q g = ltb→lt q (length S) (and_l (ltb q (length S)) (eqb (h q) (h i)) g)

        same_h : (q : ℕ) → T (ok q) → h q ≡ h i
        same_h q g = eqb→eq (h q) (h i) (and_r (ltb q (length S)) (eqb (h q) (h i)) g)

        down : (q : ℕ) → T (ok q) → T (fin u (j + h i) q) → T (fin t j q)
        down q g f = is_finished S cap need t q j (r.fin_down q j (in_S q g) a (rw (same_h q g) (finished_is S cap need u q (j + h i) f)))

        up : (q : ℕ) → T (ok q) → T (fin t j q) → T (fin u (j + h i) q)
        up q g f = is_finished S cap need u q (j + h i) (rw (same_h q g) at (r.fin_up q j (in_S q g) a (finished_is S cap need t q j f)))

    pub due_shift : (i j : ℕ) → i < length S → 1 ≤ j → due_by S cap need u i (j + h i) ≡ due_by S cap need t i j
    unfolding due_by due
    due_shift i j l a = after_shift i j a (srv S i).predecessors (graph i l)

    new_shift : (i : ℕ) → i < length S → new_link S cap need u i ≡ moved (h i) (new_link S cap need t i)
    new_shift i l =
        let c = linked_count S cap need t i in
        let e : linked_count S cap need u i + 1 ≡ (c + 1) + h i = omega (arith, r.linked i l) in
        rw (new_link_is_lem S cap need u i, new_link_is_lem S cap need t i, e, due_shift i (c + 1) l (omega arith)) (by (due_by S cap need t i (c + 1)) c)
      where
        by : (b : Bool) (c : ℕ) → cond b ((c + 1) + h i) 0 ≡ moved (h i) (cond b (c + 1) 0)
        by true c = sym (moved_some (h i) (c + 1) (omega arith))
        by false c = refl

    -- the links of what was pending, or is released now
    link_next : (i k : ℕ) → i < length S → 1 ≤ k → k ≤ released (srv S i) t → (k ≤ released_before (srv S i) t → used_by S cap t i k < budget_of S i)
        → link_of S cap need (suc u) i (k + h i) ≡ moved (h i) (link_of S cap need (suc t) i k)
    link_next i k l a b p =
        by_lt (released_before (srv S i) t) k
        (λ c.
        let new = links_new S cap need u i (k + h i) l (omega (arith, before i)) (omega (arith, now i)) in
        rw (links_new S cap need t i k l c b, new) (new_shift i l))
        (λ c.
        let old = links_old S cap need u i (k + h i) (omega arith) (omega (arith, before i)) in
        rw (links_old S cap need t i k a c, old) (r.link i k a c (p c)))

    -- one more is linked on both sides, or on neither
    linked_next : (i : ℕ) → i < length S
        → linked_up_to (link_of S cap need (suc u) i) (released (srv S i) u) ≡ linked_up_to (link_of S cap need (suc t) i) (released (srv S i) t) + h i
    linked_next i l =
        let n = released_before (srv S i) t in
        let m = released_before (srv S i) u in
        by_lt n (released (srv S i) t)
        (λ b.
        let e : released (srv S i) t ≡ suc n = omega (arith, released_before_one (srv S i) t) in
        let e' : released (srv S i) u ≡ suc m = omega (arith, now i, before i) in
        rw (
          e,
          e',
          linked_last (link_of S cap need (suc t) i) n,
          linked_last (link_of S cap need (suc u) i) m,
          same_count S cap need t i n (le_refl n),
          same_count S cap need u i m (le_refl m),
          links_new S cap need t i (suc n) l (le_refl (suc n)) (omega arith),
          links_new S cap need u i (suc m) l (le_refl (suc m)) (omega arith),
          new_shift i l,
          moved_test (h i) (new_link S cap need t i),
        )
        (omega (arith, r.linked i l)))
        (λ b.
        let e : released (srv S i) t ≡ n = omega (arith, released_before_le (srv S i) t) in
        let e' : released (srv S i) u ≡ m = omega (arith, now i, before i) in
        rw (e, e', same_count S cap need t i n (le_refl n), same_count S cap need u i m (le_refl m)) (r.linked i l))

    -- a job of a complete server job was finished before; of any other the links agree
    fin_up_next : (i j : ℕ) → i < length S → 1 ≤ j → Finished S cap need (suc t) i j → Finished S cap need (suc u) i (j + h i)
    unfolding released_before
    fin_up_next i j l a f =
        by_lt (released_before (srv S i) t) f.k (λ b. new (λ c. absurd (let x : ⊥ = omega arith in x)))
        (λ b. by_lt (used_by S cap t i f.k) (budget_of S i) (λ p. new (λ c. p))
        (λ p. finished_next S cap need u i (j + h i)
        (r.fin_up i j l a
        (record {
          k = f.k;
          from = f.from;
          to = b;
          is = sym (links_old S cap need t i f.k f.from b) ∙ f.is;
          has = omega (arith, again.most i j l a);
        }))))
      where
        new : (f.k ≤ released_before (srv S i) t → used_by S cap t i f.k < budget_of S i) → Finished S cap need (suc u) i (j + h i)
        new p =
            record {
              k = f.k + h i;
              from = omega (arith, f.from);
              to = omega (arith, f.to, now i);
              is = link_next i f.k l f.from f.to p ∙ ap (moved (h i)) f.is ∙ moved_some (h i) j a;
              has = rw (again.same i j l a, ticks_next i f.k f.from) f.has;
            }

    fin_down_next : (i j : ℕ) → i < length S → 1 ≤ j → Finished S cap need (suc u) i (j + h i) → Finished S cap need (suc t) i j
    unfolding released_before
    fin_down_next i j l a f =
        by_lt (released_before (srv S i) u) f.k
        (λ b. back (f.k - h i) (omega (arith, before i)) (omega (arith, before i)) (λ c. absurd (let x : ⊥ = omega (arith, before i) in x)))
        (λ b. by_lt (used_by S cap u i f.k) (budget_of S i)
        (λ p. by_lt (h i) f.k
        (λ g.
        let e : f.k ≡ (f.k - h i) + h i = omega arith in
        back (f.k - h i) e (omega arith) (λ c. rw (← r.ticks i (f.k - h i) (omega arith), ← e) p))
        (λ g. absurd (let x : ⊥ = omega (arith, r.done i f.k f.from g) in x)))
        (λ p. finished_next S cap need t i j
        (r.fin_down i j l a
        (record {
          k = f.k;
          from = f.from;
          to = b;
          is = sym (links_old S cap need u i f.k f.from b) ∙ f.is;
          has = omega (arith, again.most i (j + h i) l (omega arith));
        }))))
      where
        back : (k : ℕ) → f.k ≡ k + h i → 1 ≤ k → (k ≤ released_before (srv S i) t → used_by S cap t i k < budget_of S i)
            → Finished S cap need (suc t) i j
        back k e b p =
            let c : k ≤ released (srv S i) t = omega (arith, f.to, now i) in
            record {
              k = k;
              from = b;
              to = c;
              is = moved_back (h i) (link_of S cap need (suc t) i k) j a (sym (link_next i k l b c p) ∙ (rw e at f.is));
              has = rw (← again.same i j l a, ← ticks_next i k b, ← e) f.has;
            }

    -- the links of the server jobs that run in the tick at t
    pub same_links : (i k : ℕ) → 1 ≤ k → k ≤ released (srv S i) t → used_by S cap t i k < budget_of S i
        → link_of S cap need (suc u) i (k + h i) ≡ moved (h i) (link_of S cap need (suc t) i k)
    same_links i k a b p =
        by_lt i (length S) (λ l. link_next i k l a b (λ c. p))
        (λ l. rw (links_none S cap need (suc u) i (k + h i) l, links_none S cap need (suc t) i k l))

    agree_next : Agree S cap H h need (suc t) (suc u)
    unfolding released_before
    agree_next =
        record {
          apart = omega (arith, r.apart);
          ticks = ticks_next;
          done = done_next;
          link = λ i k a b p. same_links i k a b (omega (arith, used_step S cap t i k));
          linked = linked_next;
          fin_up = fin_up_next;
          fin_down = fin_down_next;
        }

  one_more_lem : (b c : ℕ) → ((i : ℕ) → (srv S i).offset ≤ b) → (d : ℕ) → Agree S cap H h need (b + d) (c + d)
      → Agree S cap H h need (b + suc d) (c + suc d)
  one_more_lem b c late d r = rw (add-suc b d, add-suc c d) (agree_next (b + d) (c + d) (λ i. omega (arith, late i)) r)

  pub agree_for_ever : (b c : ℕ) → ((i : ℕ) → (srv S i).offset ≤ b) → Agree S cap H h need b c → (d : ℕ) → Agree S cap H h need (b + d) (c + d)
  agree_for_ever b c late r zero = rw (add-zero b, add-zero c) r
  agree_for_ever b c late r (suc d) = one_more_lem b c late d (agree_for_ever b c late r d)
