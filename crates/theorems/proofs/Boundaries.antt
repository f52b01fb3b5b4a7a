-- Equal states a hyperperiod apart: everything agrees there, server jobs and jobs moved on, and the invocations with no counterpart have
-- finished. Of a node the pending server jobs and the count of unlinked jobs say it all: what is linked to a complete server job is finished.
use mathlib.Core.Path.{◌≡◌, refl, sym, ap, ◌∙◌}
use mathlib.Core.Bool.{true}
use mathlib.Core.List.{List, []}
use Prim.Native.Nat.{ℕ, ◌+◌, ◌-◌, ◌≤◌, ◌<◌}
use native.Mathlib.Nat.{le_refl, zero-add}
use native.Mathlib.Omega.{arith}
use lib.ListN.{length, get_or}
use borrow.Author.Tests.{le-ltb}
use Rattle.schedule.specs.Servers.{Server, srv, Box}
use Rattle.schedule.specs.ServerJobs.{released_before, used}
use Rattle.schedule.specs.Links.{linked, links}
use Rattle.schedule.specs.State.{NodeState, State, node_state, state, same_state, state_at}
use Rattle.schedule.specs.FarRows.{moved}
use Rattle.schedule.proofs.Tests.{by_lt}
use Rattle.schedule.proofs.Cells.{get_or_tab}
use Rattle.theorems.proofs.Releases.{released_before_shift}
use Rattle.theorems.proofs.InTurn.{no_budget, used_by, used_le, used_out, used_none, completed, completed_le, is_complete}
use Rattle.theorems.proofs.InTurn.{after_complete}
use Rattle.theorems.proofs.LinkRows.{linked_le, linked_grows, linked_at_lem, linked_find, linked_once}
use Rattle.theorems.proofs.Linking.{link_of, linked_count, linked_count_lem, links_in_order}
use Rattle.theorems.proofs.Finishing.{Finished, link_le}
use Rattle.theorems.proofs.SameRunning.{Periodic}
use Rattle.theorems.proofs.Repeating.{moved_some, moved_back, SameGraph, Repeated, Agree}
use Rattle.theorems.proofs.SameState.{same_state_lem}
use Rattle.theorems.proofs.StateRows.{row_of, same_left_lem, same_ticks, same_link}

-- what a box has to have: whole periods in its hyperperiod and processors that repeat after it, predecessors in the same graph, and no
-- offset past the first boundary
pub record Sound (X : Box) (h : ℕ → ℕ) : Type 0 where
  pub periodic : Periodic X.servers X.cap X.hyper h
  pub graph : SameGraph X.servers h
  pub offsets : (i : ℕ) → (srv X.servers i).offset ≤ X.origin

moved_far : (h a j : ℕ) → 1 ≤ j → moved h a ≡ j → h < j
moved_far h a j p e =
    by_lt 0 a (λ l. omega (arith, moved_some h a l)) (λ l. absurd (let z : moved h a ≡ 0 = rw (le-ltb 0 a l) in let x : ⊥ = omega arith in x))

module _ (X : Box) (h : ℕ → ℕ) (sound : Sound X h) (need : ℕ → ℕ → ℕ) (again : Repeated X.servers h need) (b : ℕ) (late : X.origin ≤ b)
    (equal : same_state (state_at X need (b + X.hyper)) (state_at X need b) ≡ true) where
  abbrev S : List Server
  S = X.servers

  abbrev u : ℕ
  u = b + X.hyper

  abbrev n : ℕ → ℕ → ℕ
  n t i = released_before (srv S i) t

  abbrev c : ℕ → ℕ → ℕ
  c t i = completed S X.cap t i

  abbrev row : ℕ → ℕ → ℕ → ℕ
  row t i k = link_of S X.cap need t i k

  abbrev Fin : ℕ → ℕ → ℕ → Type 0
  Fin t i j = Finished S X.cap need t i j

  abbrev node_at : ℕ → ℕ → NodeState
  node_at t i = node_state S need (used S X.cap t) (links S X.cap need t) t i

  same_node_lem : (i : ℕ) → i < length S → node_at u i ≡ node_at b i
  unfolding state_at state
  same_node_lem i l = sym (get u) ∙ ap (λ (x : State). get_or x.nodes i none) ((same_state_lem (state_at X need u) (state_at X need b)).0 equal) ∙ get b
    where
      none : NodeState
      none = record { unfinished = 0; unlinked = 0; pending = [] }

      get : (t : ℕ) → get_or (state_at X need t).nodes i none ≡ node_at t i
      get t = get_or_tab (node_at t) 0 (length S) i none l ∙ ap (node_at t) (zero-add i)

  more_released : (i : ℕ) → n u i ≡ n b i + h i
  more_released i =
      let y = sound.periodic in
      released_before_shift (srv S i) (h i) X.hyper (y.periods i) (y.period_some i) b (omega (arith, sound.offsets i)) y.some

  more_linked : (i : ℕ) → i < length S → linked_count S X.cap need u i ≡ linked_count S X.cap need b i + h i
  unfolding node_state
  more_linked i l =
      omega (
        arith,
        ap (λ (x : NodeState). x.unlinked) (same_node_lem i l),
        more_released i,
        linked_count_lem S X.cap need u i,
        linked_count_lem S X.cap need b i,
        linked_le (row u i) (n u i),
        linked_le (row b i) (n b i),
      )

  same_row : (i : ℕ) → i < length S → row_of S X.cap need u i ≡ row_of S X.cap need b i
  unfolding node_state
  same_row i l = ap (λ (x : NodeState). x.pending) (same_node_lem i l)

  more_complete : (i : ℕ) → i < length S → c u i ≡ c b i + h i
  more_complete i l =
      omega
      (arith, same_left_lem S X.cap need b u i (same_row i l), more_released i, completed_le S X.cap u i, completed_le S X.cap b i)

  ticks_agree : (i k : ℕ) → i < length S → 1 ≤ k → used_by S X.cap u i (k + h i) ≡ used_by S X.cap b i k
  ticks_agree i k l a =
      by_lt (n b i) k (λ o. used_out S X.cap u i (k + h i) (omega (arith, more_released i)) ∙ sym (used_out S X.cap b i k o))
      (λ o. by_lt (c b i) k (λ p. same_ticks S X.cap need b u i (same_row i l) (h i) k (more_complete i l) p o)
      (λ p. omega (
        arith,
        is_complete S X.cap b i k a p,
        is_complete S X.cap u i (k + h i) (omega arith) (omega (arith, more_complete i l)),
        used_le S X.cap b i k,
        used_le S X.cap u i (k + h i),
      )))

  link_agrees : (i k : ℕ) → i < length S → c b i < k → k ≤ n b i → row u i (k + h i) ≡ moved (h i) (row b i k)
  link_agrees i k l p o =
      same_link S X.cap need b u i (same_row i l) (h i) k (more_complete i l) p o (link_le S X.cap need b i k (omega arith) o)
      (link_le S X.cap need u i (k + h i) (omega arith) (omega (arith, more_released i)))

  -- where a linked job's server job stands
  find : (t i j : ℕ) → 1 ≤ j → j ≤ linked_count S X.cap need t i → (m : ℕ) × (1 ≤ m) × (m ≤ n t i) × (row t i m ≡ j)
  find t i j a l = linked_find (row t i) (n t i) (links_in_order S X.cap need t i) (n t i) (le_refl (n t i)) j a l

  counted : (t i k j : ℕ) → 1 ≤ j → 1 ≤ k → k ≤ n t i → row t i k ≡ j → j ≤ linked_count S X.cap need t i
  counted t i k j a p q e =
      let d = n t i - k in
      let z : k + d ≡ n t i = omega arith in
      omega (arith, linked_at_lem (row t i) (n t i) (links_in_order S X.cap need t i) k p q (omega arith), rw z at (linked_grows (row t i) k d))

  complete_finished : (t i j m : ℕ) → i < length S → 1 ≤ j → 1 ≤ m → m ≤ c t i → row t i m ≡ j → Fin t i j
  complete_finished t i j m l a p q e =
      record {
        k = m;
        from = p;
        to = omega (arith, completed_le S X.cap t i);
        is = e;
        has = omega (arith, is_complete S X.cap t i m p q, again.most i j l a);
      }

  fin_up : (i j : ℕ) → i < length S → 1 ≤ j → Fin b i j → Fin u i (j + h i)
  fin_up i j l a f =
      by_lt (c b i) f.k
      (λ p.
      record {
        k = f.k + h i;
        from = omega (arith, f.from);
        to = omega (arith, f.to, more_released i);
        is = link_agrees i f.k l p f.to ∙ ap (moved (h i)) f.is ∙ moved_some (h i) j a;
        has = rw (again.same i j l a, ticks_agree i f.k l f.from) f.has;
      })
      (λ p.
      let (m, x, y, z) = find u i (j + h i) (omega arith) (omega (arith, more_linked i l, counted b i f.k j a f.from f.to f.is)) in
      by_lt (c u i) m
      (λ q.
      let k = m - h i in
      let e : k + h i ≡ m = omega (arith, more_complete i l) in
      let o : k ≤ n b i = omega (arith, more_released i) in
      let g : c b i < k = omega (arith, more_complete i l) in
      let back : row b i k ≡ j = moved_back (h i) (row b i k) j a (sym (link_agrees i k l g o) ∙ rw e z) in
      let same : f.k ≡ k =
      linked_once (row b i) (n b i) (links_in_order S X.cap need b i) f.k k f.from f.to (omega arith) o (omega (arith, f.is))
      (f.is ∙ sym back) in
      absurd (let w : ⊥ = omega arith in w))
      (λ q. complete_finished u i (j + h i) m l (omega arith) x q z))

  fin_down : (i j : ℕ) → i < length S → 1 ≤ j → Fin u i (j + h i) → Fin b i j
  fin_down i j l a f =
      by_lt (c u i) f.k
      (λ p.
      let k = f.k - h i in
      let e : k + h i ≡ f.k = omega (arith, more_complete i l) in
      let o : k ≤ n b i = omega (arith, f.to, more_released i) in
      let g : c b i < k = omega (arith, more_complete i l) in
      record {
        k = k;
        from = omega arith;
        to = o;
        is = moved_back (h i) (row b i k) j a (sym (link_agrees i k l g o) ∙ rw e f.is);
        has = rw (← again.same i j l a, ← ticks_agree i k l (omega arith), e) f.has;
      })
      (λ p.
      let (m, x, y, z) =
      find b i j a (omega (arith, more_linked i l, counted u i f.k (j + h i) (omega arith) f.from f.to f.is)) in
      by_lt (c b i) m
      (λ q.
      let up : row u i (m + h i) ≡ j + h i = link_agrees i m l q y ∙ ap (moved (h i)) z ∙ moved_some (h i) j a in
      let same : f.k ≡ m + h i =
      linked_once (row u i) (n u i) (links_in_order S X.cap need u i) f.k (m + h i) f.from f.to (omega arith)
      (omega (arith, more_released i)) (omega (arith, f.is)) (f.is ∙ sym up) in
      absurd (let w : ⊥ = omega (arith, more_complete i l) in w))
      (λ q. complete_finished b i j m l a x q z))

  -- the invocations of the first hyperperiod have finished by u
  pub first_finished : (i j : ℕ) → i < length S → 1 ≤ j → j ≤ h i → Fin u i j
  first_finished i j l a o =
      let (m, x, y, z) = find u i j a (omega (arith, more_linked i l)) in
      by_lt (c u i) m
      (λ q.
      let k = m - h i in
      let e : k + h i ≡ m = omega (arith, more_complete i l) in
      let w : row u i m ≡ moved (h i) (row b i k) =
      rw e at (link_agrees i k l (omega (arith, more_complete i l)) (omega (arith, more_released i))) in
      absurd (let v : ⊥ = omega (arith, moved_far (h i) (row b i k) j a (sym w ∙ z)) in v))
      (λ q. complete_finished u i j m l a x q z)

  pub agree_at_boundary : Agree S X.cap X.hyper h need b u
  agree_at_boundary =
      record {
        apart = refl;
        ticks = λ i k a.
            by_lt i (length S) (λ l. ticks_agree i k l a) (λ l. used_none S X.cap u i (k + h i) l ∙ sym (used_none S X.cap b i k l));
        done = λ i k a o.
            by_lt i (length S) (λ l. is_complete S X.cap u i k a (omega (arith, more_complete i l))) (λ l. omega (arith, no_budget S i l));
        link = λ i k a o p.
            by_lt i (length S) (λ l. link_agrees i k l (after_complete S X.cap b i k a p) o)
            (λ l. absurd (let x : ⊥ = omega (arith, no_budget S i l) in x));
        linked = more_linked;
        fin_up = fin_up;
        fin_down = fin_down;
      }
