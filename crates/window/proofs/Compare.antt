-- The engine's comparison of a boundary's state with what is kept of the one before, number by number and window by window, is equality of
-- document 01's states. The rules list a phase for each graph, by its sink; the engine compares the next release at each place, which says the
-- phase of the place's graph.
use mathlib.Core.Path.{◌≡◌, refl, sym, ap, ◌∙◌}
use mathlib.Core.Bool.{Bool, true, false, ◌&&◌, cond}
use mathlib.Core.Option.{none, some}
use mathlib.Core.List.{List, [], ◌∷◌, map}
use Prim.Native.Nat.{ℕ, zero, suc, ◌+◌, ◌-◌, ◌≤◌, ◌<◌, min}
use native.Mathlib.Omega.{arith}
use lib.Dec.{T, eqb, eqb→eq}
use lib.ListN.{length}
use borrow.Author.Tests.{eq-eqb, ne_eqb}
use Rattle.table.specs.declared.Pending.{Pending}
use Rattle.schedule.specs.Lists.{all?, alike, tab, same_option}
use Rattle.schedule.specs.Servers.{Server, srv, Box, whole}
use Rattle.schedule.specs.ServerJobs.{used}
use Rattle.schedule.specs.Links.{links}
use Rattle.schedule.specs.State as Rules
use Rattle.schedule.specs.State.{same_node, same_state, phase, state, state_at}
use Rattle.schedule.proofs.Tests.{and_l, and_r, and_i, by_lt, bool_ext, eq→eqb}
use Rattle.theorems.proofs.Window.{node_at}
use Rattle.std.specs.Prelude.{is_some, unwrap_or}
use Rattle.table.specs.declared.State.{State}
use Rattle.table.specs.declared.Kept.{Kept}
use Rattle.window.specs.declared.Plan.{Plan}
use Rattle.window.specs.Entries.{window, further, slot_of, server_at, count_at, unfinished_at, unlinked_at, next_at, left_at, nodes_of}
use Rattle.window.specs.Comparing.{same_bool, same_pending, same_states}
use Rattle.window.proofs.Relation.{last_instant, Fits, Slot, InStep}
use Rattle.window.proofs.Members.{each_member, all_members}
use Rattle.window.proofs.Instants.{release_from, next_near, phase_until}
use Rattle.window.proofs.Places.{nodes_are, sink_inside}
use Rattle.window.proofs.Ancestors.{its_sink}
use Rattle.window.proofs.Viewed.{seen_at, viewed, node_viewed}
use Rattle.window.proofs.Keeping.{Holds, SamePlace, same_place, place_same}

-- two written lists agree where they are as long and agree entry by entry
module _ {A : Type 0} (same : A → A → Bool) (f g : ℕ → A) where
  alike_length : (a b n m : ℕ) → T (alike same (tab f a n) (tab g b m)) → n ≡ m
  alike_length a b zero zero t = refl
  alike_length a b zero (suc m) t = absurd t
  alike_length a b (suc n) zero t = absurd t
  alike_length a b (suc n) (suc m) t =
      ap suc (alike_length (suc a) (suc b) n m (and_r (same (f a) (g b)) (alike same (tab f (suc a) n) (tab g (suc b) m)) t))

  alike_at : (a n d : ℕ) → T (alike same (tab f a n) (tab g a n)) → d < n → T (same (f (a + d)) (g (a + d)))
  alike_at a zero d t l = absurd (let x : ⊥ = omega arith in x)
  alike_at a (suc n) zero t l =
      let e : a + 0 ≡ a = omega arith in rw e (and_l (same (f a) (g a)) (alike same (tab f (suc a) n) (tab g (suc a) n)) t)
  alike_at a (suc n) (suc d) t l =
      let e : a + suc d ≡ suc a + d = omega arith in
      rw e (alike_at (suc a) n d (and_r (same (f a) (g a)) (alike same (tab f (suc a) n) (tab g (suc a) n)) t) (omega arith))

  all_alike : (a n : ℕ) → ((d : ℕ) → d < n → T (same (f (a + d)) (g (a + d)))) → T (alike same (tab f a n) (tab g a n))
  all_alike a zero h = tt
  all_alike a (suc n) h =
      let e : a + 0 ≡ a = omega arith in
      and_i (same (f a) (g a)) (alike same (tab f (suc a) n) (tab g (suc a) n)) (rw e at (h 0 (omega arith)))
      (all_alike (suc a) n (λ d l. let e : suc a + d ≡ a + suc d = omega arith in rw e (h (suc d) (omega arith))))

alike_map : (f g : ℕ → ℕ) (l : List ℕ) → alike eqb (map f l) (map g l) ≡ all? (λ (z : ℕ). eqb (f z) (g z)) l
alike_map f g [] = refl
alike_map f g (x ∷ xs) = ap (λ (b : Bool). eqb (f x) (g x) && b) (alike_map f g xs)

-- an unlinked slot lies 0 behind, so the engine may compare what it does not mean
same_behind : (p q : Pending) → (is_some p.behind ≡ false → unwrap_or p.behind 0 ≡ 0) → (is_some q.behind ≡ false → unwrap_or q.behind 0 ≡ 0)
    → same_option (cond (is_some p.behind) (some (unwrap_or p.behind 0)) none) (cond (is_some q.behind) (some (unwrap_or q.behind 0)) none) ≡ same_pending p q
same_behind p q h g = go (is_some p.behind) (is_some q.behind) (unwrap_or p.behind 0) (unwrap_or q.behind 0) h g
  where
    go : (a b : Bool) (x y : ℕ) → (a ≡ false → x ≡ 0) → (b ≡ false → y ≡ 0)
        → same_option (cond a (some x) none) (cond b (some y) none) ≡ (same_bool a b && eqb x y)
    go true true x y h g = refl
    go true false x y h g = refl
    go false true x y h g = refl
    go false false x y h g = sym (eq-eqb x y (h refl ∙ sym (g refl)))

unlinked_behind : (L : ℕ → ℕ) (k : ℕ) (p : Pending) → Slot L k p → is_some p.behind ≡ false → unwrap_or p.behind 0 ≡ 0
unlinked_behind L k p q e = q.behind ∙ rw (sym q.linked ∙ e)

-- a phase x and the ticks a until the next release make a period, or are both 0: the phase says the ticks
same_until : (p x y a b : ℕ) → x + a ≡ cond (eqb a 0) 0 p → y + b ≡ cond (eqb b 0) 0 p → a < p → b < p → x ≡ y → a ≡ b
same_until p x y a b h g l m e =
    by_lt 0 a
    (λ z.
    let h' : x + a ≡ p = rw (ne_eqb a 0 (λ e. omega arith)) at h in
    by_lt 0 b (λ z. let g' : y + b ≡ p = rw (ne_eqb b 0 (λ e. omega arith)) at g in omega arith)
    (λ z. let g' : y + b ≡ 0 = rw (eq-eqb b 0 (omega arith)) at g in omega arith))
    (λ z.
    let h' : x + a ≡ 0 = rw (eq-eqb a 0 (omega arith)) at h in
    by_lt 0 b (λ z. let g' : y + b ≡ p = rw (ne_eqb b 0 (λ e. omega arith)) at g in omega arith) (λ z. omega arith))

-- two boundaries, u and `hyper` ticks later t, both after every offset; of the state at u there is what is kept
module _ (X : Box) (plan : Plan) (fits : Fits X plan) (t u : ℕ) (apart : t ≡ u + X.hyper) (early : t ≤ last_instant) (a b : State) (at-t : InStep X t a)
    (at-u : InStep X u b) (late : (i : ℕ) → i < length X.servers → (srv X.servers i).offset ≤ u) where
  abbrev S : List Server
  S = X.servers

  abbrev phase_at : ℕ → ℕ → ℕ
  phase_at t i = phase S (whole S) (used S X.cap t) (links S X.cap (whole S) t) t i

  -- at place i: the next release says the phase, and the phase says it
  module _ (i : ℕ) (h : i < length S) where
    abbrev s : Server
    s = srv S i

    abbrev some_period : 0 < s.period
    some_period = (fits.at i h).period_some

    abbrev until_a : ℕ
    until_a = next_at a i - t

    abbrev until_b : ℕ
    until_b = next_at b i - u

    from_t : t + until_a ≡ next_at a i
    from_t = omega (arith, (at-t.row i h).next, release_from s some_period t)

    from_u : u + until_b ≡ next_at b i
    from_u = omega (arith, (at-u.row i h).next, release_from s some_period u)

    late_t : s.offset ≤ t
    late_t = omega (arith, late i h)

    near_t : next_at a i < t + s.period
    near_t = next_near s some_period t (next_at a i) (at-t.row i h).next late_t

    near_u : next_at b i < u + s.period
    near_u = next_near s some_period u (next_at b i) (at-u.row i h).next (late i h)

    -- no instant is cut off at the largest
    uncut : further (next_at b i) X.hyper ≡ next_at b i + X.hyper
    uncut = omega (arith, near_u, (fits.at i h).period_most)

    phase_t : phase_at t i + until_a ≡ cond (eqb until_a 0) 0 s.period
    unfolding phase
    phase_t = phase_until s some_period t (next_at a i) (at-t.row i h).next late_t until_a from_t

    phase_u : phase_at u i + until_b ≡ cond (eqb until_b 0) 0 s.period
    unfolding phase
    phase_u = phase_until s some_period u (next_at b i) (at-u.row i h).next (late i h) until_b from_u

    next→phase : next_at a i ≡ further (next_at b i) X.hyper → phase_at t i ≡ phase_at u i
    next→phase e =
        let same : until_a ≡ until_b = omega (arith, uncut, from_t, from_u) in
        let p : phase_at t i + until_b ≡ cond (eqb until_b 0) 0 s.period = rw same at phase_t in
        omega (arith, p, phase_u)

    phase→next : phase_at t i ≡ phase_at u i → next_at a i ≡ further (next_at b i) X.hyper
    phase→next e =
        let same : until_a ≡ until_b =
        same_until s.period (phase_at t i) (phase_at u i) until_a until_b phase_t phase_u (omega (arith, near_t, from_t)) (omega (arith, near_u, from_u)) e in
        omega (arith, uncut, from_t, from_u)

  -- a node has the phase of its graph's sink
  sink_phase : (v i z : ℕ) → (srv S z).period ≡ (srv S i).period → (srv S z).offset ≡ (srv S i).offset → phase_at v z ≡ phase_at v i
  unfolding phase
  sink_phase v i z p o = rw (p, o)

  -- the server at i, its window and the rules' node
  module _ (i : ℕ) (h : i < length S) where
    -- no more slots than a window has
    in_window : min (count_at a i) window ≡ count_at a i
    in_window = omega (arith, (at-t.row i h).room)

    abbrev lefts : ℕ → Bool
    lefts d = eqb (left_at a i d) (left_at b i d)

    abbrev jobs : ℕ → Bool
    jobs d = same_pending (slot_of (server_at a i) d) (slot_of (server_at b i) d)

    slot_same : (d : ℕ) → d < count_at a i → d < count_at b i → Rules.same_pending (seen_at a i d) (seen_at b i d) ≡ (lefts d && jobs d)
    slot_same d l m =
        ap (λ (c : Bool). lefts d && c)
        (same_behind (slot_of (server_at a i) d) (slot_of (server_at b i) d) (unlinked_behind _ _ (slot_of (server_at a i) d) ((at-t.row i h).slots d l))
        (unlinked_behind _ _ (slot_of (server_at b i) d) ((at-u.row i h).slots d m)))

    abbrev pendings : Bool
    pendings = alike Rules.same_pending (tab (seen_at a i) 0 (count_at a i)) (tab (seen_at b i) 0 (count_at b i))

    to_pending : SamePlace a b X.hyper i → T pendings
    to_pending s =
        rw (← s.count)
        (all_alike Rules.same_pending (seen_at a i) (seen_at b i) 0 (count_at a i)
        (λ d l.
        let e : 0 + d ≡ d = omega arith in
        let inside : d < min (count_at a i) window = rw in_window l in
        rw (e, slot_same d l (omega (arith, s.count)))
        (and_i (lefts d) (jobs d) (eq→eqb (left_at a i d) (left_at b i d) (s.left d inside)) (s.jobs d inside))))

    from_pending : T pendings → (count_at a i ≡ count_at b i) × ((d : ℕ) → d < count_at a i → T (lefts d && jobs d))
    from_pending w =
        let n : count_at a i ≡ count_at b i = alike_length Rules.same_pending (seen_at a i) (seen_at b i) 0 0 (count_at a i) (count_at b i) w in (
          n,
          λ d l.
              let e : 0 + d ≡ d = omega arith in
              rw (e, slot_same d l (omega arith)) at (alike_at Rules.same_pending (seen_at a i) (seen_at b i) 0 (count_at a i) d (rw (← n) at w) l),
        )

    abbrev nodes : Bool
    nodes = same_node (node_at S X.cap (whole S) t i) (node_at S X.cap (whole S) u i)

    nodes_are_viewed : nodes ≡ same_node (viewed a i) (viewed b i)
    nodes_are_viewed = rw (node_viewed X t a at-t i h, node_viewed X u b at-u i h)

    abbrev unfinished? : Bool
    unfinished? = eqb (unfinished_at a i) (unfinished_at b i)

    abbrev unlinked? : Bool
    unlinked? = eqb (unlinked_at a i) (unlinked_at b i)

    to_node : SamePlace a b X.hyper i → T nodes
    to_node s =
        rw nodes_are_viewed
        (and_i unfinished? (unlinked? && pendings) (eq→eqb (unfinished_at a i) (unfinished_at b i) s.unfinished)
        (and_i unlinked? pendings (eq→eqb (unlinked_at a i) (unlinked_at b i) s.unlinked) (to_pending s)))

    from_node : T nodes → phase_at t i ≡ phase_at u i → SamePlace a b X.hyper i
    from_node n p =
        let w : T (unfinished? && (unlinked? && pendings)) = rw nodes_are_viewed at n in
        let r = and_r unfinished? (unlinked? && pendings) w in
        let q = from_pending (and_r unlinked? pendings r) in
        record {
          count = q.0;
          unfinished = eqb→eq (unfinished_at a i) (unfinished_at b i) (and_l unfinished? (unlinked? && pendings) w);
          unlinked = eqb→eq (unlinked_at a i) (unlinked_at b i) (and_l unlinked? pendings r);
          next = phase→next i h p;
          left = λ d l. eqb→eq (left_at a i d) (left_at b i d) (and_l (lefts d) (jobs d) (q.1 d (rw in_window at l)));
          jobs = λ d l. and_r (lefts d) (jobs d) (q.1 d (rw in_window at l));
        }

  abbrev phases_agree : Bool
  phases_agree = alike eqb (map (phase_at t) X.sinks) (map (phase_at u) X.sinks)

  abbrev nodes_agree : Bool
  nodes_agree = alike same_node (tab (node_at S X.cap (whole S) t) 0 (length S)) (tab (node_at S X.cap (whole S) u) 0 (length S))

  places_state : ((i : ℕ) → i < length S → SamePlace a b X.hyper i) → T (phases_agree && nodes_agree)
  places_state each =
      and_i phases_agree nodes_agree
      (rw (alike_map (phase_at t) (phase_at u) X.sinks)
      (all_members (λ (z : ℕ). eqb (phase_at t z) (phase_at u z)) X.sinks
      (λ z m.
      let h = sink_inside X plan fits z m in
      eq→eqb (phase_at t z) (phase_at u z) (next→phase z h (each z h).next))))
      (all_alike same_node (node_at S X.cap (whole S) t) (node_at S X.cap (whole S) u) 0 (length S)
      (λ i h. let e : 0 + i ≡ i = omega arith in rw e (to_node i h (each i h))))

  state_places : T (phases_agree && nodes_agree) → (i : ℕ) → i < length S → SamePlace a b X.hyper i
  state_places w i h =
      let phases = rw (alike_map (phase_at t) (phase_at u) X.sinks) at (and_l phases_agree nodes_agree w) in
      let z = its_sink X plan fits i h in
      let same : phase_at t z.sink ≡ phase_at u z.sink =
      eqb→eq (phase_at t z.sink) (phase_at u z.sink)
      (each_member (λ (z : ℕ). eqb (phase_at t z) (phase_at u z)) X.sinks z.sink z.is_sink phases) in
      let node =
      alike_at same_node (node_at S X.cap (whole S) t) (node_at S X.cap (whole S) u) 0 (length S) i (and_r phases_agree nodes_agree w) h in
      let e : 0 + i ≡ i = omega arith in
      from_node i h (rw e at node)
      (sym (sink_phase t i z.sink z.graph.period z.graph.offset)
      ∙ same
      ∙ sink_phase u i z.sink z.graph.period z.graph.offset)

  pub same_states_lem : (kept : Kept) → Holds b (nodes_of plan) kept
      → same_states a kept X.hyper (nodes_of plan) ≡ same_state (state_at X (whole S) t) (state_at X (whole S) u)
  unfolding state_at state
  same_states_lem kept holds =
      let n = nodes_are X plan fits in
      bool_ext (same_states a kept X.hyper (nodes_of plan)) (phases_agree && nodes_agree)
      (λ w. places_state (λ i h. same_place a b kept X.hyper (nodes_of plan) holds w i (omega arith)))
      (λ w. place_same a b kept X.hyper (nodes_of plan) holds (λ i h. state_places w i (omega arith)))
