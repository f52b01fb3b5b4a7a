-- Two formed states are compared as the rules compare theirs. The rules list a phase for each graph, by its sink; the engine has it at each place of
-- the graph.
use mathlib.Core.Path.{◌≡◌, refl, sym, ap, ◌∙◌}
use mathlib.Core.Bool.{Bool, ◌&&◌}
use mathlib.Core.List.{List, [], ◌∷◌, map}
use mathlib.Core.Option.{Option, none, some}
use Prim.Native.Nat.{ℕ, zero, suc, ◌+◌, ◌*◌, ◌<◌, min}
use native.Mathlib.Omega.{arith}
use lib.Dec.{T, eqb, eqb→eq}
use lib.ListN.{length, get_or}
use Rattle.schedule.specs.Lists.{any?, tab}
use Rattle.schedule.specs.Servers.{srv, Box, whole}
use Rattle.schedule.specs.State.{PendingJob, NodeState, State, same_state, node_state, phase, state, state_at}
use Rattle.schedule.proofs.Tests.{and_l, and_r, and_i, or_l, or_r, or_e, either_way, true_T, T_true, bool_ext, eq→eqb}
use Rattle.schedule.proofs.Cells.{get_or_tab}
use Rattle.theorems.proofs.StateRows.{row_of, row_is, same_left_lem}
use Rattle.theorems.proofs.SameState.{same_state_lem}
use Rattle.window.specs.declared.Plan.{Plan}
use Rattle.window.specs.Entries.{nodes_of}
use Rattle.window.proofs.Loops.{each_below, all_below_lem}
use Rattle.window.proofs.Places.{nodes_are, sink_inside}
use Rattle.window.proofs.Ancestors.{its_sink}
use Rattle.ledger.specs.declared.Formed.{Formed}
use Rattle.ledger.specs.Entries.{room}
use Rattle.ledger.specs.Forming.{same_numbers, same_pending, same_slots, same_formed}
use Rattle.ledgerlaws.proofs.Relation.{Laid}
use Rattle.ledgerlaws.proofs.Forming.{code, phase_at, job, node, first, pendings, ShowsAt, Shows}

code_says : (x y : Option ℕ) → code x ≡ code y → x ≡ y
code_says none none e = refl
code_says none (some y) e = absurd (let z : ⊥ = omega arith in z)
code_says (some x) none e = absurd (let z : ⊥ = omega arith in z)
code_says (some x) (some y) e = ap some (omega arith)

-- lists whose entries are the same, one by one; and what equal lists say of an entry
tab_same : {B : Type 0} (f g : ℕ → B) (a b n : ℕ) → ((d : ℕ) → d < n → f (a + d) ≡ g (b + d)) → tab f a n ≡ tab g b n
tab_same f g a b zero h = refl
tab_same f g a b (suc n) h =
    let e : a + 0 ≡ a = omega arith in
    let e' : b + 0 ≡ b = omega arith in
    let first : f a ≡ g b = rw (e, e') at (h 0 (omega arith)) in
    let later : (d : ℕ) → d < n → f (suc a + d) ≡ g (suc b + d) =
    λ d l.
    let q : suc a + d ≡ a + suc d = omega arith in
    let q' : suc b + d ≡ b + suc d = omega arith in
    rw (q, q') (h (suc d) (omega arith)) in
    rw (first, tab_same f g (suc a) (suc b) n later)

map_same : (f g : ℕ → ℕ) (l : List ℕ) → ((x : ℕ) → T (any? (eqb x) l) → f x ≡ g x) → map f l ≡ map g l
map_same f g [] h = refl
map_same f g (x ∷ xs) h =
    rw (h x (or_l (eqb x x) (any? (eqb x) xs) (eq→eqb x x refl)), map_same f g xs (λ y w. h y (or_r (eqb y x) (any? (eqb y) xs) w)))

abbrev rest : List ℕ → List ℕ
rest [] = []
rest (x ∷ xs) = xs

map_at : (f g : ℕ → ℕ) (l : List ℕ) → map f l ≡ map g l → (x : ℕ) → T (any? (eqb x) l) → f x ≡ g x
map_at f g [] e x w = absurd w
map_at f g (y ∷ ys) e x w =
    either_way (or_e (eqb x y) (any? (eqb x) ys) (eqb→eq x y) (λ z. z) w) (λ z. rw z (ap (λ (l : List ℕ). get_or l 0 0) e)) (λ z. map_at f g ys (ap rest e) x z)

-- two formed states, of the instants t and u
module _ (X : Box) (plan : Plan) (offsets : List ℕ) (laid : Laid X plan offsets) (t u : ℕ) (f g : Formed) (at-t : Shows X t f) (at-u : Shows X u g) where
  abbrev n : ℕ
  n = length X.servers

  record SamePlace (i : ℕ) : Type 0 where
    phase : get_or f.phase i 0 ≡ get_or g.phase i 0
    unfinished : get_or f.unfinished i 0 ≡ get_or g.unfinished i 0
    unlinked : get_or f.unlinked i 0 ≡ get_or g.unlinked i 0
    pending : get_or f.pending i 0 ≡ get_or g.pending i 0
    left : (d : ℕ) → d < min (get_or f.pending i 0) room → get_or f.left (i * room + d) 0 ≡ get_or g.left (i * room + d) 0
    behind : (d : ℕ) → d < min (get_or f.pending i 0) room → get_or f.behind (i * room + d) 0 ≡ get_or g.behind (i * room + d) 0

  -- the engine's comparison, place by place
  abbrev A : Bool
  A = same_numbers f.phase g.phase n

  abbrev B : Bool
  B = same_numbers f.unfinished g.unfinished n

  abbrev C : Bool
  C = same_numbers f.unlinked g.unlinked n

  abbrev D : Bool
  D = same_numbers f.pending g.pending n

  abbrev E : Bool
  E = same_slots f.left g.left f.pending n

  abbrev F : Bool
  F = same_slots f.behind g.behind f.pending n

  number_at : (x y : List ℕ) → T (same_numbers x y n) → (i : ℕ) → i < n → get_or x i 0 ≡ get_or y i 0
  number_at x y w i h = eqb→eq (get_or x i 0) (get_or y i 0) (each_below (λ (i : ℕ). eqb (get_or x i 0) (get_or y i 0)) n i h w)

  at_number : (x y : List ℕ) → ((i : ℕ) → i < n → get_or x i 0 ≡ get_or y i 0) → T (same_numbers x y n)
  at_number x y e = all_below_lem (λ (i : ℕ). eqb (get_or x i 0) (get_or y i 0)) n (λ i h. eq→eqb (get_or x i 0) (get_or y i 0) (e i h))

  slot_at : (x y : List ℕ) → T (same_slots x y f.pending n) → (i : ℕ) → i < n → (d : ℕ) → d < min (get_or f.pending i 0) room
      → get_or x (i * room + d) 0 ≡ get_or y (i * room + d) 0
  slot_at x y w i h d k =
      eqb→eq (get_or x (i * room + d) 0) (get_or y (i * room + d) 0)
      (each_below (λ (d : ℕ). eqb (get_or x (i * room + d) 0) (get_or y (i * room + d) 0)) (min (get_or f.pending i 0) room) d k
      (each_below (λ (i : ℕ). same_pending x y i (get_or f.pending i 0)) n i h w))

  at_slot : (x y : List ℕ) → ((i : ℕ) → i < n → (d : ℕ) → d < min (get_or f.pending i 0) room → get_or x (i * room + d) 0 ≡ get_or y (i * room + d) 0)
      → T (same_slots x y f.pending n)
  at_slot x y e =
      all_below_lem (λ (i : ℕ). same_pending x y i (get_or f.pending i 0)) n
      (λ i h. all_below_lem (λ (d : ℕ). eqb (get_or x (i * room + d) 0) (get_or y (i * room + d) 0)) (min (get_or f.pending i 0) room)
      (λ d k. eq→eqb (get_or x (i * room + d) 0) (get_or y (i * room + d) 0) (e i h d k)))

  formed_places : T (A && (B && (C && (D && (E && F))))) → (i : ℕ) → i < n → SamePlace i
  formed_places w i h =
      let b = and_r A (B && (C && (D && (E && F)))) w in
      let c = and_r B (C && (D && (E && F))) b in
      let d = and_r C (D && (E && F)) c in
      let e = and_r D (E && F) d in
      record {
        phase = number_at f.phase g.phase (and_l A (B && (C && (D && (E && F)))) w) i h;
        unfinished = number_at f.unfinished g.unfinished (and_l B (C && (D && (E && F))) b) i h;
        unlinked = number_at f.unlinked g.unlinked (and_l C (D && (E && F)) c) i h;
        pending = number_at f.pending g.pending (and_l D (E && F) d) i h;
        left = slot_at f.left g.left (and_l E F e) i h;
        behind = slot_at f.behind g.behind (and_r E F e) i h;
      }

  places_formed : ((i : ℕ) → i < n → SamePlace i) → T (A && (B && (C && (D && (E && F)))))
  places_formed p =
      and_i A (B && (C && (D && (E && F)))) (at_number f.phase g.phase (λ i h. (p i h).phase))
      (and_i B (C && (D && (E && F))) (at_number f.unfinished g.unfinished (λ i h. (p i h).unfinished))
      (and_i C (D && (E && F)) (at_number f.unlinked g.unlinked (λ i h. (p i h).unlinked))
      (and_i D (E && F) (at_number f.pending g.pending (λ i h. (p i h).pending))
      (and_i E F (at_slot f.left g.left (λ i h. (p i h).left)) (at_slot f.behind g.behind (λ i h. (p i h).behind))))))

  -- equal places, equal states
  module _ (i : ℕ) (h : i < n) where
    abbrev a : ShowsAt X t i f
    a = at-t i h

    abbrev b : ShowsAt X u i g
    b = at-u i h

    module _ (p : SamePlace i) where
      count_same : pendings X t i ≡ pendings X u i
      count_same = sym a.pending ∙ p.pending ∙ b.pending

      in_room : (d : ℕ) → d < pendings X t i → d < min (get_or f.pending i 0) room
      in_room d k = omega (arith, a.pending, a.few)

      job_same : (d : ℕ) → d < pendings X t i → job X t i (first X t i + d) ≡ job X u i (first X u i + d)
      job_same d k =
          let k' : d < pendings X u i = omega (arith, count_same) in
          let x = sym (a.left d k) ∙ p.left d (in_room d k) ∙ b.left d k' in
          let y = code_says (job X t i (first X t i + d)).behind (job X u i (first X u i + d)).behind
          (sym (a.behind d k) ∙ p.behind d (in_room d k) ∙ b.behind d k') in
          λ z. record { left = x z; behind = y z }

      row_same : row_of X.servers X.cap (whole X.servers) t i ≡ row_of X.servers X.cap (whole X.servers) u i
      row_same =
          row_is X.servers X.cap (whole X.servers) t i
          ∙ tab_same (job X t i) (job X u i) (first X t i) (first X u i) (pendings X t i) job_same
          ∙ ap (tab (job X u i) (first X u i)) count_same
          ∙ sym (row_is X.servers X.cap (whole X.servers) u i)

      node_same : node X t i ≡ node X u i
      unfolding node_state
      node_same =
          let x = sym a.unfinished ∙ p.unfinished ∙ b.unfinished in
          let y = sym a.unlinked ∙ p.unlinked ∙ b.unlinked in
          let z = row_same in
          λ q. record { unfinished = x q; unlinked = y q; pending = z q }

    module _ (same-phase : phase_at X t i ≡ phase_at X u i) (e : node X t i ≡ node X u i) where
      rows : row_of X.servers X.cap (whole X.servers) t i ≡ row_of X.servers X.cap (whole X.servers) u i
      unfolding node_state
      rows = ap (λ (x : NodeState). x.pending) e

      counts : pendings X t i ≡ pendings X u i
      counts = same_left_lem X.servers X.cap (whole X.servers) u t i rows

      job_at_lem : (v d : ℕ) → d < pendings X v i
          → get_or (row_of X.servers X.cap (whole X.servers) v i) d (record { left = 0; behind = none }) ≡ job X v i (first X v i + d)
      job_at_lem v d k =
          ap (λ (l : List PendingJob). get_or l d (record { left = 0; behind = none })) (row_is X.servers X.cap (whole X.servers) v i)
          ∙ get_or_tab (job X v i) (first X v i) (pendings X v i) d (record { left = 0; behind = none }) k

      jobs : (d : ℕ) → d < pendings X t i → job X t i (first X t i + d) ≡ job X u i (first X u i + d)
      jobs d k =
          sym (job_at_lem t d k) ∙ ap (λ (l : List PendingJob). get_or l d (record { left = 0; behind = none })) rows ∙ job_at_lem u d (omega (arith, counts))

      in_list : (d : ℕ) → d < min (get_or f.pending i 0) room → d < pendings X t i
      in_list d k = omega (arith, a.pending)

      place_same : SamePlace i
      unfolding node_state
      place_same =
          record {
            phase = a.phase ∙ same-phase ∙ sym b.phase;
            unfinished = a.unfinished ∙ ap (λ (x : NodeState). x.unfinished) e ∙ sym b.unfinished;
            unlinked = a.unlinked ∙ ap (λ (x : NodeState). x.unlinked) e ∙ sym b.unlinked;
            pending = a.pending ∙ counts ∙ sym b.pending;
            left = λ d k.
                a.left d (in_list d k) ∙ ap (λ (x : PendingJob). x.left) (jobs d (in_list d k)) ∙ sym (b.left d (omega (arith, in_list d k, counts)));
            behind = λ d k.
                a.behind d (in_list d k) ∙ ap (λ (x : PendingJob). code x.behind) (jobs d (in_list d k))
                ∙ sym (b.behind d (omega (arith, in_list d k, counts)));
          }

  abbrev Sₜ : State
  Sₜ = state_at X (whole X.servers) t

  abbrev Sᵤ : State
  Sᵤ = state_at X (whole X.servers) u

  places_state : ((i : ℕ) → i < n → SamePlace i) → Sₜ ≡ Sᵤ
  unfolding state_at state
  places_state p =
      let phases =
      map_same (phase_at X t) (phase_at X u) X.sinks
      (λ z w.
      let h = sink_inside X plan laid.fits z w in
      sym (at-t z h).phase ∙ (p z h).phase ∙ (at-u z h).phase) in
      let nodes =
      tab_same (node X t) (node X u) 0 0 n (λ i h. let e : 0 + i ≡ i = omega arith in rw e (node_same i h (p i h))) in
      λ x. record { phases = phases x; nodes = nodes x }

  -- a node has the phase of its graph's sink
  sink_phase : (v i z : ℕ) → (srv X.servers z).period ≡ (srv X.servers i).period → (srv X.servers z).offset ≡ (srv X.servers i).offset
      → phase_at X v z ≡ phase_at X v i
  unfolding phase
  sink_phase v i z p o = rw (p, o)

  state_places : Sₜ ≡ Sᵤ → (i : ℕ) → i < n → SamePlace i
  unfolding state_at state
  state_places e i h =
      let z = its_sink X plan laid.fits i h in
      let phases = map_at (phase_at X t) (phase_at X u) X.sinks (ap (λ (x : State). x.phases) e) z.sink z.is_sink in
      let none : NodeState = record { unfinished = 0; unlinked = 0; pending = [] } in
      let q : 0 + i ≡ i = omega arith in
      let nodes : node X t i ≡ node X u i =
      rw q at
      (sym (get_or_tab (node X t) 0 n i none h) ∙ ap (λ (x : State). get_or x.nodes i none) e ∙ get_or_tab (node X u) 0 n i none h) in
      place_same i h
      (sym (sink_phase t i z.sink z.graph.period z.graph.offset) ∙ phases ∙ sink_phase u i z.sink z.graph.period z.graph.offset)
      nodes

  pub same_formed_lem : same_formed f g (nodes_of plan) ≡ same_state Sₜ Sᵤ
  same_formed_lem =
      ap (same_formed f g) (nodes_are X plan laid.fits)
      ∙ bool_ext (A && (B && (C && (D && (E && F))))) (same_state Sₜ Sᵤ)
      (λ w. true_T (same_state Sₜ Sᵤ) ((same_state_lem Sₜ Sᵤ).1 (places_state (formed_places w))))
      (λ w. places_formed (state_places ((same_state_lem Sₜ Sᵤ).0 (T_true w))))
