-- Each node's jobs finish before those of its graph's sink: where the sinks have few unfinished jobs, so has each node.
use mathlib.Core.Path.{◌≡◌, refl, sym, ◌∙◌}
use mathlib.Core.Bool.{Bool, true, false, ◌&&◌, cond}
use mathlib.Core.List.{List, [], ◌∷◌}
use Prim.Native.Nat.{ℕ, zero, suc, ◌+◌, ◌≤◌, ◌<◌}
use native.Mathlib.Nat.{le_refl}
use native.Mathlib.Omega.{arith}
use lib.Dec.{T, ltb, eqb, ltb→lt, eqb→eq}
use lib.ListN.{length}
use Rattle.schedule.specs.Limits as Limits
use Rattle.schedule.specs.Lists.{any?}
use Rattle.schedule.specs.Servers.{Server, srv, Box, whole}
use Rattle.schedule.specs.ServerJobs.{released, released_before, used}
use Rattle.schedule.specs.Links.{due_after, due, links, due_by, finished_by}
use Rattle.schedule.specs.State.{NodeState, finished_count, node_state}
use Rattle.schedule.proofs.Tests.{and_l, and_r, by_lt, either_way}
use Rattle.theorems.proofs.Counts.{first_pass, pass_first}
use Rattle.theorems.proofs.InTurn.{completed_le}
use Rattle.theorems.proofs.Linking.{link_of, new_link, new_link_is_lem, linked_count, linked_count_lem, links_old, links_new, links_none}
use Rattle.theorems.proofs.Finishing.{Finished, finished_is, is_finished, finished_stays, finished_in_order, finished_number}
use Rattle.theorems.proofs.TableBox.{beside}
use Rattle.theorems.proofs.Window.{node_at}
use Rattle.table.specs.declared.State.{State}
use Rattle.window.specs.declared.Plan.{Plan}
use Rattle.window.specs.Entries.{unfinished_at, unlinked_at}
use Rattle.window.proofs.Relation.{Fits, InStep}
use Rattle.window.proofs.Members.{each_member}
use Rattle.window.proofs.Counted.{linked_up, whole_rises, finished_count_lem, unfinished_is, unlinked_is}
use Rattle.window.proofs.Places.{sink_inside}

module _ (S : List Server) (cap : ℕ → ℕ) (need : ℕ → ℕ → ℕ) where
  new_was_due : (t i j : ℕ) → 1 ≤ j → new_link S cap need t i ≡ j → T (due_by S cap need t i j)
  new_was_due t i j a e =
      let n = linked_count S cap need t i + 1 in
      of (due_by S cap need t i) n (due_by S cap need t i n) refl (sym (new_link_is_lem S cap need t i) ∙ e)
    where
      of : (p : ℕ → Bool) (n : ℕ) (b : Bool) → p n ≡ b → cond b n 0 ≡ j → T (p j)
      of p n true e is = rw (← is, e) tt
      of p n false e is = absurd (let x : ⊥ = omega arith in x)

  -- a job that is linked was due when it was
  linked_was_due : (t i j k : ℕ) → 1 ≤ j → 1 ≤ k → k ≤ released_before (srv S i) t → link_of S cap need t i k ≡ j
      → (v : ℕ) × (v ≤ t) × T (due_by S cap need v i j)
  unfolding released_before
  linked_was_due zero i j k z a b e = absurd (let x : ⊥ = omega arith in x)
  linked_was_due (suc t) i j k z a b e =
      by_lt (released_before (srv S i) t) k
      (λ l. by_lt i (length S) (λ g. (t, omega arith, new_was_due t i j z (sym (links_new S cap need t i k g l b) ∙ e)))
      (λ g. absurd (let x : ⊥ = omega (arith, links_none S cap need (suc t) i k g) in x)))
      (λ l. let (v, g, d) = linked_was_due t i j k z a l (sym (links_old S cap need t i k a l) ∙ e) in (v, omega arith, d))

  due_predecessor : (v i j p : ℕ) (ps : List ℕ) → T (any? (eqb p) ps) → T (due_after S need (used S cap v) (links S cap need v) v i j ps)
      → T (finished_by S cap need v p j)
  unfolding due_after finished_by
  due_predecessor v i j p [] m d = absurd m
  due_predecessor v i j p (q ∷ ps) m d = each_member (λ (q : ℕ). finished_by S cap need v q j) (q ∷ ps) p m d

  -- a job that is finished was linked, so it was due, so each predecessor's job of that number was finished
  predecessor_finished : (t i j p : ℕ) → 1 ≤ j → T (any? (eqb p) (srv S i).predecessors) → Finished S cap need t i j
      → Finished S cap need t p j
  unfolding due_by due
  predecessor_finished t i j p a m f =
      let (v, l, d) = linked_was_due t i j f.k a f.from f.to f.is in
      finished_stays S cap need v t p j l (finished_is S cap need v p j (due_predecessor v i j p (srv S i).predecessors m d))

-- the server at p has the period and offset of s
pub record Beside (S : List Server) (s : Server) (p : ℕ) : Type 0 where
  pub inside : p < length S
  pub period : (srv S p).period ≡ s.period
  pub offset : (srv S p).offset ≡ s.offset

pub beside_is : (S : List Server) (s : Server) (p : ℕ) → T (beside S s p) → Beside S s p
beside_is S s p t =
    let A = ltb p (length S) in
    let B = eqb (srv S p).period s.period in
    let C = eqb (srv S p).offset s.offset in
    record {
      inside = ltb→lt p (length S) (and_l A (B && C) t);
      period = eqb→eq (srv S p).period s.period (and_l B C (and_r A (B && C) t));
      offset = eqb→eq (srv S p).offset s.offset (and_r B C (and_r A (B && C) t));
    }

pub same_releases : (t : ℕ) (a b : Server) → a.period ≡ b.period → a.offset ≡ b.offset → released_before a t ≡ released_before b t
unfolding released_before released
same_releases zero a b p o = refl
same_releases (suc t) a b p o = rw (p, o)

module _ (X : Box) (plan : Plan) (fits : Fits X plan) where
  abbrev S : List Server
  S = X.servers

  abbrev node : ℕ → ℕ → NodeState
  node t i = node_at S X.cap (whole S) t i

  -- how many jobs of node i are finished at t
  abbrev finished_at : ℕ → ℕ → ℕ
  finished_at t i = finished_count S (whole S) (used S X.cap t) (links S X.cap (whole S) t) t i

  -- the sink that node i leads to: of the same graph, and with no more jobs finished
  pub record ItsSink (i : ℕ) : Type 0 where
    pub sink : ℕ
    pub is_sink : T (any? (eqb sink) X.sinks)
    pub graph : Beside S (srv S i) sink
    pub no_more : (t : ℕ) → finished_at t sink ≤ finished_at t i

  -- a predecessor has no fewer jobs finished
  predecessor_ahead : (t i p : ℕ) → T (any? (eqb p) (srv S i).predecessors) → finished_at t i ≤ finished_at t p
  unfolding finished_count finished_by
  predecessor_ahead t i p m =
      let fin : ℕ → ℕ → Bool = λ i j. finished_by S X.cap (whole S) t i j in
      let order : (i j k : ℕ) → 1 ≤ j → j ≤ k → T (fin i k) → T (fin i j) =
      λ i j k a l f. finished_in_order S X.cap (whole S) t i j k a l (whole_rises S i j k a l) f in
      let n = finished_at t i in
      by_lt 0 n
      (λ z.
      let f = first_pass (fin i) (order i) (released_before (srv S i) t) n z (le_refl n) in
      let g = predecessor_finished S X.cap (whole S) t i n p z m (finished_is S X.cap (whole S) t i n f) in
      pass_first (fin p) (order p) (released_before (srv S p) t) n z (finished_number S X.cap (whole S) t p n g)
      (is_finished S X.cap (whole S) t p n g))
      (λ z. omega arith)

  leads_to : (d i : ℕ) → length S ≤ i + d → i < length S → ItsSink i
  leads_to zero i h l = absurd (let x : ⊥ = omega arith in x)
  leads_to (suc d) i h l =
      either_way (fits.at i l).leads
      (λ m. record {
        sink = i;
        is_sink = m;
        graph = record { inside = l; period = refl; offset = refl };
        no_more = λ t. le_refl (finished_at t i);
      })
      (λ later.
      let (n, above, inside, m) = later in
      let b =
      beside_is S (srv S n) i (each_member (beside S (srv S n)) (srv S n).predecessors i m (fits.at n inside).same_graph) in
      let z = leads_to d n (omega arith) inside in
      record {
        sink = z.sink;
        is_sink = z.is_sink;
        graph =
            record {
              inside = z.graph.inside;
              period = z.graph.period ∙ sym b.period;
              offset = z.graph.offset ∙ sym b.offset;
            };
        no_more = λ t. omega (arith, z.no_more t, predecessor_ahead t n i m);
      })

  pub its_sink : (i : ℕ) → i < length S → ItsSink i
  its_sink i l = leads_to (length S) i (omega arith) l

  -- what is finished is linked
  unlinked_fewer : (t i : ℕ) → (node t i).unlinked ≤ (node t i).unfinished
  unfolding node_state finished_count finished_by
  unlinked_fewer t i =
      let row = link_of S X.cap (whole S) t i in
      omega (
        arith,
        finished_count_lem S X.cap t i,
        linked_count_lem S X.cap (whole S) t i,
        linked_up row _ (released_before (srv S i) t) (completed_le S X.cap t i),
      )

  -- where no sink has too many unfinished jobs, no node has
  few_unfinished : (t : ℕ) → ((z : ℕ) → T (any? (eqb z) X.sinks) → (node t z).unfinished ≤ Limits.unfinished)
      → (i : ℕ) → i < length S → (node t i).unfinished ≤ Limits.unfinished
  unfolding node_state
  few_unfinished t few i l =
      let z = its_sink i l in
      let as_many = same_releases t (srv S z.sink) (srv S i) z.graph.period z.graph.offset in
      omega (arith, few z.sink z.is_sink, z.no_more t)

  -- so in a state in step
  pub few_in_step : (t : ℕ) (st : State) → InStep X t st → (i : ℕ) → i < length S → unfinished_at st i ≤ Limits.unfinished
  few_in_step t st now i h =
      omega (
        arith,
        unfinished_is X t st now i h,
        few_unfinished t (λ z m. omega (arith, unfinished_is X t st now z (sink_inside X plan fits z m), now.sinks z m)) i h,
      )

  pub unlinked_in_step : (t : ℕ) (st : State) → InStep X t st → (i : ℕ) → i < length S → unlinked_at st i ≤ unfinished_at st i
  unlinked_in_step t st now i h = omega (arith, unfinished_is X t st now i h, unlinked_is X t st now i h, unlinked_fewer t i)
