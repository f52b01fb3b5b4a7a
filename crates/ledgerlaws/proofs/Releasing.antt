-- Release and link keep the relation.
use mathlib.Core.Path.{◌≡◌, refl, sym, ap, subst, ◌∙◌}
use mathlib.Core.Bool.{Bool, true, false, not, ◌||◌, cond}
use Rattle.std.specs.Prelude.{Option, Some, None, unwrap_or}
use mathlib.Core.List.{List}
use Prim.Native.Nat.{ℕ, zero, suc, ◌+◌, ◌≤◌, ◌<◌, zero-le}
use native.Mathlib.Omega.{arith}
use lib.Dec.{T, leb, ltb, eqb, leb→le, le→leb, ltb→lt, lt→ltb, T_not}
use lib.ListN.{length, get_or}
use borrow.Author.Tests.{ne_eqb, lt-ltb}
use Rattle.schedule.specs.Lists.{one?, any?, all?}
use Rattle.schedule.specs.Servers.{Server, srv, Box, whole}
use Rattle.schedule.specs.ServerJobs.{release_of, released, released_before}
use Rattle.schedule.specs.Links.{due_by, finished_by}
use Rattle.schedule.specs.State.{finished_count, node_state}
use Rattle.schedule.specs.Walk.{figure}
use Rattle.schedule.proofs.Tests.{or_l, or_r, or_e, either_way, dec, true_T, bool_ext, eq→eqb, by_lt}
use Rattle.theorems.proofs.Releases.{released_before_one}
use Rattle.theorems.proofs.InTurn.{used_by, used_out, completed, completed_le}
use Rattle.theorems.proofs.LinkRows.{linked_up_to, linked_last, linked_le}
use Rattle.theorems.proofs.Linking.{link_of, new_link_is_lem, linked_count_lem, links_new, links_old, same_count}
use Rattle.theorems.proofs.TableBox.{beside}
use Rattle.theorems.proofs.Window.{node_at, alongside, fewer, due_by_counts}
use Rattle.numbers.specs.Masks.{bit}
use Rattle.numbers.proofs.MaskLaws.{no_bit}
use Rattle.window.specs.declared.Plan.{Plan}
use Rattle.window.specs.Entries.{places, further, after_at, period_at}
use Rattle.window.proofs.Relation.{last_instant}
use Rattle.window.proofs.Instants.{release_next, releases_now}
use Rattle.window.proofs.Places.{nodes_are}
use Rattle.window.proofs.Members.{each_member, all_members}
use Rattle.window.proofs.Loops.{each_below, all_below_lem}
use Rattle.window.proofs.Counted.{whole_rises, finished_count_lem}
use Rattle.window.proofs.Ancestors.{Beside, beside_is, same_releases}
use Rattle.ledger.specs.declared.Ledger.{Ledger}
use Rattle.ledger.specs.Entries.{slot_at, instant_after, offset_at, released_at, linked_at, finished_at}
use Rattle.ledger.specs.Releasing.{is_due, linked_after, releases_at, next_at, new_job, new_link, new_slot, release_to, release}
use Rattle.ledgerlaws.proofs.Changed.{changed_length, changed_other, changed_at, in_slots, slot_place, slot_number}
use Rattle.ledgerlaws.proofs.Relation.{Laid, Sized, Row, InStep, Released}

-- no more are released than ticks have passed
pub few_released : (s : Server) (t : ℕ) → released_before s t ≤ t
unfolding released_before
few_released s zero = zero-le
few_released s (suc t) = omega (arith, released_before_one s t, few_released s t)

pub few_released_now : (s : Server) (t : ℕ) → released s t ≤ t + 1
few_released_now s t = omega (arith, released_before_one s t, few_released s t)

-- one link more
counted_link : (b : Bool) (m : ℕ) → linked_after m (cond b (Some (m + 1)) None) ≡ m + one? (ltb 0 (cond b (m + 1) 0))
counted_link true m = rw (lt-ltb 0 (m + 1) (omega arith)) refl
counted_link false m = omega arith

link_number : (b : Bool) (j : ℕ) → unwrap_or (cond b (Some j) None) 0 ≡ cond b j 0
link_number true j = refl
link_number false j = refl

module _ (X : Box) (plan : Plan) (offsets : List ℕ) (laid : Laid X plan offsets) (t : ℕ) (l : Ledger) (now : InStep X t l) (early : t ≤ last_instant) where
  abbrev S : List Server
  S = X.servers

  abbrev s : ℕ → Server
  s i = srv S i

  abbrev N : ℕ → ℕ
  N i = released_before (s i) t

  abbrev c : ℕ → ℕ
  c i = completed S X.cap t i

  abbrev L : ℕ → ℕ → ℕ
  L i = link_of S X.cap (whole S) t i

  abbrev L' : ℕ → ℕ → ℕ
  L' i = link_of S X.cap (whole S) (suc t) i

  -- how many are linked before t
  abbrev m : ℕ → ℕ
  m i = linked_up_to (L i) (N i)

  abbrev releasing : ℕ → Bool
  releasing i = releases_at plan offsets l t i

  next_is : (i : ℕ) → i < length S → next_at plan offsets l t i ≡ suc (N i)
  next_is i h = omega (arith, (now.row i h).released, few_released (s i) t)

  instant_is : (i : ℕ) → i < length S → instant_after (offset_at offsets i) (period_at plan i) (released_at l i) ≡ release_of (s i) (suc (N i))
  instant_is i h = rw (laid.offset i h, (laid.fits.at i h).period, (now.row i h).released) (sym (release_next (s i) (N i)))

  pub releases_are : (i : ℕ) → i < length S → released (s i) t ≡ N i + one? (releasing i)
  releases_are i h =
      releases_now (s i) (laid.fits.at i h).period_some t (instant_after (offset_at offsets i) (period_at plan i) (released_at l i)) (instant_is i h)

  -- rule 2, by counts
  module _ (i : ℕ) (h : i < length S) where
    abbrev ps : List ℕ
    ps = (s i).predecessors

    abbrev mask : ℕ
    mask = after_at plan i

    predecessor_beside : (p : ℕ) → T (any? (eqb p) ps) → Beside S (s i) p
    predecessor_beside p w = beside_is S (s i) p (each_member (beside S (s i)) ps p w (laid.fits.at i h).same_graph)

    few_linked : m i ≤ N i
    few_linked = linked_le (L i) (N i)

    abbrev j : ℕ
    j = m i + 1

    abbrev test : ℕ → Bool
    test p = leb j (finished_at l p)

    test_is : (p : ℕ) → T (any? (eqb p) ps) → test p ≡ fewer S X.cap (whole S) t i p
    unfolding node_state finished_count finished_by
    test_is p w =
        let b = predecessor_beside p w in
        let same : N p ≡ N i = same_releases t (s p) (s i) b.period b.offset in
        let f : finished_at l p ≡ linked_up_to (L p) (c p) = (now.row p b.inside).finished in
        let most : linked_up_to (L p) (c p) ≤ N p = omega (arith, linked_le (L p) (c p), completed_le S X.cap t p) in
        bool_ext (test p) (fewer S X.cap (whole S) t i p)
        (λ y. lt→ltb (node_at S X.cap (whole S) t p).unfinished (node_at S X.cap (whole S) t i).unlinked (omega (arith, leb→le j (finished_at l p) y, finished_count_lem S X.cap t p, linked_count_lem S X.cap (whole S) t i)))
        (λ y. le→leb j (finished_at l p) (omega (arith, ltb→lt (node_at S X.cap (whole S) t p).unfinished (node_at S X.cap (whole S) t i).unlinked y, finished_count_lem S X.cap t p, linked_count_lem S X.cap (whole S) t i)))

    abbrev masked : ℕ → Bool
    masked p = not (bit mask p) || test p

    abbrev due : Bool
    due = is_due l.finished mask j (suc (N i))

    not_empty : (p : ℕ) → T (bit mask p) → eqb mask 0 ≡ false
    not_empty p w = ne_eqb mask 0 (λ e. let z : T false = rw (e, no_bit p) at w in absurd z)

    due_listed : T due → T (all? (fewer S X.cap (whole S) t i) ps)
    due_listed a =
        all_members (fewer S X.cap (whole S) t i) ps
        (λ p w.
        let inside : p < places = omega (arith, (predecessor_beside p w).inside, laid.fits.small) in
        let set : T (bit mask p) = rw ((laid.fits.at i h).after p inside) w in
        let all = rw (not_empty p set) at a in
        either_way (or_e (not (bit mask p)) (test p) (λ x. x) (λ x. x) (each_below masked places p inside all))
        (λ x. absurd (T_not (bit mask p) x set)) (λ x. rw (test_is p w) at x))

    listed_due : T (all? (fewer S X.cap (whole S) t i) ps) → T due
    listed_due a =
        either_way (dec (eqb mask 0)) (λ e. rw e (le→leb j (suc (N i)) (omega (arith, few_linked))))
        (λ e. rw e
        (all_below_lem masked places
        (λ p inside. either_way (dec (bit mask p))
        (λ b.
        let w : T (any? (eqb p) ps) = rw ((laid.fits.at i h).after p inside) at (true_T (bit mask p) b) in
        or_r (not (bit mask p)) (test p) (rw (test_is p w) (each_member (fewer S X.cap (whole S) t i) ps p w a)))
        (λ b. or_l (not (bit mask p)) (test p) (rw b tt)))))

    module _ (release : N i < released (s i) t) where
      due_is : due ≡ due_by S X.cap (whole S) t i j
      due_is =
          bool_ext due (all? (fewer S X.cap (whole S) t i) ps) due_listed listed_due
          ∙ sym
          (due_by_counts S X.cap (whole S) (whole_rises S) t i release
          (all_members (alongside S X.cap (whole S) t i) ps
          (λ p w.
          let b = predecessor_beside p w in
          eq→eqb (N p) (N i) (same_releases t (s p) (s i) b.period b.offset))))

      -- what the server job released at t is linked to
      new_link_lem : L' i (suc (N i)) ≡ cond due j 0
      new_link_lem =
          links_new S X.cap (whole S) t i (suc (N i)) h (omega arith) release ∙ new_link_is_lem S X.cap (whole S) t i ∙ rw due_is

    new_job_is : new_job plan offsets l t i ≡ cond due (Some j) None
    new_job_is =
        let r = now.row i h in
        let n : further (linked_at l i) 1 ≡ j = omega (arith, r.linked, few_linked, few_released (s i) t) in
        rw (n, next_is i h)

    new_link_is : new_link plan offsets l t i ≡ cond due j 0
    new_link_is = ap (λ (o : Option ℕ). unwrap_or o 0) new_job_is ∙ link_number due j

  -- the ledger after the releases of the first n places
  abbrev after : Ledger
  after = release_to plan offsets l t (length S)

  after_sized : Sized after
  after_sized =
      record {
        released = changed_length releasing (λ (i : ℕ). i) (next_at plan offsets l t) l.released (length S) ∙ now.sized.released;
        complete = now.sized.complete;
        linked =
            changed_length releasing (λ (i : ℕ). i) (λ (i : ℕ). linked_after (linked_at l i) (new_job plan offsets l t i)) l.linked (length S)
            ∙ now.sized.linked;
        finished = now.sized.finished;
        worst = now.sized.worst;
        used = changed_length releasing (new_slot plan offsets l t) (λ (i : ℕ). 0) l.used (length S) ∙ now.sized.used;
        link = changed_length releasing (new_slot plan offsets l t) (new_link plan offsets l t) l.link (length S) ∙ now.sized.link;
      }

  abbrev RowAfter : ℕ → Type 0
  RowAfter i = Row i (used_by S X.cap t i) (L' i) (released (s i) t) (c i) (figure X (whole S) i t) after

  module _ (i : ℕ) (h : i < length S) where
    abbrev r : Row i (used_by S X.cap t i) (L i) (N i) (c i) (figure X (whole S) i t) l
    r = now.row i h

    inside : i < places
    inside = omega (arith, laid.fits.small)

    old : (k : ℕ) → 1 ≤ k → k ≤ N i → L' i k ≡ L i k
    old k a b = links_old S X.cap (whole S) t i k a b

    finished_same : linked_up_to (L' i) (c i) ≡ linked_up_to (L i) (c i)
    finished_same = same_count S X.cap (whole S) t i (c i) r.order

    -- a slot of an older server job is not written
    old_slot : (k : ℕ) → c i < k → k ≤ N i → (q : ℕ) → q < length S → T (releasing q) → slot_at i k ≡ new_slot plan offsets l t q → ⊥
    old_slot k a b q g w e =
        let same : i ≡ q = slot_place i q k (next_at plan offsets l t q) e in
        let here : slot_at i k ≡ slot_at i (suc (N i)) = rw (← same, next_is i h) at e in
        let z : k ≡ suc (N i) = slot_number i (c i) k (suc (N i)) here a (omega (arith, now.few i h)) (omega (arith, r.order)) (omega (arith, now.few i h)) in
        omega arith

    kept : releasing i ≡ false → RowAfter i
    kept e =
        let n : released (s i) t ≡ N i = releases_are i h ∙ rw e (omega arith) in
        let no : (q : ℕ) → q < length S → T (releasing q) → i ≡ q → ⊥ = λ q g w z. let f : T false = subst (λ (b : Bool). T b) e (subst (λ (x : ℕ). T (releasing x)) (sym z) w) in absurd f in
        rw n
        (record {
          released = changed_other releasing (λ (i : ℕ). i) (next_at plan offsets l t) l.released (length S) i no ∙ r.released;
          complete = r.complete;
          linked =
              changed_other releasing (λ (i : ℕ). i) (λ (i : ℕ). linked_after (linked_at l i) (new_job plan offsets l t i)) l.linked (length S) i no
              ∙ r.linked ∙ sym (same_count S X.cap (whole S) t i (N i) (omega arith));
          finished = r.finished ∙ sym finished_same;
          worst = r.worst;
          order = r.order;
          room = r.room;
          used = λ k a b.
              changed_other releasing (new_slot plan offsets l t) (λ (i : ℕ). 0) l.used (length S) (slot_at i k) (old_slot k a b) ∙ r.used k a b;
          link = λ k a b.
              changed_other releasing (new_slot plan offsets l t) (new_link plan offsets l t) l.link (length S) (slot_at i k) (old_slot k a b)
              ∙ r.link k a b ∙ sym (old k (omega arith) b);
        })

    pushed : releasing i ≡ true → RowAfter i
    pushed e =
        let n : released (s i) t ≡ suc (N i) = releases_are i h ∙ rw e (omega arith) in
        let w : T (releasing i) = true_T (releasing i) e in
        let own : (q : ℕ) → q < length S → T (releasing q) → i ≡ q → q ≡ i = λ q g v z. sym z in
        let own-slot : (q : ℕ) → q < length S → T (releasing q) → new_slot plan offsets l t i ≡ new_slot plan offsets l t q → q ≡ i =
        λ q g v z. sym (slot_place i q (next_at plan offsets l t i) (next_at plan offsets l t q) z) in
        let new : L' i (suc (N i)) ≡ cond (due i h) (j i h) 0 = new_link_lem i h (omega arith) in
        let counted : linked_after (linked_at l i) (new_job plan offsets l t i) ≡ m i + one? (ltb 0 (cond (due i h) (j i h) 0)) =
        rw (new_job_is i h, r.linked) (counted_link (due i h) (m i)) in
        let linked-then : linked_up_to (L' i) (suc (N i)) ≡ m i + one? (ltb 0 (cond (due i h) (j i h) 0)) =
        linked_last (L' i) (N i) ∙ rw (new, same_count S X.cap (whole S) t i (N i) (omega arith)) in
        let at_new : slot_at i (suc (N i)) ≡ new_slot plan offsets l t i = ap (slot_at i) (sym (next_is i h)) in
        rw n
        (record {
          released =
              changed_at releasing (λ (i : ℕ). i) (next_at plan offsets l t) l.released (length S) i h w own (omega (arith, inside, now.sized.released))
              ∙ next_is i h;
          complete = r.complete;
          linked =
              changed_at releasing (λ (i : ℕ). i) (λ (i : ℕ). linked_after (linked_at l i) (new_job plan offsets l t i)) l.linked (length S) i h w own
              (omega (arith, inside, now.sized.linked))
              ∙ counted
              ∙ sym linked-then;
          finished = r.finished ∙ sym finished_same;
          worst = r.worst;
          order = omega (arith, r.order);
          room = omega (arith, now.few i h);
          used = λ k a b.
              by_lt (N i) k
              (λ g.
              let z : k ≡ suc (N i) = omega arith in
              ap (λ (x : ℕ). get_or after.used x 0) (ap (slot_at i) z ∙ at_new)
              ∙ changed_at releasing (new_slot plan offsets l t) (λ (i : ℕ). 0) l.used (length S) i h w own-slot
              (omega (arith, in_slots i (next_at plan offsets l t i) inside, now.sized.used))
              ∙ sym (ap (used_by S X.cap t i) z ∙ used_out S X.cap t i (suc (N i)) (omega arith)))
              (λ g. changed_other releasing (new_slot plan offsets l t) (λ (i : ℕ). 0) l.used (length S) (slot_at i k) (old_slot k a g) ∙ r.used k a g);
          link = λ k a b.
              by_lt (N i) k
              (λ g.
              let z : k ≡ suc (N i) = omega arith in
              ap (λ (x : ℕ). get_or after.link x 0) (ap (slot_at i) z ∙ at_new)
              ∙ changed_at releasing (new_slot plan offsets l t) (new_link plan offsets l t) l.link (length S) i h w own-slot
              (omega (arith, in_slots i (next_at plan offsets l t i) inside, now.sized.link))
              ∙ new_link_is i h ∙ sym (ap (L' i) z ∙ new))
              (λ g.
              changed_other releasing (new_slot plan offsets l t) (new_link plan offsets l t) l.link (length S) (slot_at i k) (old_slot k a g)
              ∙ r.link k a g ∙ sym (old k (omega arith) g));
        })

    row_after : RowAfter i
    row_after = either_way (dec (releasing i)) pushed kept

  pub release_keeps : Released X t (release plan offsets l t)
  unfolding release
  release_keeps = rw (nodes_are X plan laid.fits) (record { sized = after_sized; row = row_after })
