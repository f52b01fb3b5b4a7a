-- An instant of the plain engine: a server's pending jobs one by one, and the predecessors of a mask.
use mathlib.Core.Path.{◌≡◌, refl, sym, ap, ◌∙◌}
use mathlib.Core.Bool.{Bool, true, false, ◌&&◌, ◌||◌, not, or-true}
use mathlib.Core.List.{List}
use Rattle.std.specs.Prelude.{Option, unwrap_or}
use Prim.Native.Nat.{ℕ, suc, ◌+◌, ◌-◌, ◌^◌, ◌≤◌, ◌<◌}
use native.Mathlib.Numerals.{add-one}
use native.Mathlib.Omega.{arith}
use lib.Dec.{leb, eqb}
use lib.ListN.{get_or, set}
use borrow.Author.Tests.{le-leb, lt-leb, eqb-true}
use Rattle.numbers.specs.Masks.{width, bit, without, lowest}
use Rattle.numbers.proofs.Cases.{by_test}
use Rattle.numbers.proofs.MaskLaws.{no_bit, bit_without, lowest_set, lowest_below}
use Rattle.window.specs.declared.Plan.{Plan}
use Rattle.window.specs.Entries.{places, further, after_at, nodes_of}
use Rattle.window.specs.Loops.{replaced}
use Rattle.window.proofs.LoopLaws.{all_missed, all_true, all_same}
use Rattle.ledger.specs.declared.Done.{Done}
use Rattle.ledger.specs.declared.Ledger.{Ledger}
use Rattle.ledger.specs.Entries.{slot_at, linked_at}
use Rattle.ledger.specs.Loops.{changed}
use Rattle.ledger.specs.Finishing.{with_one, done_by, done_at, finish_to, finish}
use Rattle.ledger.specs.Releasing.{all_finished, link_now, linked_after, releases_at, next_at, release_to, release}

-- the pending server jobs of one server: k is the last that was looked at
module _ (used link : List ℕ) (i : ℕ) (from : Done) (budget offset period t : ℕ) where
  abbrev up_to : ℕ → Done
  up_to k = done_by used link i from budget offset period t (k - from.complete)

  pub done_start : from ≡ up_to from.complete
  unfolding done_by
  done_start = let e : from.complete - from.complete ≡ 0 = omega arith in rw e

  module _ (k : ℕ) (h : from.complete ≤ k) {s : ℕ} (at : s ≡ slot_at i (k + 1)) {d : Done} (so_far : d ≡ up_to k) where
    next : k + 1 - from.complete ≡ suc (k - from.complete)
    next = omega arith

    number : from.complete + suc (k - from.complete) ≡ k + 1
    number = omega arith

    pub done_full : budget ≤ get_or used s 0 → {r : Done} → r ≡ with_one d (get_or link s 0) offset period t → r ≡ up_to (k + 1)
    unfolding done_by
    done_full l e =
        let here : leb budget (get_or used (slot_at i (k + 1)) 0) ≡ true = rw at at (le-leb budget (get_or used s 0) l) in
        rw (next, number, here, ← so_far, ← at) e

    pub done_same : get_or used s 0 < budget → d ≡ up_to (k + 1)
    unfolding done_by
    done_same l =
        let here : leb budget (get_or used (slot_at i (k + 1)) 0) ≡ false = rw at at (lt-leb budget (get_or used s 0) l) in
        rw (next, number, here) so_far

-- the predecessors, by what is left of the mask
module _ (finished : List ℕ) (j : ℕ) where
  abbrev finished_in : ℕ → ℕ → Bool
  finished_in m p = not (bit m p) || leb j (get_or finished p 0)

  pub finished_none : true ≡ all_finished finished 0 j
  finished_none = all_true (finished_in 0) places (λ p l. ap (λ (b : Bool). not b || leb j (get_or finished p 0)) (no_bit p))

  pub finished_no : (m p : ℕ) → p < places → bit m p ≡ true → get_or finished p 0 < j → false ≡ all_finished finished m j
  finished_no m p h e u =
      all_missed (finished_in m) places p h
      (ap (λ (b : Bool). not b || leb j (get_or finished p 0)) e ∙ lt-leb j (get_or finished p 0) u)

  pub finished_yes : (m p : ℕ) → j ≤ get_or finished p 0 → all_finished finished m j ≡ all_finished finished (without m p) j
  finished_yes m p h = all_same (finished_in m) (finished_in (without m p)) places (λ q l. by_test (eqb q p) (λ e. here q (eqb-true q p e)) (λ e. other q e))
    where
      here : (q : ℕ) → q ≡ p → finished_in m q ≡ finished_in (without m p) q
      here q e =
          let t : leb j (get_or finished q 0) ≡ true = le-leb j (get_or finished q 0) (rw e h) in
          ap (λ (b : Bool). not (bit m q) || b) t ∙ or-true (not (bit m q))
          ∙ sym (ap (λ (b : Bool). not (bit (without m p) q) || b) t ∙ or-true (not (bit (without m p) q)))

      other : (q : ℕ) → eqb q p ≡ false → finished_in m q ≡ finished_in (without m p) q
      other q e = ap (λ (b : Bool). not b || leb j (get_or finished q 0)) (sym (bit_without m p q ∙ ap (λ (b : Bool). not b && bit m q) e))

-- the lowest bit of a mask that has one
module _ (m p : ℕ) (some : m ≡ 0 → ⊥) (fits : m < 2 ^ width) (e : p ≡ lowest m) where
  pub low_place : p < places
  low_place = rw e (lowest_below m (omega arith) fits)

  pub low_set : bit m p ≡ true
  low_set = ap (bit m) e ∙ lowest_set m (lowest_below m (omega arith) fits)

-- one place more finished, and all of them
module _ (plan : Plan) (offsets : List ℕ) (l : Ledger) (t : ℕ) where
  pub finish_more : (i : ℕ) {next : Ledger} {d : Done} → next ≡ finish_to plan offsets l t i → d ≡ done_at plan offsets l t i
      → ◌≡◌ {A = Ledger}
      (record {
        released = next.released;
        complete = set next.complete i d.complete;
        linked = next.linked;
        finished = set next.finished i d.finished;
        worst = set next.worst i d.worst;
        used = next.used;
        link = next.link;
      })
      (finish_to plan offsets l t (i + 1))
  unfolding replaced
  finish_more i e f = rw (add-one i, e, f)

  pub finish_none : l ≡ finish_to plan offsets l t 0
  unfolding replaced
  finish_none = refl

  pub finish_all : (n i : ℕ) {next : Ledger} → n ≡ nodes_of plan → next ≡ finish_to plan offsets l t i → i ≤ n → n ≤ i → next ≡ finish plan offsets l t
  unfolding finish
  finish_all n i e f h g = let z : i ≡ nodes_of plan = omega arith in f ∙ ap (finish_to plan offsets l t) z

  -- one place more released, or not
  pub release_yes : (i : ℕ) {next : Ledger} {x : Bool} {k a s m n : ℕ} {j : Option ℕ} {u : Ledger} → next ≡ release_to plan offsets l t i
      → x ≡ releases_at plan offsets l t i → x ≡ true → k ≡ next_at plan offsets l t i → a ≡ further (linked_at l i) 1
      → j ≡ link_now l.finished (after_at plan i) a k → s ≡ slot_at i k → m ≡ linked_after (linked_at l i) j → n ≡ unwrap_or j 0
      → u
      ≡ record {
        released = set next.released i k;
        complete = next.complete;
        linked = set next.linked i m;
        finished = next.finished;
        worst = next.worst;
        used = set next.used s 0;
        link = set next.link s n;
      }
      → u ≡ release_to plan offsets l t (i + 1)
  unfolding changed
  release_yes i e f g ke ae je se me ne ue =
      let w : releases_at plan offsets l t i ≡ true = sym f ∙ g in
      ue ∙ rw (add-one i, w, me, ne, se, je, ae, ke, e)

  pub release_no : (i : ℕ) {next : Ledger} {x : Bool} → next ≡ release_to plan offsets l t i → x ≡ releases_at plan offsets l t i → x ≡ false
      → next ≡ release_to plan offsets l t (i + 1)
  unfolding changed
  release_no i e f g =
      let w : releases_at plan offsets l t i ≡ false = sym f ∙ g in
      e ∙ rw (add-one i, w)

  pub release_none : l ≡ release_to plan offsets l t 0
  unfolding changed
  release_none = refl

  pub release_all : (n i : ℕ) {next : Ledger} → n ≡ nodes_of plan → next ≡ release_to plan offsets l t i → i ≤ n → n ≤ i → next ≡ release plan offsets l t
  unfolding release
  release_all n i e f h g = let z : i ≡ nodes_of plan = omega arith in f ∙ ap (release_to plan offsets l t) z
