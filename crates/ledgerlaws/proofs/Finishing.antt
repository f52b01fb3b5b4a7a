-- The work done up to the end of a tick, finished, keeps the relation: so many server jobs are complete, and the jobs linked to them are finished, with
-- the largest of their responses.
use mathlib.Core.Path.{◌≡◌, sym, ap, subst, ◌∙◌}
use mathlib.Core.Bool.{cond}
use mathlib.Core.List.{List}
use Prim.Native.Nat.{ℕ, zero, suc, ◌+◌, ◌-◌, ◌≤◌, ◌<◌, min, max}
use native.Mathlib.Nat.{le_refl}
use native.Mathlib.Omega.{arith}
use lib.Dec.{ltb, eqb, lt→ltb, ltb→lt}
use lib.ListN.{length, get_or}
use borrow.Author.Tests.{le-leb, lt-leb, eq-eqb, ne_eqb, lt-ltb, le-ltb}
use Rattle.schedule.specs.Lists.{one?}
use Rattle.schedule.specs.Servers.{Server, srv, Box, whole}
use Rattle.schedule.specs.ServerJobs.{release_of, released, released_before}
use Rattle.schedule.specs.Walk.{figure}
use Rattle.schedule.proofs.Tests.{by_lt, one_of, none_of}
use Rattle.theorems.proofs.Releases.{released_before_le}
use Rattle.theorems.proofs.InTurn.{budget_of, used_by, used_step, completed, completed_le, is_complete, not_complete}
use Rattle.theorems.proofs.LinkRows.{linked_up_to, linked_last, linked_le}
use Rattle.theorems.proofs.Linking.{link_of}
use Rattle.theorems.proofs.QuietSpans.{Quiet, quiet_one}
use Rattle.window.specs.declared.Plan.{Plan}
use Rattle.window.specs.Entries.{window, last_key, further, budget_at, period_at}
use Rattle.window.proofs.Loops.{replaced_length, replaced_in}
use Rattle.window.proofs.Relation.{last_instant}
use Rattle.window.proofs.Responding.{worst_up_to, worst_at_first, worst_at_last, worst_next}
use Rattle.window.proofs.Places.{nodes_are}
use Rattle.ledger.specs.declared.Done.{Done}
use Rattle.ledger.specs.declared.Ledger.{Ledger}
use Rattle.ledger.specs.Entries.{slot_at, offset_at, released_at, complete_at}
use Rattle.ledger.specs.Finishing.{response_of, with_one, done_by, from_at, done_at, finish_to, finish}
use Rattle.ledgerlaws.proofs.Relation.{Laid, Row, InStep, Ran}
use Rattle.ledgerlaws.proofs.Releasing.{few_released_now}

-- what is complete stays so
complete_grows : (S : List Server) (cap : ℕ → ℕ) (t i : ℕ) → completed S cap t i ≤ completed S cap (suc t) i
unfolding released_before
complete_grows S cap t i =
    let c = completed S cap t i in
    let c' = completed S cap (suc t) i in
    by_lt c' c
    (λ l.
    let k = c' + 1 in
    let full = is_complete S cap t i k (omega arith) (omega arith) in
    let not = not_complete S cap (suc t) i k (omega arith) (omega (arith, completed_le S cap t i, released_before_le (srv S i) t)) (omega arith) in
    absurd (let x : ⊥ = omega (arith, full, not, used_step S cap t i k) in x))
    (λ l. l)

module _ (X : Box) (plan : Plan) (offsets : List ℕ) (laid : Laid X plan offsets) (t : ℕ) (l : Ledger) (ran : Ran X t l) (early : t ≤ last_instant) where
  abbrev S : List Server
  S = X.servers

  abbrev N : ℕ → ℕ
  N i = released (srv S i) t

  module _ (i : ℕ) (h : i < length S) where
    abbrev s : Server
    s = srv S i

    abbrev c : ℕ
    c = completed S X.cap t i

    abbrev c' : ℕ
    c' = completed S X.cap (suc t) i

    abbrev L : ℕ → ℕ
    L = link_of S X.cap (whole S) (suc t) i

    abbrev U : ℕ → ℕ
    U = used_by S X.cap (suc t) i

    abbrev r : Row i U L (N i) c (figure X (whole S) i t) l
    r = ran.row i h

    abbrev W : ℕ → ℕ
    W k = worst_up_to X t 1 i k

    abbrev tick : t + 1 ≡ suc t
    tick = omega arith

    quiet : Quiet S X.cap t 1
    quiet = quiet_one S X.cap t

    abbrev budget_some : 0 < budget_of S i
    budget_some = (laid.fits.at i h).budget_some

    W-first : W c ≡ figure X (whole S) i t
    W-first = worst_at_first X t 1 quiet (le_refl 1) i h budget_some

    W-last : W c' ≡ figure X (whole S) i (suc t)
    W-last = subst (λ (u : ℕ). worst_up_to X t 1 i (completed S X.cap u i) ≡ figure X (whole S) i u) tick (worst_at_last X t 1 quiet (le_refl 1) i h budget_some)

    W-next : (k : ℕ) → c ≤ k → budget_of S i ≤ U (k + 1) → W (k + 1) ≡ cond (ltb 0 (L (k + 1))) (max (W k) (suc t - release_of s (L (k + 1)))) (W k)
    W-next k a b =
        subst (λ (u : ℕ). W (k + 1) ≡ cond (ltb 0 (L (k + 1))) (max (W k) (u - release_of s (L (k + 1)))) (W k)) tick
        (worst_next X t 1 quiet (le_refl 1) i h budget_some k a (subst (λ (u : ℕ). budget_of S i ≤ used_by S X.cap u i (k + 1)) (sym tick) b))

    grows : c ≤ c'
    grows = complete_grows S X.cap t i

    most : c' ≤ N i
    unfolding released_before
    most = completed_le S X.cap (suc t) i

    -- the first k are complete
    abbrev R : ℕ → Done
    R k = record { complete = k; finished = linked_up_to L k; worst = W k }

    abbrev D : ℕ → Done
    D m = done_by l.used l.link i (from_at l i) (budget_at plan i) (offset_at offsets i) (period_at plan i) (suc t) m

    -- one more
    module _ (k : ℕ) (a : c ≤ k) (b : k + 1 ≤ c') where
      full : budget_of S i ≤ U (k + 1)
      full = is_complete S X.cap (suc t) i (k + 1) (omega arith) b

      small : k < last_key
      small = omega (arith, most, few_released_now s t)

      last : linked_up_to L (k + 1) ≡ linked_up_to L k + one? (ltb 0 (L (k + 1)))
      last = let e : suc k ≡ k + 1 = omega arith in subst (λ (q : ℕ). linked_up_to L q ≡ linked_up_to L k + one? (ltb 0 (L q))) e (linked_last L k)

      response_is : response_of (offset_at offsets i) (period_at plan i) (L (k + 1)) (suc t) ≡ suc t - release_of s (L (k + 1))
      unfolding release_of
      response_is = rw (laid.offset i h, (laid.fits.at i h).period)

      finished_one : cond (eqb (L (k + 1)) 0) (linked_up_to L k) (further (linked_up_to L k) 1) ≡ linked_up_to L (k + 1)
      finished_one =
          by_lt 0 (L (k + 1))
          (λ p. rw (ne_eqb (L (k + 1)) 0 (λ e. omega arith)) (omega (arith, last, one_of (ltb 0 (L (k + 1))) (lt→ltb 0 (L (k + 1)) p), linked_le L k, small)))
          (λ p. rw (eq-eqb (L (k + 1)) 0 (omega arith))
          (omega (arith, last, none_of (ltb 0 (L (k + 1))) (λ w. let z = ltb→lt 0 (L (k + 1)) w in let x : ⊥ = omega arith in x))))

      worst_one : cond (eqb (L (k + 1)) 0) (W k) (max (W k) (response_of (offset_at offsets i) (period_at plan i) (L (k + 1)) (suc t))) ≡ W (k + 1)
      worst_one =
          rw response_is
          (by_lt 0 (L (k + 1))
          (λ p. rw (ne_eqb (L (k + 1)) 0 (λ e. omega arith)) (sym (W-next k a full ∙ rw (lt-ltb 0 (L (k + 1)) p))))
          (λ p. rw (eq-eqb (L (k + 1)) 0 (omega arith)) (sym (W-next k a full ∙ rw (le-ltb 0 (L (k + 1)) p)))))

      one_more_lem : with_one (R k) (L (k + 1)) (offset_at offsets i) (period_at plan i) (suc t) ≡ R (k + 1)
      one_more_lem =
          let p : further k 1 ≡ k + 1 = omega (arith, small) in
          let q = finished_one in
          let w = worst_one in
          λ x. record { complete = p x; finished = q x; worst = w x }

    step : (m : ℕ) → suc m ≤ N i - c → D m ≡ R (min (c + m) c') → D (suc m) ≡ R (min (c + suc m) c')
    unfolding done_by released_before
    step m z ih =
        let k : ℕ = c + m + 1 in
        let number : complete_at l i + suc m ≡ k = omega (arith, r.complete) in
        let used-is : get_or l.used (slot_at i (complete_at l i + suc m)) 0 ≡ U k =
        ap (λ (q : ℕ). get_or l.used (slot_at i q) 0) number ∙ r.used k (omega arith) (omega arith) in
        let link-is : get_or l.link (slot_at i (complete_at l i + suc m)) 0 ≡ L k =
        ap (λ (q : ℕ). get_or l.link (slot_at i q) 0) number ∙ r.link k (omega arith) (omega arith) in
        let budget = (laid.fits.at i h).budget in
        by_lt (c + m) c'
        (λ g.
        let e : min (c + m) c' ≡ c + m = omega arith in
        let e' : min (c + suc m) c' ≡ c + m + 1 = omega arith in
        let so_far : D m ≡ R (c + m) = ih ∙ ap R e in
        let yes = le-leb (budget_at plan i) (U k) (omega (arith, budget, full (c + m) (omega arith) (omega arith))) in
        rw (used-is, link-is, yes, so_far, e') (one_more_lem (c + m) (omega arith) (omega arith)))
        (λ g.
        let e : min (c + m) c' ≡ min (c + suc m) c' = omega arith in
        let less = not_complete S X.cap (suc t) i k (omega arith) (omega arith) (omega arith) in
        let no = lt-leb (budget_at plan i) (U k) (omega (arith, budget, less)) in
        rw (used-is, no) (ih ∙ ap R e))

    done_is : (m : ℕ) → m ≤ N i - c → D m ≡ R (min (c + m) c')
    unfolding done_by
    done_is zero z =
        let e : min (c + 0) c' ≡ c = omega (arith, grows) in
        let p = r.complete in
        let q = r.finished in
        let w = r.worst ∙ sym W-first in
        rw e (λ x. record { complete = p x; finished = q x; worst = w x })
    done_is (suc m) z = step m z (done_is m (omega arith))

    all_done : done_at plan offsets l (suc t) i ≡ R c'
    all_done =
        let e : released_at l i - complete_at l i ≡ N i - c = omega (arith, r.released, r.complete) in
        let e' : min (c + (N i - c)) c' ≡ c' = omega (arith, r.order, most) in
        ap D e ∙ done_is (N i - c) (le_refl (N i - c)) ∙ ap R e'

  abbrev after : ℕ → Ledger
  after n = finish_to plan offsets l (suc t) n

  abbrev all : ℕ → Done
  all i = done_at plan offsets l (suc t) i

  finished_all_lem : ((i : ℕ) → i < length S → N i ≤ completed S X.cap t i + window) → InStep X (suc t) (after (length S))
  unfolding released_before
  finished_all_lem few =
      record {
        sized =
            record {
              released = ran.sized.released;
              complete = replaced_length (λ (i : ℕ). (all i).complete) l.complete (length S) ∙ ran.sized.complete;
              linked = ran.sized.linked;
              finished = replaced_length (λ (i : ℕ). (all i).finished) l.finished (length S) ∙ ran.sized.finished;
              worst = replaced_length (λ (i : ℕ). (all i).worst) l.worst (length S) ∙ ran.sized.worst;
              used = ran.sized.used;
              link = ran.sized.link;
            };
        row = λ i h.
            let r = ran.row i h in
            let small = laid.fits.small in
            record {
              released = r.released;
              complete =
                  replaced_in (λ (i : ℕ). (all i).complete) l.complete (length S) i 0 h (omega (arith, ran.sized.complete))
                  ∙ ap (λ (d : Done). d.complete) (all_done i h);
              linked = r.linked;
              finished =
                  replaced_in (λ (i : ℕ). (all i).finished) l.finished (length S) i 0 h (omega (arith, ran.sized.finished))
                  ∙ ap (λ (d : Done). d.finished) (all_done i h);
              worst =
                  replaced_in (λ (i : ℕ). (all i).worst) l.worst (length S) i 0 h (omega (arith, ran.sized.worst))
                  ∙ ap (λ (d : Done). d.worst) (all_done i h) ∙ W-last i h;
              order = most i h;
              room = omega (arith, r.room, grows i h);
              used = λ k a b. r.used k (omega (arith, grows i h)) b;
              link = λ k a b. r.link k (omega (arith, grows i h)) b;
            };
        few = λ i h. omega (arith, few i h, grows i h);
      }

  pub finish_keeps : ((i : ℕ) → i < length S → N i ≤ completed S X.cap t i + window) → InStep X (suc t) (finish plan offsets l (suc t))
  unfolding finish
  finish_keeps few = subst (λ (m : ℕ). InStep X (suc t) (after m)) (sym (nodes_are X plan laid.fits)) (finished_all_lem few)
