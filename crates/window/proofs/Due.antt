-- The engine's test of whether a server job is linked as it is released, by counts alone, is rule 2's and 3's: so its new link is the rules'.
use mathlib.Core.Path.{◌≡◌, sym, ◌∙◌}
use mathlib.Core.Bool.{Bool, not, ◌||◌, cond}
use mathlib.Core.List.{List}
use Prim.Native.Nat.{ℕ, suc, ◌+◌, ◌<◌}
use native.Mathlib.Omega.{arith}
use lib.Dec.{T, ltb, eqb, T_not}
use lib.ListN.{length}
use Rattle.schedule.specs.Lists.{any?, all?}
use Rattle.schedule.specs.Servers.{Server, srv, Box, whole}
use Rattle.schedule.specs.ServerJobs.{released, released_before}
use Rattle.schedule.specs.Links.{due_by}
use Rattle.schedule.proofs.Tests.{or_l, or_r, or_e, either_way, dec, true_T, bool_ext, eq→eqb}
use Rattle.theorems.proofs.LinkRows.{linked_up_to}
use Rattle.theorems.proofs.Linking.{link_of, new_link_is_lem, linked_count, links_new}
use Rattle.theorems.proofs.TableBox.{beside}
use Rattle.theorems.proofs.Window.{alongside, fewer, due_by_counts}
use Rattle.numbers.specs.Masks.{bit}
use Rattle.table.specs.declared.State.{State}
use Rattle.window.specs.declared.Plan.{Plan}
use Rattle.window.specs.Entries.{places, unfinished_at, unlinked_at, after_at}
use Rattle.window.specs.Releasing.{all_fewer}
use Rattle.window.proofs.Relation.{Fits, InStep}
use Rattle.window.proofs.Members.{each_member, all_members}
use Rattle.window.proofs.Loops.{each_below, all_below_lem}
use Rattle.window.proofs.Counted.{whole_rises, unfinished_is, unlinked_is}
use Rattle.window.proofs.Ancestors.{Beside, beside_is, same_releases}

module _ (X : Box) (plan : Plan) (fits : Fits X plan) (t : ℕ) (st : State) (now : InStep X t st) (i : ℕ) (h : i < length X.servers) where
  abbrev S : List Server
  S = X.servers

  abbrev ps : List ℕ
  ps = (srv S i).predecessors

  predecessor_beside : (p : ℕ) → T (any? (eqb p) ps) → Beside S (srv S i) p
  predecessor_beside p m = beside_is S (srv S i) p (each_member (beside S (srv S i)) ps p m (fits.at i h).same_graph)

  -- the engine's and the rules' test of one predecessor
  test_is : (p : ℕ) → T (any? (eqb p) ps)
      → ltb (unfinished_at st p) (unlinked_at st i) ≡ fewer S X.cap (whole S) t i p
  test_is p m =
      let b = predecessor_beside p m in
      rw (unfinished_is X t st now p b.inside, unlinked_is X t st now i h)

  abbrev mask : ℕ
  mask = after_at plan i

  abbrev test : ℕ → Bool
  test p = ltb (unfinished_at st p) (unlinked_at st i)

  -- by the mask's bits, and by the list of predecessors
  masked_listed : T (all_fewer st.unfinished mask (unlinked_at st i)) → T (all? (fewer S X.cap (whole S) t i) ps)
  masked_listed a =
      all_members (fewer S X.cap (whole S) t i) ps
      (λ p m.
      let inside : p < places = omega (arith, (predecessor_beside p m).inside, fits.small) in
      let set : T (bit mask p) = rw ((fits.at i h).after p inside) m in
      either_way
      (or_e (not (bit mask p)) (test p) (λ x. x) (λ x. x) (each_below (λ (p : ℕ). not (bit mask p) || test p) places p inside a))
      (λ x. absurd (T_not (bit mask p) x set)) (λ x. rw (test_is p m) at x))

  listed_masked : T (all? (fewer S X.cap (whole S) t i) ps) → T (all_fewer st.unfinished mask (unlinked_at st i))
  listed_masked a =
      all_below_lem (λ (p : ℕ). not (bit mask p) || test p) places
      (λ p inside. either_way (dec (bit mask p))
      (λ e.
      let m : T (any? (eqb p) ps) = rw ((fits.at i h).after p inside) at (true_T (bit mask p) e) in
      or_r (not (bit mask p)) (test p) (rw (test_is p m) (each_member (fewer S X.cap (whole S) t i) ps p m a)))
      (λ e. or_l (not (bit mask p)) (test p) (rw e tt)))

  module _ (release : released_before (srv S i) t < released (srv S i) t) where
    due_is : all_fewer st.unfinished mask (unlinked_at st i)
        ≡ due_by S X.cap (whole S) t i (linked_count S X.cap (whole S) t i + 1)
    due_is =
        bool_ext (all_fewer st.unfinished mask (unlinked_at st i)) (all? (fewer S X.cap (whole S) t i) ps) masked_listed listed_masked
        ∙ sym
        (due_by_counts S X.cap (whole S) (whole_rises S) t i release
        (all_members (alongside S X.cap (whole S) t i) ps
        (λ p m.
        let b = predecessor_beside p m in
        eq→eqb (released_before (srv S p) t) (released_before (srv S i) t) (same_releases t (srv S p) (srv S i) b.period b.offset))))

    -- what the server job released at t is linked to
    pub new_link_lem : link_of S X.cap (whole S) (suc t) i (suc (released_before (srv S i) t))
        ≡ cond (all_fewer st.unfinished mask (unlinked_at st i))
        (linked_up_to (link_of S X.cap (whole S) t i) (released_before (srv S i) t) + 1) 0
    new_link_lem =
        links_new S X.cap (whole S) t i (suc (released_before (srv S i) t)) h (omega arith) release
        ∙ new_link_is_lem S X.cap (whole S) t i
        ∙ rw due_is
