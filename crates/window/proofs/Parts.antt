-- Of a server job that is given by two parts, as `Pending::of` of crate `table` takes them, a walk reads whether it is linked, and the number only
-- where it is. Two pairs of an unlinked one, as (5, unlinked) and (0, unlinked), are one `Pending`, and the comparison of two boundaries
-- cannot tell them apart; no walk makes the first: `linked_now` gives an unlinked one the number 0, and so has each `Slot` of a walk's state.
use mathlib.Core.Path.{◌≡◌, refl, sym, ap, ◌∙◌}
use mathlib.Core.Bool.{Bool, true, false, ◌&&◌, cond}
use mathlib.Core.List.{List}
use Prim.Native.Nat.{ℕ, ◌*◌, ◌-◌}
use lib.Dec.{eqb, ltb}
use lib.ListN.{set}
use borrow.Author.Tests.{eq-eqb}
use Rattle.std.specs.Prelude.{Option, Some, None, is_some, unwrap_or}
use Rattle.table.specs.declared.Pending.{Pending}
use Rattle.table.specs.declared.State.{State}
use Rattle.table.specs.Parts.{pending_of}
use Rattle.window.specs.declared.Plan.{Plan}
use Rattle.window.specs.Entries.{window, slot_of, server_at, count_at, first_at, next_at, period_at, step_at}
use Rattle.window.specs.Releasing.{linked_now}
use Rattle.window.specs.Finishing.{response_of, moved_down, later_key, counted_unfinished, counted_worst, shifted_at, finished_with}
use Rattle.window.specs.Comparing.{same_bool, same_pending}
use Rattle.window.proofs.Relation.{Slot}

linked_part : (behind : ℕ) (linked : Bool) → is_some (pending_of behind linked).behind ≡ linked
linked_part behind true = refl
linked_part behind false = refl

behind_part : (behind : ℕ) (linked : Bool) → unwrap_or (pending_of behind linked).behind 0 ≡ cond linked behind 0
behind_part behind true = refl
behind_part behind false = refl

-- what is linked now, by its parts
pub linked_now_parts : (due : Bool) (unlinked : ℕ) → linked_now due unlinked ≡ pending_of (cond due unlinked 0) due
linked_now_parts true unlinked = refl
linked_now_parts false unlinked = refl

-- each slot of a walk's state is what is made of a pair whose number is 0 where it is unlinked
pub slot_parts : (L : ℕ → ℕ) (k : ℕ) (p : Pending) → Slot L k p → p ≡ pending_of (cond (ltb 0 (L k)) (k - L k) 0) (ltb 0 (L k))
slot_parts L k p s = go p.behind (ltb 0 (L k)) s.linked s.behind
  where
    go : (o : Option ℕ) (b : Bool) → is_some o ≡ b → unwrap_or o 0 ≡ cond b (k - L k) 0
        → ◌≡◌ {A = Pending} (record { behind = o }) (pending_of (cond b (k - L k) 0) b)
    go None false e h = refl
    go None true e h = let z : ◌≡◌ {A = Bool} false true = e in cc
    go (Some x) false e h = let z : ◌≡◌ {A = Bool} true false = e in cc
    go (Some x) true e h = ap (λ (y : ℕ). record { behind = Some y }) h

-- the response counts for a linked one alone
worst_parts : (worst : List ℕ) (i : ℕ) (linked : Bool) (r : ℕ → ℕ) (behind : ℕ)
    → counted_worst worst i linked (r (cond linked behind 0)) ≡ counted_worst worst i linked (r behind)
worst_parts worst i true r behind = refl
worst_parts worst i false r behind = refl

-- the server at i without its oldest pending job, which is given by its parts
pub finished_by_parts : (plan : Plan) (now : ℕ) (st : State) (i behind : ℕ) (linked : Bool) → slot_of (server_at st i) 0 ≡ pending_of behind linked
    → finished_with plan now st i ≡ record {
      servers = shifted_at st.servers i (count_at st i);
      left = moved_down st.left (i * window) (count_at st i);
      first = set st.first i (later_key (count_at st i) (first_at st i) (step_at plan i));
      count = set st.count i (count_at st i - 1);
      unfinished = counted_unfinished st.unfinished i linked;
      unlinked = st.unlinked;
      worst = counted_worst st.worst i linked (response_of now (next_at st i) (count_at st i) behind (period_at plan i));
      next = st.next;
    }
finished_by_parts plan now st i behind linked e =
    rw (
      e,
      linked_part behind linked,
      behind_part behind linked,
      worst_parts st.worst i linked (λ (b : ℕ). response_of now (next_at st i) (count_at st i) b (period_at plan i)) behind,
    ) refl

-- pairs whose unlinked ones have the number 0 are the same exactly where what is made of them is
pub same_parts : (x y : ℕ) (a b : Bool) → (a ≡ false → x ≡ 0) → (b ≡ false → y ≡ 0)
    → same_pending (pending_of x a) (pending_of y b) ≡ (same_bool a b && eqb x y)
same_parts x y true true h g = refl
same_parts x y true false h g = refl
same_parts x y false true h g = refl
same_parts x y false false h g = sym (eq-eqb x y (h refl ∙ sym (g refl)))
