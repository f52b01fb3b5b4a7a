-- The test of two states is their equality: it passes exactly where every part that document 01 lists agrees.
use mathlib.Core.Path.{◌≡◌, refl, ap, subst}
use mathlib.Core.Bool.{Bool, true}
use mathlib.Core.List.{List, [], ◌∷◌}
use mathlib.Core.Logic.{◌↔◌}
use mathlib.Core.Option.{Option, none, some}
use Prim.Native.Nat.{ℕ}
use lib.Dec.{T, eqb, eqb→eq, eqb_refl}
use Rattle.schedule.specs.Lists.{alike, same_option}
use Rattle.schedule.specs.State.{PendingJob, NodeState, State, same_pending, same_node, same_state}
use Rattle.schedule.proofs.Tests.{and_l, and_r, and_i, T_true, true_T}

module _ {A : Type 0} (same : A → A → Bool) where
  alike_equal : ((x y : A) → T (same x y) → x ≡ y) → (l r : List A) → T (alike same l r) → l ≡ r
  alike_equal h [] [] t = refl
  alike_equal h [] (y ∷ ys) t = absurd t
  alike_equal h (x ∷ xs) [] t = absurd t
  alike_equal h (x ∷ xs) (y ∷ ys) t =
      rw (h x y (and_l (same x y) (alike same xs ys) t), alike_equal h xs ys (and_r (same x y) (alike same xs ys) t))

  alike_self : ((x : A) → T (same x x)) → (l : List A) → T (alike same l l)
  alike_self h [] = tt
  alike_self h (x ∷ xs) = and_i (same x x) (alike same xs xs) (h x) (alike_self h xs)

option_equal : (x y : Option ℕ) → T (same_option x y) → x ≡ y
option_equal none none t = refl
option_equal none (some y) t = absurd t
option_equal (some x) none t = absurd t
option_equal (some x) (some y) t = ap some (eqb→eq x y t)

option_self : (x : Option ℕ) → T (same_option x x)
option_self none = tt
option_self (some x) = eqb_refl x

pending_equal : (x y : PendingJob) → T (same_pending x y) → x ≡ y
pending_equal x y t =
    let left : x.left ≡ y.left = eqb→eq x.left y.left (search (and_l)) in
    let behind : x.behind ≡ y.behind = option_equal x.behind y.behind (search (and_l, and_r)) in
    λ i. record { left = left i; behind = behind i }

pending_self : (x : PendingJob) → T (same_pending x x)
pending_self x = search (and_i, eqb_refl, option_self)

node_equal : (x y : NodeState) → T (same_node x y) → x ≡ y
node_equal x y t =
    let unfinished : x.unfinished ≡ y.unfinished = eqb→eq x.unfinished y.unfinished (search (and_l)) in
    let unlinked : x.unlinked ≡ y.unlinked = eqb→eq x.unlinked y.unlinked (search (and_l, and_r)) in
    let pending : x.pending ≡ y.pending = alike_equal same_pending pending_equal x.pending y.pending (search (and_l, and_r)) in
    λ i. record { unfinished = unfinished i; unlinked = unlinked i; pending = pending i }

node_self : (x : NodeState) → T (same_node x x)
node_self x = search (and_i, eqb_refl, alike_self same_pending pending_self)

state_equal : (x y : State) → T (same_state x y) → x ≡ y
state_equal x y t =
    let phases : x.phases ≡ y.phases = alike_equal eqb eqb→eq x.phases y.phases (search (and_l)) in
    let nodes : x.nodes ≡ y.nodes = alike_equal same_node node_equal x.nodes y.nodes (search (and_l, and_r)) in
    λ i. record { phases = phases i; nodes = nodes i }

state_self : (x : State) → T (same_state x x)
state_self x = search (and_i, alike_self eqb eqb_refl, alike_self same_node node_self)

pub same_state_lem : (x y : State) → (same_state x y ≡ true) ↔ (x ≡ y)
same_state_lem x y = (λ e. state_equal x y (true_T (same_state x y) e), λ e. T_true (subst (λ (z : State). T (same_state x z)) e (state_self x)))
