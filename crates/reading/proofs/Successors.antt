-- The mask that is left over is 0 exactly where every node but the last stands in some list.
use mathlib.Core.Path.{◌≡◌, sym, ◌∙◌, ap}
use mathlib.Core.Bool.{Bool, true, ◌&&◌, ◌||◌, or-false, or_assoc, and-true, and_assoc}
use mathlib.Core.List.{List, [], ◌∷◌}
use Prim.Native.Nat.{ℕ, zero, suc, ◌+◌, ◌-◌, ◌<◌, ◌≤◌}
use native.Mathlib.Omega.{arith}
use lib.Bits.{bit_or}
use lib.Dec.{eqb}
use lib.ListN.{length}
use Rattle.schedule.specs.Limits as Limits
use Rattle.schedule.specs.Lists.{any?, all?, numbers, up_to}
use Rattle.schedule.specs.Table.{Node}
use Rattle.schedule.specs.WellFormed.{followed, all_followed, nodes_formed}
use Rattle.theorems.proofs.Formed.{node_formed}
use Rattle.numbers.specs.Masks.{width, bit, unset_below}
use Rattle.numbers.proofs.MaskLaws.{no_bit, bit_or_lem, unset_none, unset_more}
use Rattle.scanning.specs.Masks.{mask_of}
use Rattle.reading.specs.Outcomes.{named_from}
use Rattle.scanning.proofs.MaskBits.{orderly_fits, mask_bit}

-- the masks of a graph's nodes together have a one at each number that stands in a list
named_bit : (xs : List Node) (own m j : ℕ) → own + length xs ≤ suc (suc width) → nodes_formed own xs ≡ true
    → bit (named_from m xs) j ≡ bit m j || followed xs (suc j)
unfolding named_from followed
named_bit [] own m j h e = sym (or-false (bit m j))
named_bit (x ∷ xs) own m j h e =
    let f = node_formed own x xs e in
    let rest = any? (λ (y : Node). any? (eqb (suc j)) y.after) xs in
    named_bit xs (suc own) (bit_or m (mask_of x.after)) j (omega arith) f.others
    ∙ ap (λ (b : Bool). b || rest) (bit_or_lem m (mask_of x.after) j ∙ ap (λ (b : Bool). bit m j || b) (mask_bit x.after j (orderly_fits own x.after (omega arith) f.order)))
    ∙ or_assoc (bit m j) (any? (eqb (suc j)) x.after) rest

all_last : (p : ℕ → Bool) (a n : ℕ) → all? p (numbers a (suc n)) ≡ all? p (numbers a n) && p (a + n)
all_last p a zero = let e : a + 0 ≡ a = omega arith in rw e (and-true (p a))
all_last p a (suc n) =
    let e : a + suc n ≡ suc a + n = omega arith in
    rw e (ap (λ (b : Bool). p a && b) (all_last p (suc a) n) ∙ sym (and_assoc (p a) (all? p (numbers (suc a) n)) (p (suc a + n))))

pub unset_all : (p : ℕ → Bool) (k u : ℕ) → ((j : ℕ) → j < k → bit u j ≡ p (suc j)) → eqb (unset_below k u) 0 ≡ all? p (up_to k)
unset_all p zero u h = unset_none u
unset_all p (suc k) u h =
    let e : suc k ≡ 1 + k = omega arith in
    unset_more k u ∙ ap (λ (b : Bool). b && bit u k) (unset_all p k u (λ j l. h j (omega arith))) ∙ ap (λ (b : Bool). all? p (up_to k) && b) (h k (omega arith) ∙ ap p e) ∙ sym (all_last p 1 k)

pub successors : (xs : List Node) → length xs ≤ (Limits.nodes).to → nodes_formed 1 xs ≡ true
    → eqb (unset_below (length xs - 1) (named_from 0 xs)) 0 ≡ all_followed xs
unfolding all_followed
successors xs h e =
    unset_all (followed xs) (length xs - 1) (named_from 0 xs)
    (λ j l. named_bit xs 1 0 j (omega arith) e ∙ ap (λ (b : Bool). b || followed xs (suc j)) (no_bit j))
