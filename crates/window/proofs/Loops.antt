-- Laws of the loops: a test of some or each index below n; a list whose first entries are replaced; and a state that is changed place by
-- place, where each step touches its own place only.
use mathlib.Core.Path.{◌≡◌, refl, sym, ◌∙◌}
use mathlib.Core.Bool.{Bool}
use mathlib.Core.List.{List}
use Prim.Native.Nat.{ℕ, zero, suc, ◌≤◌, ◌<◌}
use native.Mathlib.Nat.{not-suc-le-zero}
use native.Mathlib.Omega.{arith}
use lib.Dec.{T}
use lib.ListN.{length, get_or, length-set}
use lib.Seq.{get_or-set_same, get_or-set_other}
use Rattle.std.proofs.lemmas.List.{ext_get_or}
use Rattle.schedule.proofs.Tests.{and_l, and_r, and_i, or_l, or_r, or_e, either_way, by_lt}
use Rattle.table.specs.declared.State.{State}
use Rattle.window.specs.Entries.{window, server_at, count_at, first_at, unfinished_at, unlinked_at, worst_at, next_at, left_at}
use Rattle.window.specs.Loops.{some_below, all_below, replaced, in_turn}
use Rattle.window.proofs.Relation.{Sized}

module _ (p : ℕ → Bool) where
  pub some_below_lem : (n : ℕ) → T (some_below p n) → (i : ℕ) × (i < n) × T (p i)
  unfolding some_below
  some_below_lem zero t = absurd t
  some_below_lem (suc n) t =
      either_way (or_e (some_below p n) (p n) (λ x. x) (λ x. x) t) (λ x. let (i, h, q) = some_below_lem n x in (i, omega arith, q))
      (λ x. (n, omega arith, x))

  pub below_some : (n i : ℕ) → i < n → T (p i) → T (some_below p n)
  unfolding some_below
  below_some zero i h t = absurd (not-suc-le-zero h)
  below_some (suc n) i h t =
      by_lt i n (λ l. or_l (some_below p n) (p n) (below_some n i l t))
      (λ l. let e : i ≡ n = omega arith in or_r (some_below p n) (p n) (rw e at t))

  pub each_below : (n i : ℕ) → i < n → T (all_below p n) → T (p i)
  unfolding all_below
  each_below zero i h t = absurd (not-suc-le-zero h)
  each_below (suc n) i h t =
      by_lt i n (λ l. each_below n i l (and_l (all_below p n) (p n) t))
      (λ l. let e : i ≡ n = omega arith in rw e (and_r (all_below p n) (p n) t))

  pub all_below_lem : (n : ℕ) → ((i : ℕ) → i < n → T (p i)) → T (all_below p n)
  unfolding all_below
  all_below_lem zero h = tt
  all_below_lem (suc n) h = and_i (all_below p n) (p n) (all_below_lem n (λ i l. h i (omega arith))) (h n (omega arith))

module _ {A : Type 0} (f : ℕ → A) (xs : List A) where
  pub replaced_length : (n : ℕ) → length (replaced f xs n) ≡ length xs
  unfolding replaced
  replaced_length zero = refl
  replaced_length (suc n) = length-set (replaced f xs n) n (f n) ∙ replaced_length n

  pub replaced_in : (n i : ℕ) (d : A) → i < n → n ≤ length xs → get_or (replaced f xs n) i d ≡ f i
  unfolding replaced
  replaced_in zero i d h g = absurd (not-suc-le-zero h)
  replaced_in (suc n) i d h g =
      by_lt i n (λ l. get_or-set_other (replaced f xs n) n i (f n) d (λ e. omega arith) ∙ replaced_in n i d l (omega arith))
      (λ l. let e : i ≡ n = omega arith in rw e (get_or-set_same (replaced f xs n) n (f n) d (omega (arith, replaced_length n))))

  pub replaced_past : (n i : ℕ) (d : A) → n ≤ i → get_or (replaced f xs n) i d ≡ get_or xs i d
  unfolding replaced
  replaced_past zero i d h = refl
  replaced_past (suc n) i d h = get_or-set_other (replaced f xs n) n i (f n) d (λ e. omega arith) ∙ replaced_past n i d (omega arith)

-- a list with the first n entries of another
pub first_replaced : {A : Type 0} (f : ℕ → A) (xs u : List A) (n : ℕ) (d : A) → length u ≡ length xs → n ≤ length xs → ((i : ℕ) → i < n → get_or u i d ≡ f i)
    → ((i : ℕ) → n ≤ i → get_or u i d ≡ get_or xs i d) → u ≡ replaced f xs n
first_replaced f xs u n d e h new old =
    ext_get_or d u (replaced f xs n) (e ∙ sym (replaced_length f xs n))
    (λ i l. by_lt i n (λ q. new i q ∙ sym (replaced_in f xs n i d q h)) (λ q. old i q ∙ sym (replaced_past f xs n i d q)))

-- b has at place i what a has there
pub record SameAt (i : ℕ) (a b : State) : Type 0 where
  pub server : server_at b i ≡ server_at a i
  pub count : count_at b i ≡ count_at a i
  pub first : first_at b i ≡ first_at a i
  pub unfinished : unfinished_at b i ≡ unfinished_at a i
  pub unlinked : unlinked_at b i ≡ unlinked_at a i
  pub worst : worst_at b i ≡ worst_at a i
  pub next : next_at b i ≡ next_at a i
  pub left : (d : ℕ) → d < window → left_at b i d ≡ left_at a i d

pub same_at_self : (i : ℕ) (a : State) → SameAt i a a
same_at_self i a =
    record {
      server = refl;
      count = refl;
      first = refl;
      unfinished = refl;
      unlinked = refl;
      worst = refl;
      next = refl;
      left = λ d h. refl;
    }

same_at_then : {i : ℕ} {a b c : State} → SameAt i a b → SameAt i b c → SameAt i a c
same_at_then r s =
    record {
      server = s.server ∙ r.server;
      count = s.count ∙ r.count;
      first = s.first ∙ r.first;
      unfinished = s.unfinished ∙ r.unfinished;
      unlinked = s.unlinked ∙ r.unlinked;
      worst = s.worst ∙ r.worst;
      next = s.next ∙ r.next;
      left = λ d h. s.left d h ∙ r.left d h;
    }

-- step n changes place n alone, for each of m places, and leaves a state that has its lengths
pub record PlaceByPlace (f : State → ℕ → State) (m : ℕ) : Type 0 where
  pub sized : (st : State) (n : ℕ) → n < m → Sized st → Sized (f st n)
  pub others : (st : State) (n i : ℕ) → n < m → (i ≡ n → ⊥) → SameAt i st (f st n)

-- place i of `after` is what step i made of it, in a state that still had there what `st` has
pub record Stepped (f : State → ℕ → State) (i : ℕ) (st after : State) : Type 0 where
  pub before : State
  pub sized : Sized before
  pub same : SameAt i st before
  pub step : SameAt i (f before i) after

module _ (f : State → ℕ → State) (m : ℕ) (each : PlaceByPlace f m) (st : State) (ok : Sized st) where
  pub in_turn_sized : (n : ℕ) → n ≤ m → Sized (in_turn f st n)
  unfolding in_turn
  in_turn_sized zero h = ok
  in_turn_sized (suc n) h = each.sized (in_turn f st n) n h (in_turn_sized n (omega arith))

  in_turn_later : (n i : ℕ) → n ≤ m → n ≤ i → SameAt i st (in_turn f st n)
  unfolding in_turn
  in_turn_later zero i h g = same_at_self i st
  in_turn_later (suc n) i h g = same_at_then (in_turn_later n i (omega arith) (omega arith)) (each.others (in_turn f st n) n i h (λ e. omega arith))

  pub in_turn_at : (n i : ℕ) → n ≤ m → i < n → Stepped f i st (in_turn f st n)
  unfolding in_turn
  in_turn_at zero i h g = absurd (not-suc-le-zero g)
  in_turn_at (suc n) i h g =
      by_lt i n
      (λ l.
      let s = in_turn_at n i (omega arith) l in
      record {
        before = s.before;
        sized = s.sized;
        same = s.same;
        step = same_at_then s.step (each.others (in_turn f st n) n i h (λ e. omega arith));
      })
      (λ l.
      let e : n ≡ i = omega arith in
      rw e
      (record {
        before = in_turn f st i;
        sized = in_turn_sized i (omega arith);
        same = in_turn_later i i (omega arith) (omega arith);
        step = same_at_self i (f (in_turn f st i) i);
      }))
