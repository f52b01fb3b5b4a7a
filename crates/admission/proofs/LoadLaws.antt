-- The steps of the least common multiple, and the room that a load leaves, graph after graph and node after node.
use Rattle.std.proofs.Common.{◌≡◌, refl, true, false, ℕ, suc, ◌+◌, ◌-◌, ◌<◌, ◌≤◌, leb, [], ◌∷◌, Some, None, arith, add-one}
use borrow.Author.Tests.{le-leb, lt-leb, leb-true, leb-false}
use Rattle.schedule.specs.Lists.{sum, tab}
use Rattle.schedule.specs.Table.{Graph, lcm}
use Rattle.schedule.proofs.Tests.{by_test}
use Rattle.numbers.specs.Multiples.{multiple_within}
use Rattle.admission.specs.Loads.{hyperperiod_within, room_after}

-- the n - k entries from i on: the next and the others; and where there are none
module _ {B : Type 0} (f : ℕ → B) (i n k : ℕ) where
  pub tab_next : k < n → tab f i (n - k) ≡ f i ∷ tab f (i + 1) (n - (k + 1))
  tab_next h = let e : n - k ≡ suc (n - (k + 1)) = omega arith in rw (e, add-one i)

  pub tab_done : n ≤ k → tab f i (n - k) ≡ []
  tab_done h = let e : n - k ≡ 0 = omega arith in rw e

-- what a step of the least common multiple came to: none, or a multiple
module _ (most m : ℕ) where
  past_is : None ≡ multiple_within most m → leb m most ≡ false
  past_is e = by_test (leb m most) (λ t. absurd (no (rw t at e))) (λ t. t)
    where
      no : None ≡ Some m → ⊥
      no q = cc

  within_is : (v : ℕ) → Some v ≡ multiple_within most m → (leb m most ≡ true) × (v ≡ m)
  within_is v e = by_test (leb m most) (λ t. (t, same (rw t at e))) (λ t. absurd (no (rw t at e)))
    where
      same : Some v ≡ Some m → v ≡ m
      same q = cc

      no : Some v ≡ None → ⊥
      no q = cc

-- the hyperperiod of the graphs from g on: a step, or none
module _ (most h : ℕ) (at : ℕ → Graph) (g n : ℕ) where
  pub hyperperiod_past : g < n → None ≡ multiple_within most (lcm h (at g).period) → hyperperiod_within most h (tab at g (n - g)) ≡ None
  unfolding hyperperiod_within
  hyperperiod_past l e = rw (tab_next at g n g l, past_is most (lcm h (at g).period) e) refl

  pub hyperperiod_on : g < n → (m : ℕ) → Some m ≡ multiple_within most (lcm h (at g).period)
      → hyperperiod_within most h (tab at g (n - g)) ≡ hyperperiod_within most m (tab at (g + 1) (n - (g + 1)))
  unfolding hyperperiod_within
  hyperperiod_on l m e = let (t, f) = within_is most (lcm h (at g).period) m e in rw (tab_next at g n g l, t, f) refl

  pub hyperperiod_end : n ≤ g → hyperperiod_within most h (tab at g (n - g)) ≡ Some h
  unfolding hyperperiod_within
  hyperperiod_end l = rw (tab_done at g n g l) refl

-- what is left of some room after two needs, by what the first leaves
module _ (room a b : ℕ) where
  over_more : None ≡ room_after room a → room_after room (a + b) ≡ None
  over_more e =
      by_test (leb a room)
      (λ t. absurd (no (rw t at e)))
      (λ t. let h = leb-false a room t in rw (lt-leb (a + b) room (omega arith)))
    where
      no : None ≡ Some (room - a) → ⊥
      no q = cc

  left_more : (m : ℕ) → Some m ≡ room_after room a → room_after room (a + b) ≡ room_after m b
  left_more m e = by_test (leb a room) (λ t. go (leb-true a room t) (same (rw t at e))) (λ t. absurd (no (rw t at e)))
    where
      same : Some m ≡ Some (room - a) → m ≡ room - a
      same q = cc

      no : Some m ≡ None → ⊥
      no q = cc

      go : a ≤ room → m ≡ room - a → room_after room (a + b) ≡ room_after m b
      go h f =
          by_test (leb b m)
          (λ t. let k = leb-true b m t in let d : room - (a + b) ≡ m - b = omega arith in rw (t, le-leb (a + b) room (omega arith), d))
          (λ t. let k = leb-false b m t in rw (t, lt-leb (a + b) room (omega arith)))

-- the room after the needs of n - k entries, from i on
module _ {A : Type 0} (need : A → ℕ) (room : ℕ) (at : ℕ → A) (i n k : ℕ) where
  pub room_over : k < n → None ≡ room_after room (need (at i)) → room_after room (sum need (tab at i (n - k))) ≡ None
  room_over l e = rw (tab_next at i n k l) (over_more room (need (at i)) _ e)

  pub room_on : k < n → (m : ℕ) → Some m ≡ room_after room (need (at i))
      → room_after room (sum need (tab at i (n - k))) ≡ room_after m (sum need (tab at (i + 1) (n - (k + 1))))
  room_on l m e = rw (tab_next at i n k l) (left_more room (need (at i)) _ m e)
