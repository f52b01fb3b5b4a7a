-- Releasing: the earliest instant; a server that has no room for one job more; the counts of one that releases; the predecessors of a mask.
use mathlib.Core.Path.{◌≡◌, sym, ap, ◌∙◌}
use mathlib.Core.Bool.{Bool, true, false, ◌&&◌, ◌||◌, not, or-true}
use mathlib.Core.List.{List}
use Prim.Native.Nat.{ℕ, ◌+◌, ◌^◌, ◌≤◌, ◌<◌, min}
use native.Mathlib.Numerals.{add-one}
use lib.Dec.{ltb, eqb}
use lib.ListN.{get_or, length, take}
use borrow.Author.Tests.{lt-ltb, le-ltb, eqb-true}
use Rattle.numbers.specs.Masks.{width, bit, without, lowest}
use Rattle.numbers.proofs.Cases.{by_test}
use Rattle.numbers.proofs.MaskLaws.{no_bit, bit_without, lowest_set, lowest_below}
use Rattle.window.specs.Entries.{places}
use Rattle.window.specs.Releasing.{earliest, all_fewer}
use Rattle.window.proofs.LoopLaws.{first_item, all_missed, all_true, all_same}

-- one instant more
pub earliest_more : (next : List ℕ) (n i : ℕ) {least u : ℕ} → i < length (take n next) → least ≡ earliest next i → u ≡ min least (get_or (take n next) i 0)
    → u ≡ earliest next (i + 1)
unfolding earliest
earliest_more next n i h e f = rw (add-one i, ← e, ← first_item n next i 0 h) f

-- the predecessors of a mask
module _ (unfinished : List ℕ) (unlinked : ℕ) where
  abbrev fewer_at : ℕ → ℕ → Bool
  fewer_at m p = not (bit m p) || ltb (get_or unfinished p 0) unlinked

  pub fewer_none : true ≡ all_fewer unfinished 0 unlinked
  fewer_none = all_true (fewer_at 0) places (λ p l. ap (λ (b : Bool). not b || ltb (get_or unfinished p 0) unlinked) (no_bit p))

  pub fewer_no : (m p : ℕ) → p < places → bit m p ≡ true → unlinked ≤ get_or unfinished p 0 → false ≡ all_fewer unfinished m unlinked
  fewer_no m p h e u =
      all_missed (fewer_at m) places p h
      (ap (λ (b : Bool). not b || ltb (get_or unfinished p 0) unlinked) e ∙ le-ltb (get_or unfinished p 0) unlinked u)

  pub fewer_yes : (m p : ℕ) → get_or unfinished p 0 < unlinked → all_fewer unfinished m unlinked ≡ all_fewer unfinished (without m p) unlinked
  fewer_yes m p h = all_same (fewer_at m) (fewer_at (without m p)) places (λ j l. by_test (eqb j p) (λ e. here j (eqb-true j p e)) (λ e. other j e))
    where
      here : (j : ℕ) → j ≡ p → fewer_at m j ≡ fewer_at (without m p) j
      here j e =
          let t : ltb (get_or unfinished j 0) unlinked ≡ true = lt-ltb (get_or unfinished j 0) unlinked (rw e h) in
          ap (λ (b : Bool). not (bit m j) || b) t ∙ or-true (not (bit m j))
          ∙ sym (ap (λ (b : Bool). not (bit (without m p) j) || b) t ∙ or-true (not (bit (without m p) j)))

      other : (j : ℕ) → eqb j p ≡ false → fewer_at m j ≡ fewer_at (without m p) j
      other j e = ap (λ (b : Bool). not b || ltb (get_or unfinished j 0) unlinked) (sym (bit_without m p j ∙ ap (λ (b : Bool). not b && bit m j) e))

-- the lowest bit of a mask that has one
module _ (m p : ℕ) (some : 0 < m) (fits : m < 2 ^ width) (e : p ≡ lowest m) where
  pub low_place : p < places
  low_place = rw e (lowest_below m some fits)

  pub low_set : bit m p ≡ true
  low_set = ap (bit m) e ∙ lowest_set m (lowest_below m some fits)
