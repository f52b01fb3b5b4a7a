-- One head more looked at, and one server job more chosen.
use mathlib.Core.Path.{◌≡◌, refl, ◌∙◌}
use mathlib.Core.List.{List}
use Prim.Native.Nat.{ℕ, zero, suc, ◌+◌, ◌*◌, ◌-◌, ◌%◌, ◌≤◌, ◌<◌, min}
use native.Mathlib.Numerals.{add-one}
use native.Mathlib.Omega.{arith}
use lib.ListN.{get_or, set, length, take}
use borrow.Author.Tests.{lt-ltb, le-ltb, eq-eqb, ne_eqb}
use Rattle.window.specs.Entries.{window, last_key, further}
use Rattle.window.proofs.LoopLaws.{first_item}
use Rattle.window.specs.Choosing.{ready_of, head_from, best_from, Picks, place_of, picks, Picked}

module _ (heads : List ℕ) (from n i : ℕ) (h : i < length (take n heads)) where
  pub head_below : {k : ℕ} → get_or (take n heads) i 0 < from → k ≡ last_key → k ≡ head_from heads from i
  head_below l e = let q = rw (first_item n heads i 0 h) at l in rw (lt-ltb (get_or heads i 0) from q) e

  pub head_at : {k : ℕ} → from ≤ get_or (take n heads) i 0 → k ≡ get_or (take n heads) i 0 → k ≡ head_from heads from i
  head_at l e = let q = rw (first_item n heads i 0 h) at l in rw (le-ltb (get_or heads i 0) from q) (e ∙ first_item n heads i 0 h)

pub best_more : (heads : List ℕ) (from i : ℕ) {best k u : ℕ} → best ≡ best_from heads from i → k ≡ head_from heads from i → u ≡ min best k
    → u ≡ best_from heads from (i + 1)
unfolding best_from
best_more heads from i e f g = rw (add-one i, ← e, ← f) g

-- where no head is left, nothing more is chosen
module _ (first count level step : List ℕ) (n : ℕ) (run at : List ℕ) (c : Picks) (none : best_from c.heads c.from n ≡ last_key) where
  stays : (m d : ℕ) → c ≡ picks first count level step n run at m → c ≡ picks first count level step n run at (d + m)
  unfolding picks
  stays m zero e = let z : 0 + m ≡ m = omega arith in rw z e
  stays m (suc d) e =
      let s : suc d + m ≡ suc (d + m) = omega arith in
      rw (s, ← stays m d e, eq-eqb _ _ none)

  pub all_picked : (m p : ℕ) → c ≡ picks first count level step n run at m → m ≤ p → c ≡ picks first count level step n run at p
  all_picked m p e h = let s : p - m + m ≡ p = omega arith in rw s at (stays m (p - m) e)

pub picked_of : {c q : Picks} → c ≡ q → Picked q c.count c.run c.at
picked_of e = rw e (refl, (refl, refl))

module _ (first count level step : List ℕ) (n : ℕ) (run₀ at₀ : List ℕ) (m key ready : ℕ) {run at heads taken : List ℕ} {from : ℕ}
    (e : ◌≡◌ {A = Picks} (record { run = run; at = at; heads = heads; taken = taken; from = from; count = m }) (picks first count level step n run₀ at₀ m))
    (best : key ≡ best_from heads from n) (some : key ≡ last_key → ⊥)
    (r : ready ≡ ready_of (get_or count (place_of key) 0) (get_or level (place_of key) 0)) where
  abbrev d : ℕ
  d = get_or taken (place_of key) 0 % window

  -- the server has one more that is ready
  pub picked_next : d + 1 < ready → {later : ℕ} → later ≡ further key (get_or step (place_of key) 0)
      → ◌≡◌ {A = Picks} (record {
        run = set run m key;
        at = set at m (place_of key * window + d);
        heads = set heads (place_of key) later;
        taken = set taken (place_of key) (d + 1);
        from = key + 1;
        count = m + 1;
      }) (picks first count level step n run₀ at₀ (m + 1))
  unfolding picks
  picked_next h f = rw (add-one m, ← e, ← best, ne_eqb key last_key some, ← r, lt-ltb _ _ h, f, add-one m)

  -- or none
  pub picked_last : ready ≤ d + 1
      → ◌≡◌ {A = Picks} (record {
        run = set run m key;
        at = set at m (place_of key * window + d);
        heads = heads;
        taken = taken;
        from = key + 1;
        count = m + 1;
      }) (picks first count level step n run₀ at₀ (m + 1))
  unfolding picks
  picked_last h = rw (add-one m, ← e, ← best, ne_eqb key last_key some, ← r, le-ltb _ _ h, add-one m)
