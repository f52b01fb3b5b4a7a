-- A list of predecessors, read one number after the other: what code knows of it at each comma, and at its end.
use mathlib.Core.Path.{◌≡◌, refl, sym, ◌∙◌, ap, subst}
use mathlib.Core.Bool.{Bool, true, false, ◌&&◌, ◌||◌, cond, and-false}
use mathlib.Core.List.{List, [], ◌∷◌, tail}
use Prim.Native.Nat.{ℕ, zero, suc, ◌+◌, ◌-◌, ◌*◌, ◌<◌, ◌≤◌}
use native.Mathlib.Nat.{not-suc-le-zero}
use native.Mathlib.Omega.{arith}
use lib.Dec.{leb, ltb, eqb}
use lib.ListN.{length}
use borrow.Author.Tests.{le-ltb, leb-true, leb-false, ltb-true, eq-eqb, ne_eqb}
use Rattle.format.specs.Bytes.{bytes, comma, digit_zero, is_digit, value_of}
use Rattle.format.specs.Spelling.{Scan, read, wrong, ◌⟫◌, text, digits, number, numbers_by, numbers, next?, letter_n, list}
use Rattle.schedule.specs.Lists.{any?, all?}
use Rattle.schedule.specs.WellFormed.{rising, orderly}
use Rattle.theorems.proofs.Formed.{first_of_lem, second_of}
use Rattle.schedule.proofs.Tests.{by_test}
use Rattle.numbers.specs.Masks.{width, bit, with, ones}
use Rattle.numbers.proofs.Counts.{ones_without}
use Rattle.table.specs.declared.Range.{Range}
use Rattle.scanning.specs.declared.lists.Listing.{Listing}
use Rattle.scanning.specs.Positions.{map_scan, far, kept, capped}
use Rattle.table.specs.Limits.{in_range}
use Rattle.scanning.specs.Masks.{mask_from, mask_of, fair_list, entered, entries, no_entries, listing, in_order}
use Rattle.scanning.proofs.Images.{image_read, image_wrong}
use Rattle.scanning.proofs.MaskBits.{Fits, mask_bit}

module _ {A : Type 0} where
  -- a value takes up at least d of the bytes b
  abbrev pub Takes : ℕ → List ℕ → Scan A → Type 0
  Takes d b (read a rest) = length rest + d ≤ length b
  Takes d b (wrong rest) = Unit {0}

digits_take : (v : ℕ) (b : List ℕ) → Takes 0 b (digits v b)
unfolding digits
digits_take v [] = omega arith
digits_take v (c ∷ rest) =
    by_test (is_digit c)
    (λ e. rw e (longer (digits (v * 10 + value_of c) rest) (digits_take (v * 10 + value_of c) rest)))
    (λ e. rw e (omega arith))
  where
    longer : (x : Scan ℕ) → Takes 0 rest x → Takes 0 (c ∷ rest) x
    longer (read a r) h = omega arith
    longer (wrong r) h = tt

pub number_takes : (b : List ℕ) → Takes 1 b (number b)
unfolding number
number_takes [] = tt
number_takes (c ∷ rest) =
    by_test (is_digit c)
    (λ e. by_test (eqb c digit_zero) (λ z. rw (e, z) (omega arith)) (λ z. rw (e, z) (longer (digits (value_of c) rest) (digits_take (value_of c) rest))))
    (λ e. rw e tt)
  where
    longer : (x : Scan ℕ) → Takes 0 rest x → Takes 1 (c ∷ rest) x
    longer (read a r) h = omega arith
    longer (wrong r) h = tt

-- what follows a number, where `more` reads on behind a comma
abbrev then : (List ℕ → Scan (List ℕ)) → ℕ → List ℕ → Scan (List ℕ)
then more v rest = cond (next? comma rest) (more (tail rest) ⟫ (λ vs end. read (v ∷ vs) end)) (read (v ∷ []) rest)

-- only what `more` gives on shorter lists counts
then_same : (f g : List ℕ → Scan (List ℕ)) (b : List ℕ) → ((r : List ℕ) → suc (length r) < length b → f r ≡ g r)
    → (x : Scan ℕ) → Takes 1 b x → x ⟫ then f ≡ x ⟫ then g
then_same f g b h (wrong r) t = refl
then_same f g b h (read v []) t = refl
then_same f g b h (read v (c ∷ r)) t =
    ap (λ (y : Scan (List ℕ)). cond (eqb c comma) (y ⟫ (λ vs end. read (v ∷ vs) end)) (read (v ∷ []) (c ∷ r))) (h r (omega arith))

-- so any bound on how many numbers there are does, if it is above the number of bytes
enough : (n m : ℕ) (b : List ℕ) → length b < n → length b < m → numbers_by n b ≡ numbers_by m b
unfolding numbers_by
enough zero m b h k = absurd (not-suc-le-zero h)
enough (suc n) zero b h k = absurd (not-suc-le-zero k)
enough (suc n) (suc m) b h k =
    then_same (numbers_by n) (numbers_by m) b (λ r l. enough n m r (omega arith) (omega arith)) (number b) (number_takes b)

numbers_step : (b : List ℕ) → numbers b ≡ number b ⟫ then numbers
unfolding numbers numbers_by
numbers_step b =
    then_same (numbers_by (length b)) numbers b (λ r l. enough (length b) (suc (length r)) r (omega arith) (omega arith)) (number b) (number_takes b)

-- four tests, the second and the third swapped
swapped : (a b c d : Bool) → (a && b) && (c && d) ≡ (a && c) && (b && d)
swapped a b c d = by_test a (λ e. rw e (by_test b (λ f. rw f (by_test c (λ g. rw g) (λ g. rw g))) (λ f. rw f (sym (and-false c))))) (λ e. rw e)

-- a number past every limit breaks the rules as the number kept at far does
entered_kept : (r : Range) (own : ℕ) (l : Listing) (v : ℕ) → own ≤ far → entered r own l (kept v) ≡ entered r own l v
entered_kept r own l v h = by_test (leb v far) near away
  where
    near : leb v far ≡ true → entered r own l (kept v) ≡ entered r own l v
    near e = let f = leb-true v far e in let g : kept v ≡ v = omega arith in rw g

    out : (x : ℕ) → own ≤ x → entered r own l x ≡ record { mask = l.mask; last = l.last; orderly = false }
    out x i = rw (le-ltb x own i, and-false (ltb l.last x), and-false (in_range r x), and-false l.orderly)

    away : leb v far ≡ false → entered r own l (kept v) ≡ entered r own l v
    away e = let f = leb-false v far e in out (kept v) (omega arith) ∙ sym (out v (omega arith))

module _ (r : Range) (own : ℕ) (l : Listing) where
  entries_first : (v : ℕ) (x : Scan (List ℕ)) → map_scan (entries r own l) (x ⟫ (λ vs end. read (v ∷ vs) end)) ≡ map_scan (entries r own (entered r own l v)) x
  unfolding entries
  entries_first v (read vs end) = refl
  entries_first v (wrong end) = refl

  -- the numbers from b on, by the number that code reads there
  module _ (b : List ℕ) where
    pub entries_wrong : (rest : List ℕ) → wrong rest ≡ capped (number b) → wrong rest ≡ map_scan (entries r own l) (numbers b)
    entries_wrong rest e = rw (numbers_step b, image_wrong kept (number b) rest e)

    module _ (h : own ≤ far) (v : ℕ) (rest : List ℕ) (e : read v rest ≡ capped (number b)) where
      pub entries_more : next? comma rest ≡ true → map_scan (entries r own l) (numbers b) ≡ map_scan (entries r own (entered r own l v)) (numbers (tail rest))
      entries_more k =
          let (w, p, q) = image_read kept (number b) v rest e in
          rw (numbers_step b, p, k)
          (entries_first w (numbers (tail rest))
          ∙ ap (λ (z : Listing). map_scan (entries r own z) (numbers (tail rest))) (sym (entered_kept r own l w h) ∙ ap (entered r own l) (sym q)))

      pub entries_last : next? comma rest ≡ false → map_scan (entries r own l) (numbers b) ≡ read (entered r own l v) rest
      unfolding entries
      entries_last k =
          let (w, p, q) = image_read kept (number b) v rest e in
          rw (numbers_step b, p, k) (ap (λ (z : Listing). read z rest) (sym (entered_kept r own l w h) ∙ ap (entered r own l) (sym q)))

      -- and it has taken a byte
      pub number_took : length rest + 1 ≤ length b
      number_took = subst (Takes 1 b) (image_read kept (number b) v rest e).1 (number_takes b)

module _ (r : Range) (own : ℕ) where
  -- x keeps the rules behind `last`
  abbrev fair : ℕ → ℕ → Bool
  fair last x = in_range r x && (ltb last x && ltb x own)

  entries_lost : (xs : List ℕ) (l : Listing) → l.orderly ≡ false → (entries r own l xs).orderly ≡ false
  unfolding entries
  entries_lost [] l e = e
  entries_lost (x ∷ xs) l e = entries_lost xs (entered r own l x) (rw e)

  -- where the rules are kept so far, what is known after x that keeps them too
  abbrev after : Listing → ℕ → Listing
  after l x = record { mask = with l.mask (x - 1); last = x; orderly = true }

  kept_on : (l : Listing) (x : ℕ) → l.orderly ≡ true → fair l.last x ≡ true → entered r own l x ≡ after l x
  kept_on l x e t = rw (e, t)

  -- the list is in order exactly where it rises, within the limits
  abbrev both : ℕ → List ℕ → Bool
  both last xs = all? (in_range r) xs && rising own last xs

  both_step : (last x : ℕ) (xs : List ℕ) → fair last x && both x xs ≡ both last (x ∷ xs)
  unfolding rising
  both_step last x xs = swapped (in_range r x) (ltb last x && ltb x own) (all? (in_range r) xs) (rising own x xs)

  entries_orderly : (xs : List ℕ) (l : Listing) → l.orderly ≡ true → (entries r own l xs).orderly ≡ both l.last xs
  unfolding entries rising
  entries_orderly [] l e = e
  entries_orderly (x ∷ xs) l e =
      by_test (fair l.last x)
      (λ t. step t (entries_orderly xs (after l x) refl) ∙ both_step l.last x xs)
      (λ t. rw (e, t) (entries_lost xs (record { mask = l.mask; last = l.last; orderly = false }) refl) ∙ ap (λ (b : Bool). b && both x xs) (sym t) ∙ both_step l.last x xs)
    where
      step : fair l.last x ≡ true → (entries r own (after l x) xs).orderly ≡ both x xs
          → (entries r own (entered r own l x) xs).orderly ≡ fair l.last x && both x xs
      step t h = rw (e, t) h

  -- and then it has its mask
  entries_mask : (xs : List ℕ) (l : Listing) → l.orderly ≡ true → both l.last xs ≡ true → (entries r own l xs).mask ≡ mask_from l.mask xs
  unfolding entries mask_from
  entries_mask [] l e t = refl
  entries_mask (x ∷ xs) l e t =
      let h = both_step l.last x xs ∙ t in
      ap (λ (z : Listing). (entries r own z xs).mask) (kept_on l x e (first_of_lem (fair l.last x) (both x xs) h))
      ∙ entries_mask xs (after l x) refl (second_of (fair l.last x) (both x xs) h)

  module _ (b : List ℕ) where
    -- at an n: `none`
    pub none_wrong : (rest : List ℕ) → next? letter_n b ≡ true → wrong rest ≡ text (bytes "none") b → wrong rest ≡ map_scan (listing r own) (list b)
    unfolding list
    none_wrong rest n e = rw (n, ← e)

    pub none_read : (rest : List ℕ) → next? letter_n b ≡ true → read tt rest ≡ text (bytes "none") b → read no_entries rest ≡ map_scan (listing r own) (list b)
    unfolding list entries
    none_read rest n e = rw (n, ← e)

    -- and else numbers
    pub some_listed : next? letter_n b ≡ false → map_scan (entries r own no_entries) (numbers b) ≡ map_scan (listing r own) (list b)
    unfolding list
    some_listed n = rw n

-- a list has its mask where it keeps the rules
pub listing_mask : (r : Range) (own : ℕ) (xs : List ℕ) → fair_list r own xs ≡ true → (listing r own xs).mask ≡ mask_of xs
unfolding orderly mask_from entries
listing_mask r own [] e = refl
listing_mask r own (x ∷ xs) e = entries_mask r own (x ∷ xs) no_entries refl e

-- the ones of the mask tell whether there is a predecessor
fair_fits : (r : Range) (own last : ℕ) (l : List ℕ) → r.to ≤ width → both r own last l ≡ true → Fits l
fair_fits r own last [] h e = tt
fair_fits r own last (x ∷ xs) h e =
    let f = sym (sym (both_step r own last x xs)) ∙ e in
    let here = first_of_lem (fair r own last x) (both r own x xs) f in
    let inside = leb-true x r.to (second_of (leb r.from x) (leb x r.to) (first_of_lem (in_range r x) (ltb last x && ltb x own) here)) in
    let above = ltb-true last x (first_of_lem (ltb last x) (ltb x own) (second_of (in_range r x) (ltb last x && ltb x own) here)) in
    (omega arith, omega arith, fair_fits r own x xs h (second_of (fair r own last x) (both r own x xs) f))

no_ones : eqb (ones 0) 0 ≡ true
unfolding ones
no_ones = refl

some_ones : (x : ℕ) (xs : List ℕ) → Fits (x ∷ xs) → eqb (ones (mask_of (x ∷ xs))) 0 ≡ false
some_ones x xs f =
    let e : suc (x - 1) ≡ x = omega (arith, f.0) in
    let set : bit (mask_of (x ∷ xs)) (x - 1) ≡ true = mask_bit (x ∷ xs) (x - 1) f ∙ ap (λ (z : ℕ). any? (eqb z) (x ∷ xs)) e ∙ ap (λ (b : Bool). b || any? (eqb x) xs) (eq-eqb x x refl) in
    let o = ones_without (mask_of (x ∷ xs)) (x - 1) set (omega (arith, f.1)) in
    ne_eqb (ones (mask_of (x ∷ xs))) 0 (λ z. omega arith)

pub in_order_lem : (r : Range) (own : ℕ) (xs : List ℕ) → r.to ≤ width → in_order own (listing r own xs) ≡ fair_list r own xs
unfolding entries orderly
in_order_lem r own [] h = rw no_ones
in_order_lem r own (x ∷ xs) h =
    by_test (both r own 0 (x ∷ xs))
    (λ t. ap (λ (m : ℕ). cond (eqb (ones m) 0) (L.orderly && eqb own 1) L.orderly) (listing_mask r own (x ∷ xs) t)
    ∙ ap (λ (b : Bool). cond b (L.orderly && eqb own 1) L.orderly) (some_ones x xs (fair_fits r own 0 (x ∷ xs) h t)) ∙ known)
    (λ t. lost (eqb (ones L.mask) 0) (known ∙ t) ∙ sym t)
  where
    L : Listing
    L = listing r own (x ∷ xs)

    known : L.orderly ≡ both r own 0 (x ∷ xs)
    known = entries_orderly r own (x ∷ xs) no_entries refl

    lost : (b : Bool) → L.orderly ≡ false → cond b (L.orderly && eqb own 1) L.orderly ≡ false
    lost b e = by_test b (λ t. rw (t, e)) (λ t. rw (t, e))
