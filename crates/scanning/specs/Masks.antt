-- A list of predecessors as a mask: bit p - 1 is set for predecessor p.
use Rattle.std.specs.Prelude.{Bool, true, false, ◌&&◌, cond, List, [], ◌∷◌, ℕ, ◌-◌, ltb, eqb}
use Rattle.schedule.specs.Limits as Limits
use Rattle.schedule.specs.Lists.{all?, keep, up_to}
use Rattle.schedule.specs.WellFormed.{orderly}
use Rattle.numbers.specs.Masks.{bit, with, ones}
use Rattle.table.specs.declared.Range.{Range}
use Rattle.table.specs.Limits.{in_range}
use Rattle.scanning.specs.declared.lists.Listing.{Listing}

-- the mask of a list, put into the mask m
unfoldable pub mask_from : ℕ → List ℕ → ℕ
mask_from m [] = m
mask_from m (x ∷ xs) = mask_from (with m (x - 1)) xs

abbrev pub mask_of : List ℕ → ℕ
mask_of l = mask_from 0 l

-- and the list of a mask, rising
abbrev pub list_of : ℕ → List ℕ
list_of m = keep (λ (p : ℕ). bit m (p - 1)) (up_to (Limits.predecessor).to)

-- a list that keeps the predecessor rules, each of its numbers within the limits of its key as code has them
abbrev pub fair_list : Range → ℕ → List ℕ → Bool
fair_list r own l = all? (in_range r) l && orderly own l

-- what code knows of a list as it reads it: one more predecessor x of node number own, and more of them
abbrev pub entered : Range → ℕ → Listing → ℕ → Listing
entered r own l x =
    cond (l.orderly && (in_range r x && (ltb l.last x && ltb x own)))
    (record { mask = with l.mask (x - 1); last = x; orderly = true })
    (record { mask = l.mask; last = l.last; orderly = false })

unfoldable pub entries : Range → ℕ → Listing → List ℕ → Listing
entries r own l [] = l
entries r own l (x ∷ xs) = entries r own (entered r own l x) xs

abbrev pub no_entries : Listing
no_entries = record { mask = 0; last = 0; orderly = true }

-- a whole list, and whether node number own may have it: node 1 has no predecessor, and no other node has none
abbrev pub listing : Range → ℕ → List ℕ → Listing
listing r own l = entries r own no_entries l

abbrev pub in_order : ℕ → Listing → Bool
in_order own l = cond (eqb (ones l.mask) 0) (l.orderly && eqb own 1) l.orderly
