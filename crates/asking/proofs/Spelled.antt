-- The lengths that were told are the numbers that the arguments spell: as many as there are, in their order; and more than a call may have
-- where there are more.
use mathlib.Core.Path.{◌≡◌, refl, sym, ap, ◌∙◌}
use mathlib.Core.List.{List, [], ◌∷◌, ◌++◌, map, append-nil}
use Prim.Native.Nat.{ℕ, suc, ◌+◌, ◌-◌, ◌≤◌, ◌<◌}
use native.Mathlib.Omega.{arith}
use lib.ListN.{length, take, set, replicate, length-append, length-map}
use lib.Seq.{take_at, set_at, append_snoc}
use borrow.Author.Tests.{le-leb, lt-leb, lt-ltb}
use Rattle.schedule.specs.Limits as Limits
use Rattle.schedule.proofs.Tests.{by_lt}
use Rattle.std.specs.Prelude.{Result, Ok, Err}
use Rattle.asking.specs.declared.faults.Fault.{Fault}
use Rattle.asking.specs.declared.faults.Fault.TheVariants.{Misspelled, Unread}
use Rattle.asking.specs.declared.lengths.Lengths.{Lengths}
use Rattle.asking.specs.Instants.{instant_of}
use Rattle.asking.specs.Lengths.{number_in, no_lengths, count_on, lengths_on, lengths_by}

abbrev most : ℕ
most = (Limits.tables).to

-- zeros up to the most tables
abbrev filled : List ℕ → List ℕ
filled p = p ++ replicate (most - length p) 0

module _ (p : List ℕ) (h : length p < most) where
  next_free : filled p ≡ p ++ (0 ∷ replicate (most - (length p + 1)) 0)
  next_free = let e : most - length p ≡ suc (most - (length p + 1)) = omega arith in rw e

  filled_on : (v : ℕ) → p ++ (v ∷ replicate (most - (length p + 1)) 0) ≡ filled (p ++ (v ∷ []))
  filled_on v = rw (length-append p (v ∷ [])) (sym (append_snoc p v (replicate (most - (length p + 1)) 0)))

  set_on : (v : ℕ) → set (filled p) (length p) v ≡ filled (p ++ (v ∷ []))
  set_on v = ap (λ (xs : List ℕ). set xs (length p) v) next_free ∙ set_at p 0 (replicate (most - (length p + 1)) 0) v (length p) refl ∙ filled_on v

-- the first lengths are those, and zeros follow
record Holds (s : Lengths) (p : List ℕ) : Type 0 where
  count : s.count ≡ length p
  list : s.list ≡ filled p

count_on_lem : (s : Lengths) (i : Result ℕ Fault) → (lengths_on s i).count ≡ count_on s.count
count_on_lem s (Ok v) = refl
count_on_lem s (Err Misspelled) = refl
count_on_lem s (Err Unread) = refl

module _ (s : Lengths) (p : List ℕ) (h : length p < most) (holds : Holds s p) where
  counted_on : (i : Result ℕ Fault) → (lengths_on s i).count ≡ length (p ++ (number_in i ∷ []))
  counted_on i =
      count_on_lem s i ∙ rw (holds.count, le-leb (length p) most (omega arith), length-append p (number_in i ∷ []))

  listed_on : (i : Result ℕ Fault) → (lengths_on s i).list ≡ filled (p ++ (number_in i ∷ []))
  listed_on (Ok v) = rw (holds.count, holds.list, lt-ltb (length p) most h) (set_on p h v)
  listed_on (Err Misspelled) = holds.list ∙ next_free p h ∙ filled_on p h 0
  listed_on (Err Unread) = holds.list ∙ next_free p h ∙ filled_on p h 0

  on : (i : Result ℕ Fault) → Holds (lengths_on s i) (p ++ (number_in i ∷ []))
  on i = record { count = counted_on i; list = listed_on i }

all_held : (is : List (Result ℕ Fault)) (s : Lengths) (p : List ℕ) → length p + length is ≤ most → Holds s p → Holds (lengths_by s is) (p ++ map number_in is)
all_held [] s p h holds = rw (append-nil p) holds
all_held (i ∷ is) s p h holds =
    let e : (p ++ (number_in i ∷ [])) ++ map number_in is ≡ p ++ (number_in i ∷ map number_in is) = append_snoc p (number_in i) (map number_in is) in
    rw e at (all_held is (lengths_on s i) (p ++ (number_in i ∷ [])) (omega (arith, length-append p (number_in i ∷ []))) (on s p (omega arith) holds i))

module _ (ts : List (List ℕ)) where
  abbrev told : Lengths
  told = lengths_by no_lengths (map instant_of ts)

  abbrev pub numbers : List ℕ
  numbers = map number_in (map instant_of ts)

  pub lengths_are : length ts ≤ most → (told.count ≡ length ts) × (take told.count told.list ≡ numbers)
  lengths_are h =
      let n : length (map instant_of ts) ≡ length ts = length-map ts instant_of in
      let holds : Holds told numbers = all_held (map instant_of ts) no_lengths [] (omega (arith, n)) (record { count = refl; list = refl }) in (
        holds.count ∙ length-map (map instant_of ts) number_in ∙ n,
        ap (λ (xs : List ℕ). take told.count xs) holds.list ∙ take_at numbers _ told.count (sym holds.count),
      )

-- more than the most are told as one more
many : (is : List (Result ℕ Fault)) (s : Lengths) → s.count ≤ most + 1 → most < s.count + length is → (lengths_by s is).count ≡ most + 1
many [] s h m = omega arith
many (i ∷ is) s h m =
    many is (lengths_on s i) (by_lt most s.count (λ l. rw (count_on_lem s i, lt-leb s.count most l) h) (λ l. rw (count_on_lem s i, le-leb s.count most l) (omega arith)))
    (by_lt most s.count (λ l. rw (count_on_lem s i, lt-leb s.count most l) (omega arith)) (λ l. rw (count_on_lem s i, le-leb s.count most l) (omega arith)))

pub too_many_told : (ts : List (List ℕ)) → most < length ts → (lengths_by no_lengths (map instant_of ts)).count ≡ most + 1
too_many_told ts h = many (map instant_of ts) no_lengths (omega arith) (omega (arith, length-map ts instant_of))
