-- Lines with their numbers: what the line reader answers, in the rules' terms.
use Rattle.std.specs.Prelude.{cond, List, ◌≡◌, ℕ, eqb, drop, Result, Ok, Err}
use Rattle.format.specs.declared.Refusal.{Refusal}
use Rattle.format.specs.declared.Refusal.TheVariants.{Misspelled, OutsideLimits, AgainstPredecessorRules}
use Rattle.format.specs.Keys as Keys
use Rattle.format.specs.Reading.{Place, column_at, Outcome, refused, done, ◌and_then◌, number_line, after_line}
use Rattle.scanning.specs.Masks.{mask_of}
use Rattle.lines.specs.declared.judging.Fault.{Fault}
use Rattle.lines.specs.declared.numbering.Place.{Place as Spot}
use Rattle.lines.specs.declared.reader.Lines.{Lines}
use Rattle.lines.specs.declared.numbering.Three.{Three}

-- where a place and a reader stand
abbrev pub place_of : List ℕ → Spot → Place
place_of s p = record { line = p.line; bytes = drop p.at s }

abbrev pub stands : Lines → Place
stands l = place_of l.text.now l.place

-- the refusal of a value that is not fair, by its key, line and column
abbrev pub unfair_at : ℕ → ℕ → ℕ → Refusal
unfair_at k = cond (eqb k Keys.after) (λ l c. AgainstPredecessorRules l c) (λ l c. OutsideLimits l c)

-- the column of position q of the bytes s, in the line that begins at p
abbrev pub column_in : List ℕ → Spot → ℕ → ℕ
column_in s p q = column_at (drop p.at s) (drop q s)

-- the refusal of the line at a place, of key k
abbrev pub refusal_of : List ℕ → Spot → ℕ → Fault → Refusal
refusal_of s p k (Fault.Misspelled q) = Misspelled p.line (column_in s p q)
refusal_of s p k (Fault.Unfair q) = unfair_at k p.line (column_in s p q)

module _ {A B : Type 0} where
  abbrev pub map_outcome : (A → B) → Outcome A → Outcome B
  map_outcome f (refused r) = refused r
  map_outcome f (done a p) = done (f a) p

module _ {A : Type 0} where
  -- what reading came to, at the place where it ended
  abbrev pub came_to : Place → Result A Refusal → Outcome A
  came_to p (Ok a) = done a p
  came_to p (Err r) = refused r

  -- the same of an answer that tells the place
  abbrev pub came_at : List ℕ → Result (A × Spot) Refusal → Outcome A
  came_at s (Ok r) = done r.0 (place_of s r.1)
  came_at s (Err r) = refused r

  -- a reader that came to this outcome has gone on in its text
  pub record Reads (old new : Lines) (result : Result A Refusal) (outcome : Outcome A) : Type 0 where
    pub came : came_to (stands new) result ≡ outcome
    pub text : new.text ≡ old.text

-- the line of key k, whose value code holds as a number or a mask
abbrev pub coded_line : ℕ → ℕ → Place → Outcome ℕ
coded_line k own p = cond (eqb k Keys.after) (map_outcome mask_of (after_line own p)) (number_line k p)

-- three lines, of keys k, l and m
unfoldable pub three_lines : ℕ → ℕ → ℕ → ℕ → Place → Outcome Three
three_lines k l m own p =
    coded_line k own p and_then λ a p.
    coded_line l own p and_then λ b p.
    coded_line m own p and_then λ c p.
    done (record { first = a; second = b; third = c }) p
