-- The worked cases hold, by computation.
use mathlib.Core.Path.{◌≡◌, refl}
use mathlib.Core.List.{List, [], ◌∷◌, map}
use mathlib.Core.Option.{Option, none, some}
use Prim.Native.Nat.{ℕ, suc}
use lib.ListN.{length, replicate, take}
use Rattle.schedule.specs.Lists.{numbers, up_to}
use Rattle.format.specs.declared.Refusal.{Refusal}
use Rattle.format.specs.declared.Refusal.TheVariants.{TooLong, Misspelled, OutsideLimits}
use Rattle.format.specs.Bytes.{bytes, decimal}
use Rattle.format.specs.Keys.{key, keys}
use Rattle.format.specs.Spelling.{number}
use Rattle.format.specs.Reading.{done, read_of}
use Rattle.format.specs.Refusals.{number_of, line_of, column_of}
use Rattle.format.specs.Cases as Cases
use Rattle.format.specs.Cases.{all_lines, lines, changed, the_table, refusal_of, LineCase, NodesCase, three_nodes, ListCase, last_list, ends_at, chains, NumberCase, KeyCase, Numbered, numbered}
use Rattle.format.proofs.Computing.{reading}

abbrev given : LineCase → Option Refusal
given c = refusal_of (read_of (changed c.line (bytes c.text)))

abbrev Hold : List LineCase → Type 0
Hold cases = map given cases ≡ map (λ (c : LineCase). c.gives) cases

pub spellings_hold : Hold Cases.spellings
unfolding reading lines Cases.spellings
spellings_hold = refl

pub limits_hold : Hold Cases.limits
unfolding reading lines Cases.limits
limits_hold = refl

pub predecessors_hold : Hold Cases.predecessors
unfolding reading lines Cases.predecessors
predecessors_hold = refl

pub orders_hold : Hold Cases.orders
unfolding reading lines Cases.orders
orders_hold = refl

pub successors_hold : map (λ (c : NodesCase). refusal_of (read_of (three_nodes c.second c.third))) Cases.successors ≡ map (λ (c : NodesCase). c.gives) Cases.successors
unfolding reading Cases.successors
successors_hold = refl

-- the whole table, read to its end
pub table_holds : read_of (changed 0 []) ≡ done the_table (record { line = suc all_lines; bytes = [] })
unfolding reading lines
table_holds = refl

-- each line is needed where it stands, and its LF
pub absent_hold : map (λ (l : ℕ). refusal_of (read_of (changed l []))) (up_to all_lines) ≡ map (λ (l : ℕ). some (Misspelled l 1)) (up_to all_lines)
unfolding reading lines
absent_hold = refl

pub unended_hold : map (λ (l : ℕ). refusal_of (read_of (changed l (Cases.line_of l)))) (up_to all_lines) ≡ map (λ (l : ℕ). some (Misspelled l (suc (length (Cases.line_of l))))) (up_to all_lines)
unfolding reading lines
unended_hold = refl

-- 32 nodes are the most of all graphs: of 16, 16 and 1 the third graph's line `nodes` is past it, with line 108
pub all_nodes_hold : refusal_of (read_of (chains 16 15 1)) ∷ refusal_of (read_of (chains 16 16 1)) ∷ [] ≡ none ∷ some (OutsideLimits 108 7) ∷ []
unfolding reading
all_nodes_hold = refl

-- and a list of 15 numbers the longest
pub lists_hold : map (λ (c : ListCase). refusal_of (read_of (last_list c.text))) Cases.lists ≡ map (λ (c : ListCase). c.gives) Cases.lists
unfolding reading Cases.lists
lists_hold = refl

-- cut off anywhere, at fault is the byte behind its last; where a line is to begin, that line is absent
pub cut_off_hold : map (λ (n : ℕ). refusal_of (read_of (take n (changed 0 [])))) (numbers 0 (length (changed 0 [])))
    ≡ map (λ (n : ℕ). some (ends_at 1 1 (take n (changed 0 [])))) (numbers 0 (length (changed 0 [])))
unfolding reading lines ends_at
cut_off_hold = refl

pub numbers_hold : map (λ (c : NumberCase). number (bytes c.text)) Cases.number_cases ≡ map (λ (c : NumberCase). c.gives) Cases.number_cases
unfolding reading Cases.number_cases
numbers_hold = refl

pub keys_hold : keys ≡ map (λ (c : KeyCase). key c.name (record { from = c.from; to = c.to })) Cases.key_cases
unfolding reading Cases.key_cases
keys_hold = refl

-- an empty table lacks its first line; 4,096 bytes are read, of one more nothing is
pub bytes_hold : map (λ (n : ℕ). refusal_of (read_of (replicate n 0))) (0 ∷ 4096 ∷ 4097 ∷ []) ≡ some (Misspelled 1 1) ∷ some (Misspelled 1 1) ∷ some TooLong ∷ []
unfolding reading
bytes_hold = refl

pub refusals_hold : map (λ (c : Numbered). numbered c.refusal (number_of c.refusal) (line_of c.refusal) (column_of c.refusal)) Cases.refusals ≡ Cases.refusals
unfolding Cases.refusals
refusals_hold = refl

pub decimals_hold : map decimal (0 ∷ 7 ∷ 10 ∷ 905 ∷ 20000 ∷ []) ≡ bytes "0" ∷ bytes "7" ∷ bytes "10" ∷ bytes "905" ∷ bytes "20000" ∷ []
unfolding reading
decimals_hold = refl
