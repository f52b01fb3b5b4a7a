-- A line judged, its number left aside: in the rules' terms, and what code answers.
use Rattle.std.specs.Prelude.{Bool, cond, List, [], ◌∷◌, ℕ, eqb, drop, Result, Ok, Err}
use Rattle.format.specs.Bytes.{line_feed}
use Rattle.format.specs.Keys as Keys
use Rattle.format.specs.Keys.{key_at}
use Rattle.format.specs.Spelling.{Scan, read, wrong, ◌⟫◌, text, number, list, line}
use Rattle.format.specs.Reading.{value_in, offending}
use Rattle.schedule.specs.WellFormed.{within}
use Rattle.table.specs.declared.Range.{Range}
use Rattle.table.specs.Limits.{coded}
use Rattle.lines.specs.declared.judging.Fault.{Fault}
use Rattle.scanning.specs.Masks.{mask_of, fair_list}

-- a value and the bytes after the line; the bytes from where the spelling goes wrong; or a value that is not fair, and the bytes from what is at
-- fault in it
pub data Judged : Type 0 where
  passed : ℕ → List ℕ → Judged
  misspelled : List ℕ → Judged
  unfair : List ℕ → Judged

module _ {A : Type 0} where
  -- the value as code holds it
  abbrev pub judge_by : (A → ℕ) → (A → Bool) → List ℕ → Scan A → Judged
  judge_by coded fair fault (wrong rest) = misspelled rest
  judge_by coded fair fault (read v rest) = cond (fair v) (passed (coded v) rest) (unfair fault)

  -- LF behind a value v; and a value with LF behind it, which is a line without its heading
  abbrev pub closed : A → List ℕ → Scan A
  closed v s = text (line_feed ∷ []) s ⟫ λ u rest. read v rest

  abbrev pub valued : (List ℕ → Scan A) → List ℕ → Scan A
  valued value s = value s ⟫ closed

-- a number is held as itself; a test made before
abbrev pub same : ℕ → ℕ
same v = v

abbrev pub always : Bool → ℕ → Bool
always b v = b

-- the limits of each number of an `after` list, as code has them
abbrev pub predecessors : Range
predecessors = coded (key_at Keys.after).range

abbrev pub line_judged : ℕ → ℕ → List ℕ → Judged
line_judged k own s =
    cond (eqb k Keys.after)
    (judge_by mask_of (fair_list predecessors own) (offending own (value_in k s)) (line (key_at k).name list s))
    (judge_by same (within (key_at k).range) (value_in k s) (line (key_at k).name number s))

abbrev pub judged_of : List ℕ → Result (ℕ × ℕ) Fault → Judged
judged_of s (Ok r) = passed r.0 (drop r.1 s)
judged_of s (Err (Fault.Misspelled p)) = misspelled (drop p s)
judged_of s (Err (Fault.Unfair p)) = unfair (drop p s)
