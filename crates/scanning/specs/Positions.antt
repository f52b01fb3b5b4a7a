-- What the scanners' answers say in the rules' terms: a position p of the bytes s stands for the bytes from there on, `drop p s`.
use Rattle.std.specs.Prelude.{List, ℕ, min, drop, Result, Ok, Err}
use Rattle.format.specs.Spelling.{Scan, read, wrong}
use Rattle.scanning.specs.declared.scanners.Wrong.{Wrong}

-- a value and the position after it
abbrev pub scanned_of : {A : Type 0} → List ℕ → Result (A × ℕ) Wrong → Scan A
scanned_of s (Ok r) = read r.0 (drop r.1 s)
scanned_of s (Err w) = wrong (drop w.at s)

-- the position after a text, which has no value
abbrev pub found_of : List ℕ → Result ℕ Wrong → Scan (Unit {0})
found_of s (Ok p) = read tt (drop p s)
found_of s (Err w) = wrong (drop w.at s)

module _ {A B : Type 0} where
  abbrev pub map_scan : (A → B) → Scan A → Scan B
  map_scan f (read a rest) = read (f a) rest
  map_scan f (wrong rest) = wrong rest

-- a number past every limit: code keeps no number larger
abbrev pub far : ℕ
far = 0xffff_ffff

abbrev pub kept : ℕ → ℕ
kept v = min v far

abbrev pub capped : Scan ℕ → Scan ℕ
capped = map_scan kept
