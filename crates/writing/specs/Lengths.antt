-- How long a text is, and how long it can get: for sums of lengths that never wrap, and for a buffer that every text fits.
use Rattle.std.specs.Prelude.{◌≡◌, List, ℕ, ◌+◌, ◌*◌, ◌≤◌, length}
use Rattle.schedule.specs.Limits as Limits
use Rattle.format.specs.Bytes.{bytes}

-- the length told is the text's, and at most so much
pub record Long (text : List ℕ) (most told : ℕ) : Type 0 where
  pub size : told ≡ length text
  pub within : told ≤ most

-- the decimal digits of the largest u32
abbrev pub most_digits : ℕ
most_digits = 10

-- a line with that name: `=`, the digits and LF come after it
abbrev pub longest_line : List ℕ → ℕ
longest_line name = length name + (most_digits + 2)

-- a line of a row: four numbers among its marks and LF
abbrev pub longest_run : ℕ
longest_run = length (bytes "run=,,,") + (4 * most_digits + 1)

-- the texts themselves
abbrev pub longest_report : ℕ
longest_report = longest_line (bytes "answer") + longest_line (bytes "round") + longest_line (bytes "ticks") + (Limits.graphs).to * longest_line (bytes "response")

abbrev pub longest_row : ℕ
longest_row = (Limits.processors).to * longest_run

abbrev pub longest_place : ℕ
longest_place = longest_line (bytes "line") + longest_line (bytes "column")

abbrev pub longest_refusal : ℕ
longest_refusal = longest_line (bytes "answer") + longest_place
