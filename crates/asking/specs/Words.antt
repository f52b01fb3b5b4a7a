-- The words that the program listens to.
use Rattle.std.specs.Prelude.{List, ℕ, length}
use Rattle.format.specs.Bytes.{bytes}

abbrev pub row : List ℕ
row = bytes "row"

abbrev pub batch : List ℕ
batch = bytes "batch"

abbrev pub salvage : List ℕ
salvage = bytes "salvage"

abbrev pub fixes : List ℕ
fixes = bytes "fixes"

abbrev pub rewrite : List ℕ
rewrite = bytes "rewrite"

abbrev pub plain : List ℕ
plain = bytes "plain"

abbrev pub margin : List ℕ
margin = bytes "margin"

abbrev pub longest_word : ℕ
longest_word = length salvage
