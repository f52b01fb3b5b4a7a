-- A heading is a name and `=`.
use mathlib.Core.Path.{◌≡◌}
use mathlib.Core.List.{[], ◌∷◌}
use Prim.Native.Nat.{ℕ, ◌+◌}
use lib.ListN.{length, length-append}
use Rattle.format.specs.Bytes.{equals}
use Rattle.format.specs.Keys.{key_at}
use Rattle.writer.specs.Writing.{heading_text}
use Rattle.putting.specs.Texts.{heading}

pub heading_long : (k : ℕ) → length (heading k) ≡ length (key_at k).name + 1
unfolding heading_text
heading_long k = length-append (key_at k).name (equals ∷ [])
