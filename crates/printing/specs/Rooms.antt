-- When a room holds an input.
use Rattle.std.specs.Prelude.{◌≡◌, List, ℕ, length, take}

-- the first n bytes of the room are the input, as far as the room goes
abbrev pub Holds : List ℕ → List ℕ → ℕ → Type 0
Holds input room n = take n room ≡ take (length room) input
