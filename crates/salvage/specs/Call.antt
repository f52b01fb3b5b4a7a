-- What a call of salvage returned and left in the buffers, as one; and what is left of one buffer.
use Rattle.std.specs.Prelude.{◌≡◌, List, ◌++◌, ℕ, length, drop, Result}
use Rattle.format.specs.declared.Refusal.{Refusal}
use Rattle.salvaging.specs.declared.Lengths.{Lengths}
use Rattle.salvaging.specs.Salvage.{SalvageCall}

abbrev pub called : Result Lengths Refusal → List ℕ → List ℕ → SalvageCall
called answer text list = record { answer = answer; text = text; list = list }

-- the text stands at the buffer's start, and the bytes after it are as they were
pub record Filled (text before after : List ℕ) : Type 0 where
  pub bytes : after ≡ text ++ drop (length text) before
