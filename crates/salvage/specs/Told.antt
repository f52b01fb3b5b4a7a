-- What C is told of a salvage, and what it finds in its two buffers.
use Rattle.std.specs.Prelude.{◌≡◌, List, ℕ, Result, Ok, Err}
use Rattle.format.specs.Refusals.{number_of, line_of, column_of}
use Rattle.format.specs.declared.Refusal.{Refusal}
use Rattle.salvaging.specs.declared.Lengths.{Lengths}
use Rattle.salvaging.specs.Salvage.{SalvageCall}
use Rattle.salvage.specs.declared.exports.PhalandrixSalvage.{PhalandrixSalvage}

-- the numbers and lengths for every case of an answer
abbrev pub told_of : Result Lengths Refusal → PhalandrixSalvage
told_of (Ok n) = record { number = 0; line = 0; column = 0; text_length = n.text; list_length = n.list }
told_of (Err r) = record { number = number_of r; line = line_of r; column = column_of r; text_length = 0; list_length = 0 }

pub record Told (r : PhalandrixSalvage) (text list : List ℕ) (call : SalvageCall) : Type 0 where
  pub answer : r ≡ told_of call.answer
  pub text_bytes : text ≡ call.text
  pub list_bytes : list ≡ call.list
