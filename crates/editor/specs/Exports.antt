-- What C is told of a table read into memory.
use Rattle.std.specs.Prelude.{Result, Ok, Err}
use Rattle.format.specs.declared.Refusal.{Refusal}
use Rattle.format.specs.Refusals.{number_of, line_of, column_of}
use Rattle.memory.specs.declared.plain.PhalandrixTable.{PhalandrixTable}
use Rattle.memory.specs.Plain.{no_table}
use Rattle.editor.specs.declared.exports.PhalandrixReading.{PhalandrixReading}

abbrev pub reading_of : Result PhalandrixTable Refusal → PhalandrixReading
reading_of (Ok t) = record { number = 0; line = 0; column = 0; table = t }
reading_of (Err r) = record { number = number_of r; line = line_of r; column = column_of r; table = no_table }
