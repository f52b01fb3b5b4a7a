-- `from` meets its contract: a refusal's numbers and a table of zeros.
use Rattle.std.proofs.Common.{refl}
use Rattle.memory.proofs.Zeros.{zeros}
use Rattle.editor.proofs.exports.PhalandrixReadingFromResultPhalandrixTableRefusal.from.Goals as goal

pub returns-in-Err : goal.returns-in-Err
returns-in-Err c = rw (c.in-Err.is, c.number_of.ensures, c.line_of.ensures, c.column_of.ensures, zeros c.default.result c.default.ensures) refl
