-- `answer` meets its contract: the room holds the longest text of a table.
use native.Mathlib.Omega.{arith}
use Rattle.writer.proofs.WrittenLength.{longest_is}
use Rattle.phalandrix.proofs.answer.Goals as goal

pub put_answer_to-m-requires-clause-longest_written_in_bounds :
    goal.put_answer_to-m-requires-clause-longest_written_in_bounds
put_answer_to-m-requires-clause-longest_written_in_bounds c = omega (arith, longest_is)
