-- `put_answer_to` meets its contract: a room past the limit holds enough of the input.
use mathlib.Core.Path.{sym}
use lib.Seq.{length-take-le}
use native.Mathlib.Omega.{arith}
use Rattle.writer.proofs.WrittenLength.{longest_is}
use Rattle.printing.proofs.Printed.{answers_fit, held_printed, written_within}
use Rattle.printing.proofs.answering.put_answer_to.Goals as goal

pub slice_bounds-put_answer-end : goal.slice_bounds-put_answer-end
slice_bounds-put_answer-end c = sym (length-take-le _ _ c.requires.n_in_bounds)

pub put_answer-requires : goal.put_answer-requires
put_answer-requires c =
    record { longest_row_in_bounds = omega (arith, c.requires.longest_written_in_bounds, longest_is); q_in_bounds = answers_fit c.args.q _ c.requires.longest_written_in_bounds }

pub returns : goal.returns
returns c =
    let w = c.put_answer.ensures.written in
    record { by_index = held_printed c.args.q c.args.room.now _ _ c.args.n _ c.requires.to_in_bounds w; upper_bound = written_within _ _ _ _ w }
