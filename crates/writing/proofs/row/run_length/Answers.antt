-- `run_length` meets its contract.
use native.Mathlib.Omega.{arith}
use lib.ListN.{length-append}
use Rattle.rules.specs.Answers.{row_text}
use Rattle.writing.proofs.row.run_length.Goals as goal

pub returns : goal.returns
unfolding row_text
returns c =
    record {
      size = simp length-append (omega (arith, c.digits.ensures.size, c.digits-2.ensures.size, c.digits-3.ensures.size, c.digits-4.ensures.size));
      within = omega (arith, c.digits.ensures.within, c.digits-2.ensures.within, c.digits-3.ensures.within, c.digits-4.ensures.within);
    }
