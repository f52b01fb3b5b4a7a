-- `refusal_length` meets its contract.
use mathlib.Core.Path.{ap, ◌∙◌}
use Prim.Native.Nat.{ℕ}
use native.Mathlib.Omega.{arith}
use lib.ListN.{length, length-append}
use Rattle.format.specs.Bytes.{bytes}
use Rattle.format.specs.Refusals.{number_of}
use Rattle.rules.specs.Answers.{answer_line, printed}
use Rattle.writing.specs.Line.{line, placed}
use Rattle.writing.proofs.refusal.refusal_length.Goals as goal

pub returns : goal.returns
unfolding printed answer_line
returns c =
    let r = c.args.r in
    let first = c.line_length.ensures.size ∙ ap (λ (k : ℕ). length (line (bytes "answer") k)) c.number_of.ensures in
    record {
      size = omega (arith, length-append (line (bytes "answer") (number_of r)) (placed r), first, c.place_length.ensures.size);
      within = omega (arith, c.line_length.ensures.within, c.place_length.ensures.within);
    }
