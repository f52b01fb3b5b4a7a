use lib.ListN.{take}
use Rattle.writing.specs.Written.{Written}
use Rattle.writing.proofs.line.put_bytes.Given as goal

abbrev pub invariant-loop-i : goal.invariant-loop-i
invariant-loop-i l = Written (take l.i l.text) l.initial.part l.part l.i
