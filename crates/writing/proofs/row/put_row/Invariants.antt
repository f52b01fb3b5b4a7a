use mathlib.Core.List.{map}
use lib.ListN.{take}
use Rattle.rules.specs.Answers.{row_text}
use Rattle.writing.specs.Row.{running_of}
use Rattle.writing.specs.Written.{Written}
use Rattle.writing.proofs.row.put_row.Given as goal

abbrev pub invariant-loop-x : goal.invariant-loop-x
invariant-loop-x l = Written (row_text (map running_of (take l.x-index l.x-items))) l.initial.buf l.buf l.at
