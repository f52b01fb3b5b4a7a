-- `put_run` meets its contract: each pair begins where what stands before it ended.
use mathlib.Core.Path.{ap}
use mathlib.Core.List.{List, [], ◌∷◌, ◌++◌}
use Prim.Native.Nat.{ℕ, ◌+◌, ◌≤◌}
use native.Mathlib.Omega.{arith}
use lib.ListN.{length, length-append}
use Rattle.format.specs.Bytes.{bytes, comma, line_feed}
use Rattle.rules.specs.Answers.{row_text}
use Rattle.writing.specs.declared.row.Run.{Run}
use Rattle.writing.specs.Line.{pair}
use Rattle.writing.specs.Row.{running_of}
use Rattle.writing.proofs.Writing.{named, room, both}
use Rattle.writing.proofs.Rows.{run_is}
use Rattle.writing.proofs.row.put_run.Goals as goal

abbrev place : Run → List ℕ
place x = pair x.graph x.node comma

abbrev numbers : Run → List ℕ
numbers x = pair x.server_job x.invocation line_feed

module _ (x : Run) (part : List ℕ) (whole : length (row_text (running_of x ∷ [])) ≤ length part) where
  fit-numbers : length (bytes "run=" ++ place x) + length (numbers x) ≤ length part
  fit-numbers = omega (arith, ap length (run_is (running_of x)), length-append (bytes "run=" ++ place x) (numbers x))

  fit-place : length (bytes "run=") + length (place x) ≤ length part
  fit-place = omega (arith, fit-numbers, length-append (bytes "run=") (place x))

pub put_bytes-first-requires : goal.put_bytes-first-requires
put_bytes-first-requires c = omega (arith, fit-place c.args.x c.args.part.now c.requires)

pub put_pair-requires : goal.put_pair-requires
put_pair-requires c = room (place c.args.x) c.put_bytes-first.ensures (fit-place c.args.x c.args.part.now c.requires)

pub put_pair-requires-2 : goal.put_pair-requires-2
put_pair-requires-2 c =
    let second = both (place c.args.x) c.put_bytes-first.ensures (fit-place c.args.x c.args.part.now c.requires) c.put_pair.ensures in
    room (numbers c.args.x) second (fit-numbers c.args.x c.args.part.now c.requires)

pub returns : goal.returns
returns c =
    let second = both (place c.args.x) c.put_bytes-first.ensures (fit-place c.args.x c.args.part.now c.requires) c.put_pair.ensures in
    named (run_is (running_of c.args.x)) (both (numbers c.args.x) second (fit-numbers c.args.x c.args.part.now c.requires) c.put_pair-2.ensures)
