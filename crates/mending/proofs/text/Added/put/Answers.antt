-- `put` meets its contract: the blanks begin where the zero ended, and the byte where they did.
use mathlib.Core.Path.{ap}
use mathlib.Core.List.{List, ◌++◌, append_assoc}
use Prim.Native.Nat.{ℕ, ◌+◌, ◌≤◌}
use native.Mathlib.Omega.{arith}
use lib.ListN.{length, replicate, length-append}
use Rattle.format.specs.Bytes.{digit_zero}
use Rattle.salvaging.specs.Steps.{blank}
use Rattle.writing.proofs.Writing.{named, both}
use Rattle.mending.specs.declared.text.Added.{Added}
use Rattle.mending.specs.Line.{byte_if, added_text}
use Rattle.mending.proofs.text.Added.put.Goals as goal

abbrev zero : Added → List ℕ
zero x = byte_if x.zero digit_zero

abbrev blanks : Added → List ℕ
blanks x = replicate x.blanks blank

module _ (x : Added) (c : ℕ) (part : List ℕ) (whole : length (added_text x c) ≤ length part) where
  fit-byte : length (zero x ++ blanks x) + length (byte_if x.byte c) ≤ length part
  fit-byte =
      omega (arith, ap length (append_assoc (zero x) (blanks x) (byte_if x.byte c)), length-append (zero x ++ blanks x) (byte_if x.byte c))

  fit-blanks : length (zero x) + length (blanks x) ≤ length part
  fit-blanks = omega (arith, fit-byte, length-append (zero x) (blanks x))

pub returns : goal.returns
returns c =
    let x = c.args.self in
    let second = both (blanks x) c.put_if-blanks_at.ensures (fit-blanks x c.args.c c.args.part.now c.requires) c.put_blanks.ensures in
    named (append_assoc (zero x) (blanks x) (byte_if x.byte c.args.c))
    (both (byte_if x.byte c.args.c) second (fit-byte x c.args.c c.args.part.now c.requires) c.put_if.ensures)
