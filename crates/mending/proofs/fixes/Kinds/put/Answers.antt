-- `put` meets its contract: each line begins where the line before it ended.
use mathlib.Core.Path.{ap}
use mathlib.Core.List.{List, ◌++◌}
use Prim.Native.Nat.{ℕ, ◌+◌, ◌≤◌}
use native.Mathlib.Omega.{arith}
use lib.ListN.{length, length-append}
use Rattle.salvaging.specs.Fixes.{fix_if}
use Rattle.writing.proofs.Writing.{named, room, both}
use Rattle.mending.specs.declared.fixes.Kinds.{Kinds}
use Rattle.mending.specs.Line.{fixes_text}
use Rattle.mending.proofs.Lengths.{fixes_are}
use Rattle.mending.proofs.fixes.Kinds.put.Goals as goal

-- the lines up to a kind
abbrev to_blanks : ℕ → Kinds → List ℕ
to_blanks n k = fix_if k.returns n 1 ++ fix_if k.blanks n 2

abbrev to_empty : ℕ → Kinds → List ℕ
to_empty n k = to_blanks n k ++ fix_if k.empty n 3

abbrev to_zeros : ℕ → Kinds → List ℕ
to_zeros n k = to_empty n k ++ fix_if k.zeros n 4

-- each line fits behind those before it where the whole text fits
module _ (n : ℕ) (k : Kinds) (part : List ℕ) (whole : length (fixes_text n k) ≤ length part) where
  fit-unended : length (to_zeros n k) + length (fix_if k.unended n 5) ≤ length part
  fit-unended = omega (arith, ap length (fixes_are n k), length-append (to_zeros n k) (fix_if k.unended n 5))

  fit-zeros : length (to_empty n k) + length (fix_if k.zeros n 4) ≤ length part
  fit-zeros = omega (arith, fit-unended, length-append (to_empty n k) (fix_if k.zeros n 4))

  fit-empty : length (to_blanks n k) + length (fix_if k.empty n 3) ≤ length part
  fit-empty = omega (arith, fit-zeros, length-append (to_blanks n k) (fix_if k.empty n 3))

  fit-blanks : length (fix_if k.returns n 1) + length (fix_if k.blanks n 2) ≤ length part
  fit-blanks = omega (arith, fit-empty, length-append (fix_if k.returns n 1) (fix_if k.blanks n 2))

pub put_fix_if-two-requires : goal.put_fix_if-two-requires
put_fix_if-two-requires c = omega (arith, fit-blanks c.args.n c.args.self c.args.part.now c.requires)

pub put_fix_if-requires : goal.put_fix_if-requires
put_fix_if-requires c = room (fix_if c.args.self.blanks c.args.n 2) c.put_fix_if-two.ensures (fit-blanks c.args.n c.args.self c.args.part.now c.requires)

pub put_fix_if-requires-2 : goal.put_fix_if-requires-2
put_fix_if-requires-2 c =
    let second = both (fix_if c.args.self.blanks c.args.n 2) c.put_fix_if-two.ensures (fit-blanks c.args.n c.args.self c.args.part.now c.requires) c.put_fix_if.ensures in
    room (fix_if c.args.self.empty c.args.n 3) second (fit-empty c.args.n c.args.self c.args.part.now c.requires)

pub put_fix_if-requires-3 : goal.put_fix_if-requires-3
put_fix_if-requires-3 c =
    let second = both (fix_if c.args.self.blanks c.args.n 2) c.put_fix_if-two.ensures (fit-blanks c.args.n c.args.self c.args.part.now c.requires) c.put_fix_if.ensures in
    let third = both (fix_if c.args.self.empty c.args.n 3) second (fit-empty c.args.n c.args.self c.args.part.now c.requires) c.put_fix_if-2.ensures in
    room (fix_if c.args.self.zeros c.args.n 4) third (fit-zeros c.args.n c.args.self c.args.part.now c.requires)

pub put_fix_if-requires-4 : goal.put_fix_if-requires-4
put_fix_if-requires-4 c =
    let second = both (fix_if c.args.self.blanks c.args.n 2) c.put_fix_if-two.ensures (fit-blanks c.args.n c.args.self c.args.part.now c.requires) c.put_fix_if.ensures in
    let third = both (fix_if c.args.self.empty c.args.n 3) second (fit-empty c.args.n c.args.self c.args.part.now c.requires) c.put_fix_if-2.ensures in
    let fourth = both (fix_if c.args.self.zeros c.args.n 4) third (fit-zeros c.args.n c.args.self c.args.part.now c.requires) c.put_fix_if-3.ensures in
    room (fix_if c.args.self.unended c.args.n 5) fourth (fit-unended c.args.n c.args.self c.args.part.now c.requires)

pub returns : goal.returns
returns c =
    let second = both (fix_if c.args.self.blanks c.args.n 2) c.put_fix_if-two.ensures (fit-blanks c.args.n c.args.self c.args.part.now c.requires) c.put_fix_if.ensures in
    let third = both (fix_if c.args.self.empty c.args.n 3) second (fit-empty c.args.n c.args.self c.args.part.now c.requires) c.put_fix_if-2.ensures in
    let fourth = both (fix_if c.args.self.zeros c.args.n 4) third (fit-zeros c.args.n c.args.self c.args.part.now c.requires) c.put_fix_if-3.ensures in
    named (fixes_are c.args.n c.args.self)
    (both (fix_if c.args.self.unended c.args.n 5) fourth (fit-unended c.args.n c.args.self c.args.part.now c.requires) c.put_fix_if-4.ensures)
