-- `put_three` meets its contract: the others begin where the first line ended.
use Rattle.std.proofs.Common.{List, ℕ, ◌+◌, ◌≤◌, length, sym, subst, arith}
use Rattle.table.specs.Keys.{place}
use Rattle.putting.specs.Texts.{number_line, two_lines, three_lines}
use Rattle.putting.proofs.TextLaws.{three_parts}
use Rattle.writing.proofs.Writing.{apart, named, room, both}
use Rattle.putting.proofs.node.put_three.Goals as goal

fit : (i a j b k c : ℕ) (part : List ℕ) → length (three_lines i a j b k c) ≤ length part → length (number_line i a) + length (two_lines j b k c) ≤ length part
fit i a j b k c part h = apart (number_line i a) (two_lines j b k c) part (subst (λ (l : List ℕ). length l ≤ length part) (sym (three_parts i a j b k c)) h)

pub put_number_line-at-requires : goal.put_number_line-at-requires
put_number_line-at-requires c = omega (arith, fit (place c.args.one.0) c.args.one.1 (place c.args.two.0) c.args.two.1 (place c.args.three.0) c.args.three.1 c.args.part.now c.requires)

pub put_two-requires : goal.put_two-requires
put_two-requires c = room (two_lines (place c.args.two.0) c.args.two.1 (place c.args.three.0) c.args.three.1) c.put_number_line-at.ensures (fit (place c.args.one.0) c.args.one.1 (place c.args.two.0) c.args.two.1 (place c.args.three.0) c.args.three.1 c.args.part.now c.requires)

pub returns : goal.returns
returns c = named (three_parts (place c.args.one.0) c.args.one.1 (place c.args.two.0) c.args.two.1 (place c.args.three.0) c.args.three.1) (both (two_lines (place c.args.two.0) c.args.two.1 (place c.args.three.0) c.args.three.1) c.put_number_line-at.ensures (fit (place c.args.one.0) c.args.one.1 (place c.args.two.0) c.args.two.1 (place c.args.three.0) c.args.three.1 c.args.part.now c.requires) c.put_two.ensures)
