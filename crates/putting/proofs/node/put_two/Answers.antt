-- `put_two` meets its contract: the second line begins where the first ended.
use Rattle.std.proofs.Common.{List, ℕ, ◌+◌, ◌≤◌, length, sym, subst, arith}
use Rattle.table.specs.Keys.{place}
use Rattle.putting.specs.Texts.{number_line, two_lines}
use Rattle.putting.proofs.TextLaws.{two_parts}
use Rattle.writing.proofs.Writing.{apart, named, room, both}
use Rattle.putting.proofs.node.put_two.Goals as goal

fit : (i a j b : ℕ) (part : List ℕ) → length (two_lines i a j b) ≤ length part → length (number_line i a) + length (number_line j b) ≤ length part
fit i a j b part h = apart (number_line i a) (number_line j b) part (subst (λ (l : List ℕ). length l ≤ length part) (sym (two_parts i a j b)) h)

pub put_number_line-at-requires : goal.put_number_line-at-requires
put_number_line-at-requires c = omega (arith, fit (place c.args.one.0) c.args.one.1 (place c.args.two.0) c.args.two.1 c.args.part.now c.requires)

pub put_number_line-requires : goal.put_number_line-requires
put_number_line-requires c = room (number_line (place c.args.two.0) c.args.two.1) c.put_number_line-at.ensures (fit (place c.args.one.0) c.args.one.1 (place c.args.two.0) c.args.two.1 c.args.part.now c.requires)

pub returns : goal.returns
returns c = named (two_parts (place c.args.one.0) c.args.one.1 (place c.args.two.0) c.args.two.1) (both (number_line (place c.args.two.0) c.args.two.1) c.put_number_line-at.ensures (fit (place c.args.one.0) c.args.one.1 (place c.args.two.0) c.args.two.1 c.args.part.now c.requires) c.put_number_line.ensures)
