-- `put_number_line` meets its contract: the number goes where the heading ended.
use Rattle.std.proofs.Common.{List, ℕ, ◌+◌, ◌≤◌, length, sym, subst, arith}
use Rattle.format.specs.Bytes.{line_feed}
use Rattle.table.specs.Keys.{place}
use Rattle.writing.specs.Line.{ended}
use Rattle.putting.specs.Texts.{heading, number_line}
use Rattle.putting.proofs.TextLaws.{number_parts}
use Rattle.writing.proofs.Writing.{apart, named, room, both}
use Rattle.putting.proofs.node.put_number_line.Goals as goal

fit : (k v : ℕ) (part : List ℕ) → length (number_line k v) ≤ length part → length (heading k) + length (ended v line_feed) ≤ length part
fit k v part h = apart (heading k) (ended v line_feed) part (subst (λ (l : List ℕ). length l ≤ length part) (sym (number_parts k v)) h)

pub put_heading-at-requires : goal.put_heading-at-requires
put_heading-at-requires c = omega (arith, fit (place c.args.k) c.args.v c.args.part.now c.requires)

pub put_ended-requires : goal.put_ended-requires
put_ended-requires c = room (ended c.args.v line_feed) c.put_heading-at.ensures (fit (place c.args.k) c.args.v c.args.part.now c.requires)

pub returns : goal.returns
returns c = named (number_parts (place c.args.k) c.args.v) (both (ended c.args.v line_feed) c.put_heading-at.ensures (fit (place c.args.k) c.args.v c.args.part.now c.requires) c.put_ended.ensures)
