-- `put_after` meets its contract: the list goes where the heading ended.
use Rattle.std.proofs.Common.{List, ℕ, ◌+◌, ◌≤◌, length, sym, subst, arith}
use Rattle.format.specs.Keys as Keys
use Rattle.putting.specs.Texts.{heading, list_ended, after_line}
use Rattle.putting.proofs.TextLaws.{after_parts}
use Rattle.writing.proofs.Writing.{apart, named, room, both}
use Rattle.putting.proofs.node.put_after.Goals as goal

fit : (mask : ℕ) (part : List ℕ) → length (after_line mask) ≤ length part → length (heading Keys.after) + length (list_ended mask) ≤ length part
fit mask part h = apart (heading Keys.after) (list_ended mask) part (subst (λ (l : List ℕ). length l ≤ length part) (sym (after_parts mask)) h)

pub put_heading-at-requires : goal.put_heading-at-requires
put_heading-at-requires c = omega (arith, fit c.args.mask c.args.part.now c.requires)

pub put_list-requires : goal.put_list-requires
put_list-requires c = room (list_ended c.args.mask) c.put_heading-at.ensures (fit c.args.mask c.args.part.now c.requires)

pub returns : goal.returns
returns c = named (after_parts c.args.mask) (both (list_ended c.args.mask) c.put_heading-at.ensures (fit c.args.mask c.args.part.now c.requires) c.put_list.ensures)
