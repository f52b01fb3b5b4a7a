-- `put_node` meets its contract: the list begins where the two numbers ended.
use Rattle.std.proofs.Common.{List, ℕ, ◌+◌, ◌≤◌, length, sym, subst, arith}
use Rattle.format.specs.Keys as Keys
use Rattle.memory.specs.declared.plain.PhalandrixNode.{PhalandrixNode}
use Rattle.putting.specs.Texts.{two_lines, after_line, node_lines}
use Rattle.putting.proofs.TextLaws.{node_parts}
use Rattle.writing.proofs.Writing.{apart, named, room, both}
use Rattle.putting.proofs.node.put_node.Goals as goal

fit : (x : PhalandrixNode) (part : List ℕ) → length (node_lines x) ≤ length part → length (two_lines Keys.budget x.budget Keys.level x.level) + length (after_line x.after) ≤ length part
fit x part h = apart (two_lines Keys.budget x.budget Keys.level x.level) (after_line x.after) part (subst (λ (l : List ℕ). length l ≤ length part) (sym (node_parts x)) h)

pub put_two-at-requires : goal.put_two-at-requires
put_two-at-requires c = omega (arith, fit c.args.x c.args.part.now c.requires)

pub put_after-requires : goal.put_after-requires
put_after-requires c = room (after_line c.args.x.after) c.put_two-at.ensures (fit c.args.x c.args.part.now c.requires)

pub returns : goal.returns
returns c = named (node_parts c.args.x) (both (after_line c.args.x.after) c.put_two-at.ensures (fit c.args.x c.args.part.now c.requires) c.put_after.ensures)
