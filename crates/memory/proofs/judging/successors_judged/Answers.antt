-- `successors_judged` meets its contract: what the masks leave over are the nodes without a successor.
use Rattle.std.proofs.Common.{◌≡◌, ◌-◌, fold, length, arith, refl}
use borrow.Author.Tests.{eq-eqb, ne_eqb}
use Rattle.numbers.specs.Masks.{unset_below}
use Rattle.writer.specs.Judging.{successors_at}
use Rattle.memory.specs.Judged.{with_after}
use Rattle.memory.proofs.Named.{all_named}
use Rattle.memory.proofs.judging.successors_judged.Goals as goal

pub returns-then-unset_below-eq0 : goal.returns-then-unset_below-eq0
unfolding successors_at
returns-then-unset_below-eq0 c =
    let nodes = c.args.nodes.now in
    let z : unset_below (length nodes - 1) (fold with_after 0 nodes) ≡ 0 = rw (← c.named.ensures, ← c.unset_below.ensures) c.if-unset_below-eq0.true in
    rw (← all_named nodes (omega arith), eq-eqb _ 0 z) refl

pub returns-else-unset_below-eq0 : goal.returns-else-unset_below-eq0
unfolding successors_at
returns-else-unset_below-eq0 c =
    let nodes = c.args.nodes.now in
    let z : unset_below (length nodes - 1) (fold with_after 0 nodes) ≡ 0 → ⊥ = rw (← c.named.ensures, ← c.unset_below.ensures) c.if-unset_below-eq0.false in
    rw (← all_named nodes (omega arith), ne_eqb _ 0 z, c.against.ensures) refl
