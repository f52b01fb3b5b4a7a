-- `same_state` meets its contract: one test after another, as far as they are made.
use mathlib.Core.Path.{◌≡◌, refl, ◌∙◌}
use mathlib.Core.Bool.{Bool, ◌&&◌}
use native.Mathlib.Omega.{arith}
use Rattle.std.proofs.Math.Bool.{and_assoc}
use Rattle.ledger.specs.Forming.{same_numbers, same_slots}
use lib.Dec.{eqb}
use Rattle.window.proofs.Chains.{first_same}
use Rattle.plainstates.proofs.StateLaws.{and_then, and_else}
use Rattle.plainstates.proofs.comparing.same_state.Goals as goal
use Rattle.plainstates.proofs.comparing.same_state.Goals.{then-eq, else-eq, then-eq-2, else-eq-2, then-eq-3, else-eq-3, then-eq-4, else-eq-4}

pub returns-then-same_slots : goal.returns-then-same_slots
returns-then-same_slots c =
    let a = c.args.a.now in
    let b = c.args.b.now in
    let n = c.min-n.result in
    let A : Bool = same_numbers a.phase b.phase n in
    let B : Bool = same_numbers a.unfinished b.unfinished n in
    let C : Bool = same_numbers a.unlinked b.unlinked n in
    let D : Bool = same_numbers a.pending b.pending n in
    let E : Bool = same_slots a.left b.left a.pending n in
    let one : c.eq.result ≡ A = c.eq.ensures ∙ first_same eqb 0 n a.phase b.phase (omega (arith, c.min-n.ensures)) (omega (arith, c.min-n.ensures)) in
    let two : c.if-eq.value ≡ (A && B) = elim c.if-eq.branch [
      | then-eq w ↦ and_then B one w.if-eq.true (w.value-is ∙ w.eq-then-eq.ensures ∙ first_same eqb 0 n a.unfinished b.unfinished (omega (arith, c.min-n.ensures)) (omega (arith, c.min-n.ensures)))
      | else-eq w ↦ and_else B one w.if-eq.false w.value-is
    ] in
    let three : c.if-eq-2.value ≡ (A && B && C) = elim c.if-eq-2.branch [
      | then-eq-2 w ↦ and_then C two w.if-eq-2.true (w.value-is ∙ w.eq-then-eq-2.ensures ∙ first_same eqb 0 n a.unlinked b.unlinked (omega (arith, c.min-n.ensures)) (omega (arith, c.min-n.ensures)))
      | else-eq-2 w ↦ and_else C two w.if-eq-2.false w.value-is
    ] in
    let four : c.if-eq-3.value ≡ (A && B && C && D) = elim c.if-eq-3.branch [
      | then-eq-3 w ↦ and_then D three w.if-eq-3.true (w.value-is ∙ w.eq-then-eq-3.ensures ∙ first_same eqb 0 n a.pending b.pending (omega (arith, c.min-n.ensures)) (omega (arith, c.min-n.ensures)))
      | else-eq-3 w ↦ and_else D three w.if-eq-3.false w.value-is
    ] in
    let five : c.if-eq-4.value ≡ (A && B && C && D && E) = elim c.if-eq-4.branch [
      | then-eq-4 w ↦ and_then E four w.if-eq-4.true (w.value-is ∙ w.same_slots.ensures)
      | else-eq-4 w ↦ and_else E four w.if-eq-4.false w.value-is
    ] in
    let F : Bool = same_slots a.behind b.behind a.pending n in
    rw (← c.min-n.ensures) (simp and_assoc at (and_then F five c.if-same_slots.true c.same_slots-then-same_slots.ensures))

pub returns-else-same_slots : goal.returns-else-same_slots
returns-else-same_slots c =
    let a = c.args.a.now in
    let b = c.args.b.now in
    let n = c.min-n.result in
    let A : Bool = same_numbers a.phase b.phase n in
    let B : Bool = same_numbers a.unfinished b.unfinished n in
    let C : Bool = same_numbers a.unlinked b.unlinked n in
    let D : Bool = same_numbers a.pending b.pending n in
    let E : Bool = same_slots a.left b.left a.pending n in
    let one : c.eq.result ≡ A = c.eq.ensures ∙ first_same eqb 0 n a.phase b.phase (omega (arith, c.min-n.ensures)) (omega (arith, c.min-n.ensures)) in
    let two : c.if-eq.value ≡ (A && B) = elim c.if-eq.branch [
      | then-eq w ↦ and_then B one w.if-eq.true (w.value-is ∙ w.eq-then-eq.ensures ∙ first_same eqb 0 n a.unfinished b.unfinished (omega (arith, c.min-n.ensures)) (omega (arith, c.min-n.ensures)))
      | else-eq w ↦ and_else B one w.if-eq.false w.value-is
    ] in
    let three : c.if-eq-2.value ≡ (A && B && C) = elim c.if-eq-2.branch [
      | then-eq-2 w ↦ and_then C two w.if-eq-2.true (w.value-is ∙ w.eq-then-eq-2.ensures ∙ first_same eqb 0 n a.unlinked b.unlinked (omega (arith, c.min-n.ensures)) (omega (arith, c.min-n.ensures)))
      | else-eq-2 w ↦ and_else C two w.if-eq-2.false w.value-is
    ] in
    let four : c.if-eq-3.value ≡ (A && B && C && D) = elim c.if-eq-3.branch [
      | then-eq-3 w ↦ and_then D three w.if-eq-3.true (w.value-is ∙ w.eq-then-eq-3.ensures ∙ first_same eqb 0 n a.pending b.pending (omega (arith, c.min-n.ensures)) (omega (arith, c.min-n.ensures)))
      | else-eq-3 w ↦ and_else D three w.if-eq-3.false w.value-is
    ] in
    let five : c.if-eq-4.value ≡ (A && B && C && D && E) = elim c.if-eq-4.branch [
      | then-eq-4 w ↦ and_then E four w.if-eq-4.true (w.value-is ∙ w.same_slots.ensures)
      | else-eq-4 w ↦ and_else E four w.if-eq-4.false w.value-is
    ] in
    let F : Bool = same_slots a.behind b.behind a.pending n in
    rw (← c.min-n.ensures) (simp and_assoc at (and_else F five c.if-same_slots.false refl))
