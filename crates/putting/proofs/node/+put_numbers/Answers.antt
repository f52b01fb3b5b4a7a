-- `put_numbers` meets its contract: the lowest number, then the others behind its comma; the lowest number rises with each call.
use mathlib.Core.Path.{sym, subst}
use mathlib.Core.List.{List}
use Prim.Native.Nat.{ℕ, ◌+◌, ◌≤◌}
use native.Mathlib.Omega.{arith}
use lib.ListN.{length}
use Rattle.format.specs.Bytes.{comma}
use Rattle.writing.specs.Line.{ended}
use Rattle.writing.proofs.Writing.{apart, named, begins, room, both}
use Rattle.putting.specs.Texts.{list_ended}
use Rattle.putting.proofs.MaskText.{lowest_inside, last_number, more_numbers, next_lowest}
use Rattle.putting.proofs.node.+put_numbers.Goals as goal

pub overflow_add-k : goal.overflow_add-k
overflow_add-k t c =
    let L = c.lowest-k in
    let W = c.without-rest in
    omega (arith, L.ensures, lowest_inside c.args.mask c.requires.0 (omega arith))

pub put_ended-requires : goal.put_ended-requires
put_ended-requires t c =
    let L = c.lowest-k in
    let W = c.without-rest in
    subst (λ (l : List ℕ). length l ≤ length c.args.part.now) (sym (last_number c.args.mask L.result W.result c.requires.0 (omega arith) L.ensures W.ensures c.if-rest-eq0.true)) c.requires.1

pub returns-then-rest-eq0 : goal.returns-then-rest-eq0
returns-then-rest-eq0 t c =
    let L = c.lowest-k in
    let W = c.without-rest in
    named (last_number c.args.mask L.result W.result c.requires.0 (omega arith) L.ensures W.ensures c.if-rest-eq0.true) c.put_ended.ensures

pub overflow_add-k-2 : goal.overflow_add-k-2
overflow_add-k-2 t c =
    let L = c.lowest-k in
    let W = c.without-rest in
    omega (arith, L.ensures, lowest_inside c.args.mask c.requires.0 (omega arith))

pub put_ended-at-requires : goal.put_ended-at-requires
put_ended-at-requires t c =
    let L = c.lowest-k in
    let W = c.without-rest in
    let more = more_numbers c.args.mask L.result W.result c.requires.0 (omega arith) L.ensures W.ensures (omega (arith, c.if-rest-eq0.false)) (omega arith) in
    let fit = apart (ended (L.result + 1) comma) (list_ended W.result) c.args.part.now (subst (λ (l : List ℕ). length l ≤ length c.args.part.now) (sym more) c.requires.1) in
    omega (arith, fit)

pub slice_bounds-put_numbers-count : goal.slice_bounds-put_numbers-count
slice_bounds-put_numbers-count t c =
    let L = c.lowest-k in
    let W = c.without-rest in
    let more = more_numbers c.args.mask L.result W.result c.requires.0 (omega arith) L.ensures W.ensures (omega (arith, c.if-rest-eq0.false)) (omega arith) in
    let fit = apart (ended (L.result + 1) comma) (list_ended W.result) c.args.part.now (subst (λ (l : List ℕ). length l ≤ length c.args.part.now) (sym more) c.requires.1) in
    begins (list_ended W.result) c.put_ended-at.ensures fit

pub put_numbers-requires : goal.put_numbers-requires
put_numbers-requires t c =
    let L = c.lowest-k in
    let W = c.without-rest in
    let more = more_numbers c.args.mask L.result W.result c.requires.0 (omega arith) L.ensures W.ensures (omega (arith, c.if-rest-eq0.false)) (omega arith) in
    let fit = apart (ended (L.result + 1) comma) (list_ended W.result) c.args.part.now (subst (λ (l : List ℕ). length l ≤ length c.args.part.now) (sym more) c.requires.1) in
    let up = next_lowest c.args.mask L.result W.result c.requires.0 (omega arith) L.ensures W.ensures (omega (arith, c.if-rest-eq0.false)) (omega arith) in
    (omega (arith, c.decreases, up, lowest_inside c.args.mask c.requires.0 (omega arith)), (omega (arith, c.if-rest-eq0.false), room (list_ended W.result) c.put_ended-at.ensures fit))

pub overflow_add-result : goal.overflow_add-result
overflow_add-result t c =
    let L = c.lowest-k in
    let W = c.without-rest in
    let more = more_numbers c.args.mask L.result W.result c.requires.0 (omega arith) L.ensures W.ensures (omega (arith, c.if-rest-eq0.false)) (omega arith) in
    let fit = apart (ended (L.result + 1) comma) (list_ended W.result) c.args.part.now (subst (λ (l : List ℕ). length l ≤ length c.args.part.now) (sym more) c.requires.1) in
    omega (arith, c.put_ended-at.ensures.size, c.put_numbers.ensures.size, fit, c.well_formed.0.0)

pub returns : goal.returns
returns t c =
    let L = c.lowest-k in
    let W = c.without-rest in
    let more = more_numbers c.args.mask L.result W.result c.requires.0 (omega arith) L.ensures W.ensures (omega (arith, c.if-rest-eq0.false)) (omega arith) in
    let fit = apart (ended (L.result + 1) comma) (list_ended W.result) c.args.part.now (subst (λ (l : List ℕ). length l ≤ length c.args.part.now) (sym more) c.requires.1) in
    named more (both (list_ended W.result) c.put_ended-at.ensures fit c.put_numbers.ensures)
