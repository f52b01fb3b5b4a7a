-- `list_value` meets its contract: what is known of the list stands for the list.
use mathlib.Core.Bool.{Bool}
use mathlib.Core.Path.{◌∙◌, ap}
use mathlib.Core.List.{List}
use Prim.Native.Nat.{ℕ}
use lib.ListN.{drop}
use Rattle.format.specs.Spelling.{list}
use Rattle.format.specs.Reading.{offending}
use Rattle.table.specs.declared.Range.{Range}
use Rattle.lines.specs.Lines.{judge_by, same, always, predecessors, closed}
use Rattle.scanning.specs.Masks.{listing, in_order}
use Rattle.scanning.specs.Positions.{map_scan}
use Rattle.scanning.specs.declared.lists.Listing.{Listing}
use Rattle.scanning.proofs.Images.{image_read}
use Rattle.lines.proofs.LineLaws.{closed_list, fair_alike}
use Rattle.std.proofs.Common.{false, sym}
use Rattle.lines.proofs.judging.list_value.Goals as goal

pub returns-then-in_order : goal.returns-then-in_order
returns-then-in_order c =
    let l = c.in_ok-l.l in
    let rest = drop c.in_ok-l.p c.args.s.now in
    let g = c.in_ok-l.ensures ∙ ap (λ (r : Range). map_scan (listing r c.args.own) (list (drop c.args.at c.args.s.now))) c.range-range.ensures in
    let fault = offending c.args.own (drop c.args.at c.args.s.now) in
    let (w, e, f) = image_read (listing predecessors c.args.own) (list (drop c.args.at c.args.s.now)) l rest g in
    let all = ap (λ (m : Listing). judge_by same (always (in_order c.args.own m)) fault (closed m.mask rest)) f ∙ closed_list c.args.own w fault rest in
    rw e
    (c.closed_at.ensures ∙ fair_alike (drop c.args.at c.args.s.now) fault (closed l.mask rest)
    ∙ ap (λ (b : Bool). judge_by same (always b) fault (closed l.mask rest)) (sym c.if-in_order.true ∙ c.in_order.ensures) ∙ all)

pub returns-else-in_order : goal.returns-else-in_order
returns-else-in_order c =
    let l = c.in_ok-l.l in
    let rest = drop c.in_ok-l.p c.args.s.now in
    let g = c.in_ok-l.ensures ∙ ap (λ (r : Range). map_scan (listing r c.args.own) (list (drop c.args.at c.args.s.now))) c.range-range.ensures in
    let fault = offending c.args.own (drop c.args.at c.args.s.now) in
    let (w, e, f) = image_read (listing predecessors c.args.own) (list (drop c.args.at c.args.s.now)) l rest g in
    let all = ap (λ (m : Listing). judge_by same (always (in_order c.args.own m)) fault (closed m.mask rest)) f ∙ closed_list c.args.own w fault rest in
    rw e
    (c.closed_at-else-in_order.ensures
    ∙ ap (λ (z : List ℕ). judge_by same (always false) z (closed l.mask rest)) c.fault_at.ensures
    ∙ ap (λ (b : Bool). judge_by same (always b) fault (closed l.mask rest)) (sym c.if-in_order.false ∙ c.in_order.ensures) ∙ all)
