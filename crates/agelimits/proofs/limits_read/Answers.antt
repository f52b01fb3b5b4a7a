-- `limits_read` meets its contract.
use Rattle.std.proofs.Common.{ℕ, List, length, take, Bor, sym, ◌∙◌, ap, arith}
use borrow.Author.Tests.{le-leb, lt-leb}
use Rattle.std.proofs.lemmas.Result.{err_from_is_err_and}
use Rattle.schedule.specs.Limits as Limits
use Rattle.format.specs.Reading.{Outcome, done, ◌and_then◌, ended}
use Rattle.lines.specs.Numbered.{map_outcome, place_of, stands}
use Rattle.margins.specs.Margins.{limits_from, limits_of}
use Rattle.reading.proofs.Graphs.{ended_alike}
use Rattle.agelimits.proofs.limits_read.Goals as goal

-- reading goes on behind the limits
abbrev go_on : Outcome (List ℕ) → Outcome (List ℕ)
go_on x = x and_then (λ vs p. ended vs p p.bytes)

pub returns-then-s : goal.returns-then-s
unfolding limits_of
returns-then-s c =
    let s = c.args.s.now in
    rw (lt-leb (length s) (Limits.limit_bytes).to (omega arith))

pub returns-in_err-limits : goal.returns-in_err-limits
unfolding limits_of
returns-in_err-limits c =
    let s = c.args.s.now in
    let p = err_from_is_err_and c.from_residual.result c.from_residual.ensures.1 in
    let e = c.in_err-limits.ensures.limits ∙ ap (limits_from c.args.n) c.new-lines.ensures.place in
    rw (p.1, p.2, le-leb (length s) (Limits.limit_bytes).to (omega arith)) (ap go_on e)

pub returns-in_err-end : goal.returns-in_err-end
unfolding limits_of
returns-in_err-end c =
    let s = c.args.s.now in
    let vs = take c.args.n c.in_ok-limits.limits in
    let p = err_from_is_err_and c.from_residual-in_err-end.result c.from_residual-in_err-end.ensures.1 in
    let e = c.in_ok-limits.ensures.limits ∙ ap (limits_from c.args.n) c.new-lines.ensures.place in
    rw (p.1, p.2, le-leb (length s) (Limits.limit_bytes).to (omega arith))
    (ap (map_outcome (λ (u : Unit {0}). vs)) c.in_err-end.ensures.came ∙ sym (ended_alike vs (stands c.limits_from.new.lines)) ∙ ap go_on e)

pub returns : goal.returns
unfolding limits_of
returns c =
    let s = c.args.s.now in
    let vs = take c.args.n c.in_ok-limits.limits in
    let e = c.in_ok-limits.ensures.limits ∙ ap (limits_from c.args.n) c.new-lines.ensures.place in
    let same = c.in_ok-limits.ensures.text ∙ c.new-lines.ensures.text in
    rw (le-leb (length s) (Limits.limit_bytes).to (omega arith))
    (ap (λ (b : Bor (List ℕ)). done vs (place_of b.now c.limits_from.new.lines.place)) (sym same)
    ∙ ap (map_outcome (λ (u : Unit {0}). vs)) c.in_ok-end.ensures.came ∙ sym (ended_alike vs (stands c.limits_from.new.lines)) ∙ ap go_on e)
