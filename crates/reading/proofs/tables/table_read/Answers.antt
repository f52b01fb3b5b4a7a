-- `table_read` meets its contract.
use Rattle.std.proofs.Common.{ℕ, List, length, Bor, refl, sym, ◌∙◌, ap, arith}
use borrow.Author.Tests.{le-leb, lt-leb}
use Rattle.std.proofs.lemmas.Result.{err_from_is_err_and}
use Rattle.theorems.proofs.Formed.{within_limits}
use Rattle.rules.proofs.Outcomes.{told}
use Rattle.format.specs.Keys as Keys
use Rattle.format.specs.Keys.{keys}
use Rattle.schedule.specs.Limits as Limits
use Rattle.format.specs.Reading.{Place, Outcome, done, ◌and_then◌, graphs_from, ended, read_of}
use Rattle.table.specs.declared.Table.{Table as Memory}
use Rattle.lines.specs.Numbered.{map_outcome, place_of, stands, three_lines}
use Rattle.lines.proofs.NumberedLaws.{three_holds}
use Rattle.reading.specs.Memory.{with_graphs}
use Rattle.reading.proofs.Graphs.{table_three, ended_map, ended_alike}
use Rattle.reading.proofs.tables.table_read.Goals as goal

-- reading goes on behind the graphs
abbrev go_on : Outcome Memory → Outcome Memory
go_on x = x and_then (λ m p. ended m p p.bytes)

pub returns-then-s : goal.returns-then-s
unfolding read_of
returns-then-s c =
    let s = c.args.s.now in
    rw (lt-leb (length s) (Limits.table_bytes).to (omega arith))

pub returns-in_err-head : goal.returns-in_err-head
unfolding read_of
returns-in_err-head c =
    let s = c.args.s.now in
    let P : Place = record { line = 1; bytes = s } in
    let p = err_from_is_err_and c.from_residual.result c.from_residual.ensures.1 in
    let e = c.in_err-head.ensures.read.came ∙ ap (three_lines Keys.processors Keys.rounds Keys.graphs 0) c.new-lines.ensures.place in
    rw (p.1, p.2, le-leb (length s) (Limits.table_bytes).to (omega arith), table_three P, ← e)

pub graphs_at-requires : goal.graphs_at-requires
unfolding keys
graphs_at-requires c =
    let w = told _ (sym c.in_ok-head.ensures.read.came) (three_holds Keys.processors Keys.rounds Keys.graphs 0 (stands c.new-lines.result) refl) in
    let l = within_limits Limits.graphs c.in_ok-head.head.third w.0 in
    let g = ap (λ (m : Memory). m.graphs) c.empty-none.ensures in
    let n = ap (λ (m : Memory). m.nodes) c.empty-none.ensures in
    (omega (arith, l.1), omega arith)

pub returns-in_err-t : goal.returns-in_err-t
unfolding read_of
returns-in_err-t c =
    let s = c.args.s.now in
    let P : Place = record { line = 1; bytes = s } in
    let h = c.in_ok-head.head in
    let Q = stands c.three.new.self in
    let p = err_from_is_err_and c.from_residual-in_err-t.result c.from_residual-in_err-t.ensures.1 in
    let e = c.in_ok-head.ensures.read.came ∙ ap (three_lines Keys.processors Keys.rounds Keys.graphs 0) c.new-lines.ensures.place in
    let g = c.in_err-t.ensures.came ∙ ap (λ (m : Memory). map_outcome (with_graphs m) (graphs_from m.nodes h.third Q)) c.empty-none.ensures in
    rw (p.1, p.2, le-leb (length s) (Limits.table_bytes).to (omega arith), table_three P, ← e)
    (ap go_on g ∙ sym (ended_map h.first h.second (graphs_from 0 h.third Q)))

pub returns-in_err-end : goal.returns-in_err-end
unfolding read_of
returns-in_err-end c =
    let s = c.args.s.now in
    let P : Place = record { line = 1; bytes = s } in
    let h = c.in_ok-head.head in
    let t = c.in_ok-t.t in
    let Q = stands c.three.new.self in
    let p = err_from_is_err_and c.from_residual-in_err-end.result c.from_residual-in_err-end.ensures.1 in
    let e = c.in_ok-head.ensures.read.came ∙ ap (three_lines Keys.processors Keys.rounds Keys.graphs 0) c.new-lines.ensures.place in
    let g = c.in_ok-t.ensures.came ∙ ap (λ (m : Memory). map_outcome (with_graphs m) (graphs_from m.nodes h.third Q)) c.empty-none.ensures in
    rw (p.1, p.2, le-leb (length s) (Limits.table_bytes).to (omega arith), table_three P, ← e)
    (ap (map_outcome (λ (u : Unit {0}). t)) c.in_err-end.ensures.came ∙ sym (ended_alike t (stands c.graphs_at.new.lines)) ∙ ap go_on g
    ∙ sym (ended_map h.first h.second (graphs_from 0 h.third Q)))

pub returns : goal.returns
unfolding read_of
returns c =
    let s = c.args.s.now in
    let P : Place = record { line = 1; bytes = s } in
    let h = c.in_ok-head.head in
    let t = c.in_ok-t.t in
    let Q = stands c.three.new.self in
    let e = c.in_ok-head.ensures.read.came ∙ ap (three_lines Keys.processors Keys.rounds Keys.graphs 0) c.new-lines.ensures.place in
    let g = c.in_ok-t.ensures.came ∙ ap (λ (m : Memory). map_outcome (with_graphs m) (graphs_from m.nodes h.third Q)) c.empty-none.ensures in
    let same = c.in_ok-t.ensures.text ∙ c.in_ok-head.ensures.read.text ∙ c.new-lines.ensures.text in
    rw (le-leb (length s) (Limits.table_bytes).to (omega arith), table_three P, ← e)
    (ap (λ (b : Bor (List ℕ)). done t (place_of b.now c.graphs_at.new.lines.place)) (sym same)
    ∙ ap (map_outcome (λ (u : Unit {0}). t)) c.in_ok-end.ensures.came ∙ sym (ended_alike t (stands c.graphs_at.new.lines)) ∙ ap go_on g
    ∙ sym (ended_map h.first h.second (graphs_from 0 h.third Q)))
