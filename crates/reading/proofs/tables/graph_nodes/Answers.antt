-- `graph_nodes` meets its contract.
use Rattle.std.proofs.Common.{ℕ, ◌-◌, refl, sym, ◌∙◌, ap, arith}
use Rattle.std.proofs.lemmas.Result.{err_from_is_err_and}
use Rattle.rules.proofs.Outcomes.{told}
use Rattle.rules.proofs.ReadWellFormed.{nodes_holds}
use Rattle.format.specs.declared.Refusal.TheVariants.{OutsideLimits}
use Rattle.format.specs.Reading.{refused, nodes_from}
use Rattle.lines.specs.Numbered.{map_outcome, came_to, stands}
use Rattle.reading.specs.Memory.{with_graph}
use Rattle.reading.specs.Outcomes.{taken}
use Rattle.reading.proofs.Graphs.{nodes_over, nodes_refused, nodes_done, ended_graph_lem}
use Rattle.reading.proofs.Images.{image_done, image_refused}
use Rattle.reading.proofs.tables.graph_nodes.Goals as goal

pub returns-then-t-n-gt-SERVERS : goal.returns-then-t-n-gt-SERVERS
returns-then-t-n-gt-SERVERS c =
    let t = c.args.t in
    let h = c.args.head in
    let P = stands c.args.lines.now in
    record {
      came = ap (λ (k : ℕ). refused (OutsideLimits (P.line - 1) k)) c.value_column-column.ensures
          ∙ sym (ap (map_outcome (with_graph t)) (nodes_over t.nodes h.first h.second h.third (P.line - 1) P (omega arith)));
      text = refl;
    }

pub returns-in_err-taken : goal.returns-in_err-taken
returns-in_err-taken c =
    let t = c.args.t in
    let h = c.args.head in
    let P = stands c.args.lines.now in
    let p = err_from_is_err_and c.from_residual.result c.from_residual.ensures.1 in
    let e = c.in_err-taken.ensures in
    rw (p.1, p.2)
    (record {
      came = sym (ap (map_outcome (with_graph t))
          (nodes_refused t.nodes h.first h.second h.third (P.line - 1) P (omega arith) _ (image_refused (taken t.node t.nodes 0) (nodes_from 1 h.third P) _ e.came)));
      text = e.text;
    })

pub returns : goal.returns
returns c =
    let t = c.args.t in
    let h = c.args.head in
    let P = stands c.args.lines.now in
    let Q = stands c.nodes_at.new.lines in
    let e = c.in_ok-taken.ensures in
    let (xs, d, f) = image_done (taken t.node t.nodes 0) (nodes_from 1 h.third P) c.in_ok-taken.taken Q e.came in
    let w = told _ d (nodes_holds 1 h.third P) in
    record {
      came = ap (came_to Q) c.graph_ended.ensures ∙ ended_graph_lem t h xs c.in_ok-taken.taken w.1 f (omega arith) w.0 Q
          ∙ sym (ap (map_outcome (with_graph t)) (nodes_done t.nodes h.first h.second h.third (P.line - 1) P (omega arith) xs Q d));
      text = e.text;
    }
