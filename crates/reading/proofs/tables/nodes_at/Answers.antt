-- `nodes_at` meets its contract: at each turn the nodes behind the first i go into the entries from first + i on.
use Rattle.std.proofs.Common.{◌+◌, ◌-◌, set, bit_or, sym, ◌∙◌, ap, arith}
use Rattle.std.proofs.lemmas.Result.{err_from_is_err_and}
use Rattle.format.specs.Reading.{node, nodes_from}
use Rattle.table.specs.declared.Node.{Node as Row}
use Rattle.lines.specs.Numbered.{map_outcome, stands}
use Rattle.reading.specs.Memory.{coded_node}
use Rattle.reading.specs.Outcomes.{taken}
use Rattle.reading.proofs.Images.{image_done, image_refused}
use Rattle.reading.proofs.Runs.{nodes_one, nodes_stop, nodes_none}
use Rattle.reading.proofs.tables.nodes_at.Goals as goal

pub returns-in_err-x : goal.returns-in_err-x
returns-in_err-x c =
    let st = c.loop-i in
    let a = c.args in
    let P = stands st.lines in
    let p = err_from_is_err_and c.from_residual.result c.from_residual.ensures.1 in
    let e = c.in_err-x.ensures in
    rw (p.1, p.2)
    (record {
      came = sym (st.invariant.1 ∙ nodes_stop st.list a.first st.named a.n st.i P (omega arith) _ (image_refused coded_node (node (st.i + 1) P) _ e.came));
      text = e.text ∙ st.invariant.0;
    })

pub loop-i-preserved : goal.loop-i-preserved
loop-i-preserved c =
    let st = c.loop-i in
    let a = c.args in
    let P = stands st.lines in
    let Q = stands c.node_at.new.lines in
    let e = c.in_ok-x.ensures in
    let (w, d, f) = image_done coded_node (node (st.i + 1) P) c.in_ok-x.x Q e.came in (
      e.text ∙ st.invariant.0,
      st.invariant.1 ∙ nodes_one st.list a.first st.named a.n st.i P (omega arith) w Q d
          ∙ ap (λ (z : Row). map_outcome (taken (set st.list (a.first + st.i) z) (a.first + (st.i + 1)) (bit_or st.named z.after)) (nodes_from (st.i + 1 + 1) (a.n - (st.i + 1)) Q)) (sym f),
    )

pub returns : goal.returns
returns c =
    let st = c.loop-i in
    let a = c.args in
    record {
      came = sym (st.invariant.1 ∙ nodes_none st.list a.first st.named a.n st.i (stands st.lines) (omega arith));
      text = st.invariant.0;
    }
