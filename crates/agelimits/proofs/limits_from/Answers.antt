-- `limits_from` meets its contract: at each turn the limits after g go behind those that were read.
use Rattle.std.proofs.Common.{◌≡◌, ℕ, take, sym, refl, ◌∙◌, ap, arith, length-set}
use Rattle.std.proofs.lemmas.Result.{err_from_is_err_and}
use Rattle.format.specs.Reading.{done}
use Rattle.lines.specs.Numbered.{stands}
use Rattle.agelimits.proofs.Runs.{limits_all, limits_one, limits_stop, limits_none}
use Rattle.agelimits.proofs.limits_from.Goals as goal

pub loop-g-init : goal.loop-g-init
loop-g-init c = (omega arith, refl, limits_all c.args.n (stands c.args.lines.now))

pub returns-in_err-v : goal.returns-in_err-v
returns-in_err-v c =
    let st = c.loop-g in
    let p = err_from_is_err_and c.from_residual.result c.from_residual.ensures.1 in
    let e = c.in_err-v.ensures.read in
    rw (p.1, p.2)
    (record {
      limits = sym (st.invariant.2 ∙ limits_stop st.limits c.args.n st.g (stands st.lines) (omega arith) _ (sym e.came));
      text = e.text ∙ st.invariant.1;
    })

pub loop-g-preserved : goal.loop-g-preserved
loop-g-preserved c =
    let st = c.loop-g in
    let v = c.in_ok-v.v in
    let e = c.in_ok-v.ensures.read in (
      length-set st.limits st.g v ∙ st.invariant.0,
      e.text ∙ st.invariant.1,
      st.invariant.2 ∙ limits_one st.limits c.args.n st.g (stands st.lines) (omega arith) (omega arith) v (stands c.line.new.self) (sym e.came),
    )

pub returns : goal.returns
returns c =
    let st = c.loop-g in
    let P = stands st.lines in
    let all : st.g ≡ c.args.n = omega arith in
    record {
      limits = sym (st.invariant.2 ∙ limits_none st.limits c.args.n st.g P (omega arith) ∙ ap (λ (k : ℕ). done (take k st.limits) P) all);
      text = st.invariant.1;
    }
