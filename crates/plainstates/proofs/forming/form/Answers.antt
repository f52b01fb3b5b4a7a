-- `form` meets its contract. The loop keeps: the state of the first i places.
use Rattle.plainstates.proofs.StateLaws.{form_start, form_more, form_all}
use Rattle.plainstates.proofs.forming.form.Goals as goal

pub loop-i-init : goal.loop-i-init
loop-i-init c = form_start c.args.plan.now c.args.offsets.now c.args.l.now c.args.t c.blank_state-f.ensures

pub loop-i-preserved : goal.loop-i-preserved
loop-i-preserved c =
    form_more c.args.plan.now c.args.offsets.now c.args.l.now c.args.t c.loop-i.i c.loop-i.invariant c.phase_of.ensures c.saturating_sub.ensures c.saturating_sub-in-loop-i.ensures
    c.pending.ensures c.form_left.ensures c.form_behind.ensures

pub returns : goal.returns
returns c =
    form_all c.args.plan.now c.args.offsets.now c.args.l.now c.args.t c.min-i-end.result c.loop-i.i c.min-i-end.ensures c.loop-i.invariant c.loop-i.auto.i-end c.loop-i-test.false
