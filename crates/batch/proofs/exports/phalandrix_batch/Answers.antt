-- `phalandrix_batch` meets its contract, by the test of the lengths.
use mathlib.Core.Path.{◌≡◌, refl, sym, ◌∙◌}
use mathlib.Core.Bool.{true, false}
use Rattle.batch.proofs.TrueBatches.{told_together, told_refused, true_together, true_refused, add_up_says}
use Rattle.batch.proofs.exports.phalandrix_batch.Goals as goal

pub returns-then-not-is_batch : goal.returns-then-not-is_batch
returns-then-not-is_batch c =
    let no : c.is_batch.result ≡ false = c.if-not-is_batch.true in
    let e = sym c.is_batch.ensures ∙ no in
    let s = c.args.tables.now in
    let ls = c.args.lengths.now in
    let b = c.args.buffer.now in
    record { call = told_refused s ls b c.from.result _ e c.from.ensures refl; least_true = true_refused s ls b c.from.result b c.from.ensures }

pub shared_out-requires : goal.shared_out-requires
shared_out-requires c =
    let yes : c.is_batch.result ≡ true = c.if-not-is_batch.false in
    let r = add_up_says c.args.tables.now c.args.lengths.now (sym c.is_batch.ensures ∙ yes) in
    record { in_bounds = r.0; lengths_value = r.1 }

pub returns : goal.returns
returns c =
    let yes : c.is_batch.result ≡ true = c.if-not-is_batch.false in
    let s = c.args.tables.now in
    let ls = c.args.lengths.now in
    let b = c.args.buffer.now in
    record { call = told_together s ls b c.shared_out.result _ (sym c.is_batch.ensures ∙ yes) c.shared_out.ensures; least_true = true_together s ls b c.shared_out.result _ c.shared_out.ensures }
