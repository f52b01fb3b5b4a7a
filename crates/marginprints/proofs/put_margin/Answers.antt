-- `put_margin` meets its contract, by what the call answered.
use mathlib.Core.Path.{ap}
use mathlib.Core.Bool.{true, false}
use Rattle.std.specs.Prelude.{Err}
use Rattle.margin.specs.declared.answering.MarginRefusal.{MarginRefusal}
use Rattle.margin.specs.Calls.{answer_in, in_limits}
use Rattle.marginprints.proofs.Prints.{text_printed, refused_as}
use Rattle.marginprints.proofs.put_margin.Goals as goal

pub returns-in-Ok : goal.returns-in-Ok
returns-in-Ok c =
    let told = c.in-Ok.ensures.call in
    record { bytes = text_printed c.args.table.now c.args.limits.now _ _ c.requires _ told.call; text = told.text }

pub returns-in-Err-OfTable : goal.returns-in-Err-OfTable
returns-in-Err-OfTable c =
    let is = c.in-Err-OfTable.field-0-is in
    refused_as c.args.table.now c.args.limits.now _ _ c.requires (Err c.in-Err-OfTable.field-0) c.in-Err-OfTable.f false
    (ap (λ (m : MarginRefusal). answer_in (Err m)) is) (ap (λ (m : MarginRefusal). in_limits (Err m)) is) c.in-Err-OfTable.ensures.call _ _
    c.put_refused.ensures

pub returns-in-Err-OfLimits : goal.returns-in-Err-OfLimits
returns-in-Err-OfLimits c =
    let is = c.in-Err-OfLimits.field-0-is in
    refused_as c.args.table.now c.args.limits.now _ _ c.requires (Err c.in-Err-OfLimits.field-0) c.in-Err-OfLimits.f true
    (ap (λ (m : MarginRefusal). answer_in (Err m)) is) (ap (λ (m : MarginRefusal). in_limits (Err m)) is) c.in-Err-OfLimits.ensures.call _ _
    c.put_refused-in-Err-OfLimits.ensures
