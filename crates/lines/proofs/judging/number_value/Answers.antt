-- `number_value` meets its contract: a number kept at far is judged as the number itself is.
use mathlib.Core.Bool.{Bool}
use mathlib.Core.Path.{◌∙◌, ap}
use Prim.Native.Nat.{ℕ}
use lib.ListN.{drop}
use Rattle.format.specs.Keys.{key_at}
use Rattle.format.specs.Spelling.{number}
use Rattle.schedule.specs.WellFormed.{within}
use Rattle.lines.specs.Lines.{judge_by, same, always, closed}
use Rattle.scanning.specs.Positions.{kept}
use Rattle.scanning.proofs.Images.{image_read}
use Rattle.lines.proofs.KeyLaws.{limit_near}
use Rattle.lines.proofs.LineLaws.{closed_number}
use Rattle.lines.proofs.judging.number_value.Goals as goal

pub returns : goal.returns
returns g c =
    let v = c.in_ok-v.v in
    let rest = drop c.in_ok-v.p c.args.s.now in
    let range = (key_at (g.K.Keyed.key_number c.args.k)).range in
    let (w, e, f) = image_read kept (number (drop c.args.at c.args.s.now)) v rest c.in_ok-v.ensures in
    rw e
    (c.closed_at.ensures ∙ ap (λ (b : Bool). judge_by same (always b) (drop c.args.at c.args.s.now) (closed v rest)) c.is_within.ensures
    ∙ ap (λ (x : ℕ). judge_by same (always (within range x)) (drop c.args.at c.args.s.now) (closed x rest)) f ∙ closed_number range w (drop c.args.at c.args.s.now) rest (limit_near (g.K.Keyed.key_number c.args.k)))
