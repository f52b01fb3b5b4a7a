-- Admission: what reading comes to, then the hyperperiod (5), then the load (6), then whether each node keeps up (12).
use Rattle.std.specs.Prelude.{cond, List, ℕ, leb}
use Rattle.format.specs.declared.Refusal.{Refusal}
use Rattle.format.specs.declared.Refusal.TheVariants.{LongHyperperiod, NotLoadable, CannotKeepUp}
use Rattle.schedule.specs.Limits as Limits
use Rattle.schedule.specs.Table.{Table, hyperperiod, loadable, keeps_up}
use Rattle.format.specs.Reading.{Outcome, done, read_of}

-- what is walked, or refusals 1 to 6 and 12
pub data Admission : Type 0 where
  admitted : Table → Admission
  refused : Refusal → Admission

unfoldable pub admit : Table → Admission
admit T =
    let pace : Admission = cond (keeps_up T) (admitted T) (refused CannotKeepUp) in
    let load : Admission = cond (loadable T) pace (refused NotLoadable) in
    cond (leb (hyperperiod T) (Limits.hyperperiod).to) load (refused LongHyperperiod)

abbrev pub admit_read : Outcome Table → Admission
admit_read (Outcome.refused r) = refused r
admit_read (done T p) = admit T

unfoldable pub admission_of : List ℕ → Admission
admission_of s = admit_read (read_of s)
