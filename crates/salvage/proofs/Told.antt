-- The promise to C admits one result.
use mathlib.Core.Path.{◌≡◌, sym, ◌∙◌}
use mathlib.Core.List.{List}
use Prim.Native.Nat.{ℕ}
use Rattle.salvaging.specs.Salvage.{SalvageCall}
use Rattle.salvage.specs.declared.exports.PhalandrixSalvage.{PhalandrixSalvage}
use Rattle.salvage.specs.Told.{Told}

pub one_told : (call : SalvageCall) (a b : PhalandrixSalvage) (t u v w : List ℕ) → Told a t v call → Told b u w call → (a ≡ b) × (t ≡ u) × (v ≡ w)
one_told call a b t u v w e f = (e.answer ∙ sym f.answer, e.text_bytes ∙ sym f.text_bytes, e.list_bytes ∙ sym f.list_bytes)
