-- The worked cases hold, by computation.
use mathlib.Core.Path.{◌≡◌, refl}
use mathlib.Core.List.{List, map}
use Prim.Native.Nat.{ℕ}
use Rattle.format.specs.declared.Refusal.TheVariants.{TooLong}
use Rattle.salvaging.specs.Salvage.{left, refused, salvage_of, salvage_call}
use Rattle.salvaging.specs.Cases.{Mending, mendings, too_long, CallCase, call_cases, lent}
use Rattle.salvaging.proofs.Computing.{salvaging}

pub mendings_hold : map (λ (c : Mending). salvage_of c.given) mendings ≡ map (λ (c : Mending). left c.text c.fixes) mendings
unfolding salvaging mendings
mendings_hold = refl

pub too_long_hold : map salvage_of too_long ≡ map (λ (s : List ℕ). refused TooLong) too_long
unfolding salvaging too_long
too_long_hold = refl

pub calls_hold : map (λ (c : CallCase). salvage_call c.given (lent c.text_room) (lent c.list_room)) call_cases ≡ map (λ (c : CallCase). c.gives) call_cases
unfolding salvaging call_cases
calls_hold = refl
