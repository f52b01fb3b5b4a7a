-- Proofs by cases: a test is true or false; a binary digit is 0 or 1.
use mathlib.Core.Path.{◌≡◌, refl}
use Prim.Native.Nat.{ℕ, zero, suc, ◌<◌}
use native.Mathlib.Omega.{arith}
pub use Rattle.schedule.proofs.Tests.{by_test}

pub by_digit : {C : Type 0} (x : ℕ) → x < 2 → (x ≡ 0 → C) → (x ≡ 1 → C) → C
by_digit zero h f g = f refl
by_digit (suc zero) h f g = g refl
by_digit (suc (suc x)) h f g = absurd (omega arith)
