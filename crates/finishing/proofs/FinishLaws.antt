-- Finishing: budgets and a window moved down by one slot; the test of the oldest server job.
use mathlib.Core.Path.{◌≡◌, sym, ap, ◌∙◌}
use mathlib.Core.Bool.{Bool, true, false, ◌&&◌}
use mathlib.Core.List.{List}
use Prim.Native.Nat.{ℕ, suc, ◌+◌, ◌-◌, ◌≤◌, ◌<◌}
use native.Mathlib.Omega.{arith}
use lib.ListN.{get_or, set, length}
use Rattle.table.specs.declared.Pending.{Pending}
use Rattle.table.specs.declared.Server.{Server}
use Rattle.window.specs.Entries.{window, no_job, slot_of}
use Rattle.window.specs.Finishing.{shifted}
use Rattle.window.proofs.Loops.{first_replaced}

-- three tests in a row: the last one counts where the others pass
pub last_decides : (a b x : Bool) {f : Bool} → f ≡ (a && b) → f ≡ true → x ≡ (a && (b && x))
last_decides true b x e h = rw (sym e ∙ h)
last_decides false b x e h = let z : false ≡ true = sym e ∙ h in cc

pub others_decide : (a b x : Bool) {f : Bool} → f ≡ (a && b) → f ≡ false → f ≡ (a && (b && x))
others_decide true b x e h = rw (sym e ∙ h) h
others_decide false b x e h = h

-- one budget moved down
abbrev pub moved : ℕ → List ℕ → ℕ → List ℕ
moved base l d = set l (base + d) (get_or l (base + suc d) 0)

-- the window without its oldest, as one move of its slots
pub shifted_is : (s : Server) (u : List Pending) → length s.jobs ≡ window → length u ≡ length s.jobs
    → ((k : ℕ) (d : Pending) → 0 ≤ k → k < 0 + (length s.jobs - 1) → get_or u k d ≡ get_or s.jobs (1 + (k - 0)) d)
    → ((k : ℕ) (d : Pending) → 0 + (length s.jobs - 1) ≤ k → get_or u k d ≡ get_or s.jobs k d)
    → ◌≡◌ {A = Server} (record { jobs = u }) (shifted s)
shifted_is s u all same moved kept =
    ap (λ (j : List Pending). record { jobs = j })
    (first_replaced (λ (d : ℕ). slot_of s (suc d)) s.jobs u (window - 1) no_job same (omega arith)
    (λ k h. moved k no_job (omega arith) (omega arith) ∙ ap (slot_of s) (omega arith)) (λ k h. kept k no_job (omega arith)))
