-- No more server jobs are chosen than there are processors.
use Prim.Native.Nat.{ℕ, zero, suc, ◌≤◌}
use mathlib.Core.List.{List}
use native.Mathlib.Omega.{arith}
use lib.Dec.{eqb}
use Rattle.schedule.proofs.Tests.{by_test}
use Rattle.window.specs.declared.Plan.{Plan}
use Rattle.window.specs.Entries.{last_key, nodes_of}
use Rattle.window.specs.Choosing.{Picks, best_of, picks, no_run, no_at, chosen_by}

module _ (first count level step : List ℕ) (n : ℕ) (run at : List ℕ) where
  pub picks_most : (m : ℕ) → (picks first count level step n run at m).count ≤ m
  unfolding picks
  picks_most zero = omega arith
  picks_most (suc m) =
      let c : Picks = picks first count level step n run at m in
      by_test (eqb (best_of first count level step n c) last_key)
      (λ t. rw t (omega (arith, picks_most m)))
      (λ t. rw t (omega (arith, picks_most m)))

pub picks_few : (first count : List ℕ) (plan : Plan) → (chosen_by plan first count).count ≤ plan.processors
picks_few first count plan = picks_most first count plan.level plan.step (nodes_of plan) no_run no_at plan.processors
