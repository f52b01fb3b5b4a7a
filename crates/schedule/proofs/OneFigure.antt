-- Demand 3 admits one figure: two figures of a graph that are both the least true one are equal. So neither half of the statement is idle.
use mathlib.Core.Path.{◌≡◌}
use Prim.Native.Nat.{ℕ, ◌≤◌, ◌<◌}
use native.Mathlib.Omega.{arith}
use lib.ListN.{length}
use Rattle.schedule.specs.Servers.{srv, Box, whole}
use Rattle.schedule.specs.LeastTrue.{Needs, LeastTrue}

module _ (X : Box) (i : ℕ) (some : (k : ℕ) → k < length X.servers → 1 ≤ (srv X.servers k).budget) where
  -- whole budgets are needs from 1 to the budgets
  whole_needs : Needs X.servers (whole X.servers)
  unfolding whole
  whole_needs = record { some = λ k j h l. some k h; most = λ k j h l. omega arith }

  at_most : (u v f g : ℕ) → LeastTrue X i u f → LeastTrue X i v g → g ≤ f
  at_most u v f g a b =
      let (j, takes) = b.attained in
      let h = takes.no_earlier _ (a.true_for_all (whole X.servers) whole_needs j takes.from) in
      omega arith

  pub least_true_is_one : (u v f g : ℕ) → LeastTrue X i u f → LeastTrue X i v g → f ≡ g
  least_true_is_one u v f g a b = omega (arith, at_most u v f g a b, at_most v u g f b a)
