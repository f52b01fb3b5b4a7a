-- What a loop that writes numbers comes to: at each index below n that passes, one number written at the place named for it.
use Rattle.std.specs.Prelude.{Bool, true, cond, List, ℕ, zero, suc, ◌+◌, ◌*◌, set}
use Rattle.ledger.specs.Entries.{room}

unfoldable pub changed : (p : ℕ → Bool) → (at val : ℕ → ℕ) → List ℕ → ℕ → List ℕ
changed p at val xs zero = xs
changed p at val xs (suc n) = cond (p n) (set (changed p at val xs n) (at n) (val n)) (changed p at val xs n)

-- the first `count i` entries of each place i below n written
unfoldable pub blocks : (val : ℕ → ℕ → ℕ) → (count : ℕ → ℕ) → List ℕ → ℕ → List ℕ
blocks val count xs zero = xs
blocks val count xs (suc i) = changed (λ (d : ℕ). true) (λ (d : ℕ). i * room + d) (val i) (blocks val count xs i) (count i)
