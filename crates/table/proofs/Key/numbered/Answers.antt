-- `Key::numbered` meets its contract: a number that is none of the ten is past them.
use Rattle.std.proofs.Common.{◌≡◌, ℕ, ◌+◌, ◌≤◌, sym, arith}
use lib.Arith.{lt_of_le-ne}
use Rattle.format.specs.Keys.{keys}
use Rattle.table.proofs.Key.numbered.Goals as goal

-- a number at or past n that is not n
next : (n k : ℕ) → n ≤ k → (k ≡ n → ⊥) → n + 1 ≤ k
next n k h e = let l = lt_of_le-ne h (λ f. e (sym f)) in omega (arith, l)

pub returns-in_default : goal.returns-in_default
unfolding keys
returns-in_default c =
    let k = c.args.k in
    let h = c.in_default.in_default-own.rest in
    next 9 k (next 8 k (next 7 k (next 6 k (next 5 k (next 4 k (next 3 k (next 2 k (next 1 k (next 0 k (omega arith) h.0.0.0.0.0.0.0.0.0.1) h.0.0.0.0.0.0.0.0.1) h.0.0.0.0.0.0.0.1) h.0.0.0.0.0.0.1) h.0.0.0.0.0.1) h.0.0.0.0.1) h.0.0.0.1) h.0.0.1) h.0.1) h.1
