-- In turn: of one server an earlier server job never has fewer ticks than a later one (the paper's Lemma 29). So server jobs complete in
-- number order, the pending ones are the last ones released, and the ready ones are the first `level` of them (its Lemmas 1, 2 and 11).
use mathlib.Core.Path.{◌≡◌, refl, sym, ap, ◌∙◌}
use mathlib.Core.Bool.{Bool, ◌&&◌}
use mathlib.Core.List.{List}
use mathlib.Core.Logic.{inl, inr}
use Prim.Native.Nat.{ℕ, zero, suc, ◌+◌, ◌-◌, ◌≤◌, ◌<◌, zero-le}
use native.Mathlib.Nat.{le_refl, not-suc-le-zero, le_of_suc-le-suc}
use native.Mathlib.Omega.{arith}
use lib.Dec.{T, leb, ltb, leb→le, ltb→lt, le→leb, lt→ltb}
use lib.ListN.{length, get_or-eq_default}
use Rattle.schedule.specs.Lists.{one?, count, up_to, cell}
use Rattle.schedule.specs.Servers.{Server, no_server, srv}
use Rattle.schedule.specs.ServerJobs.{released, released_before, complete, pending, ready, runs, tick, used}
use Rattle.schedule.proofs.Tests.{and_l, and_r, and_i, either_way, by_lt, dec, true_T, bool_ext, one_le, one_le_one, none_of}
use Rattle.theorems.proofs.Counts.{server_job, count_le, first_pass, pass_first}
use Rattle.schedule.proofs.Cells.{nth_nil, cell_in, cell_out, cell_no_row}
use Rattle.theorems.proofs.Releases.{released_before_le, released_before_one}
use Rattle.theorems.proofs.Ready.{pending_is, is_pending, Ready, ready_is, is_ready_lem, runs_ready, not_running_out, runs_earlier}

module _ (S : List Server) where
  abbrev pub budget_of : ℕ → ℕ
  budget_of i = (srv S i).budget

  pub no_budget : (i : ℕ) → length S ≤ i → budget_of i ≡ 0
  no_budget i l = ap (λ (s : Server). s.budget) (get_or-eq_default S no_server l)

module _ (S : List Server) (cap : ℕ → ℕ) where
  -- the ticks that server job k of server i has used before t, and whether it runs in the tick at t
  abbrev pub used_by : ℕ → ℕ → ℕ → ℕ
  used_by t i k = cell (used S cap t) i k

  abbrev pub running : ℕ → ℕ → ℕ → Bool
  running t i k = runs S (used S cap t) t (cap t) (server_job i k)

  pub running_ready : (t i k : ℕ) → T (running t i k) → Ready S (used S cap t) t i k
  running_ready t i k r = runs_ready S (used S cap t) t (cap t) i k r

  abbrev width : ℕ → ℕ → ℕ
  width t i = released (srv S i) t

  abbrev next : ℕ → ℕ → ℕ → ℕ
  next t i k = used_by t i k + one? (running t i k)

  -- nothing is used by a server job that is not released, or of no server
  pub used_out : (t i k : ℕ) → released_before (srv S i) t < k → used_by t i k ≡ 0
  unfolding used tick released_before
  used_out zero i k h = nth_nil k
  used_out (suc t) i k h = cell_out (length S) (width t) (next t) i k h

  pub used_none : (t i k : ℕ) → length S ≤ i → used_by t i k ≡ 0
  unfolding used tick
  used_none zero i k h = nth_nil k
  used_none (suc t) i k h = cell_no_row (length S) (width t) (next t) i k h

  idle : (t i k a : ℕ) → a ≡ 0 → used_by t i k ≡ 0 → (T (running t i k) → ⊥) → a ≡ used_by t i k + one? (running t i k)
  idle t i k a e z n = e ∙ sym (omega (arith, none_of (running t i k) n))

  -- rule 6, of every number
  pub used_step : (t i k : ℕ) → used_by (suc t) i k ≡ used_by t i k + one? (running t i k)
  unfolding used tick
  used_step t i k =
      by_lt i (length S)
      (λ h. by_lt k 1
      (λ z. idle t i k (used_by (suc t) i k) (at_zero (suc t) k z) (at_zero t k z) (λ r. let p = (running_ready t i k r).pends in omega arith))
      (λ z. by_lt (width t i) k
      (λ w. idle t i k (used_by (suc t) i k) (cell_out (length S) (width t) (next t) i k w)
      (used_out t i k (omega (arith, released_before_le (srv S i) t))) (λ r. let p = (running_ready t i k r).pends in omega arith))
      (λ w. cell_in (length S) (width t) (next t) i k h z w)))
      (λ h. idle t i k (used_by (suc t) i k) (used_none (suc t) i k h) (used_none t i k h) (not_running_out S (used S cap t) t (cap t) i k h))
    where
      at_zero : (t k : ℕ) → k < 1 → used_by t i k ≡ 0
      at_zero t zero z = refl
      at_zero t (suc k) z = absurd (not-suc-le-zero (le_of_suc-le-suc z))

  pub used_le : (t i k : ℕ) → used_by t i k ≤ budget_of S i
  unfolding used
  used_le zero i k = rw (nth_nil k) zero-le
  used_le (suc t) i k =
      rw (used_step t i k)
      (either_way (dec (running t i k))
      (λ e. omega (arith, (running_ready t i k (true_T (running t i k) e)).pends.left, one_le_one (running t i k)))
      (λ e. rw e (omega (arith, used_le t i k))))

  -- Lemma 29
  pub used_falls : (t i j k : ℕ) → 1 ≤ j → j ≤ k → used_by t i k ≤ used_by t i j
  unfolding used
  used_falls zero i j k h g = simp nth_nil (le_refl 0)
  used_falls (suc t) i j k h g =
      rw (used_step t i k, used_step t i j)
      (by_lt (used_by t i k) (used_by t i j) (λ l. omega (arith, one_le_one (running t i k)))
      (λ l. omega (
        arith,
        used_falls t i j k h g,
        one_le (running t i k) (running t i j)
            (runs_earlier S (used S cap t) t (cap t) i j k h g (omega (arith, used_falls t i j k h g)) (used_falls t i)),
      )))

  -- server jobs complete in number order
  pub complete_in_order : (t i j k : ℕ) → 1 ≤ j → j ≤ k → T (complete S (used S cap t) t i k) → T (complete S (used S cap t) t i j)
  unfolding complete
  complete_in_order t i j k a b d =
      le→leb (budget_of S i) (used_by t i j) (omega (arith, leb→le (budget_of S i) (used_by t i k) d, used_falls t i j k a b))

  -- how many server jobs of server i are complete at t
  unfoldable pub completed : ℕ → ℕ → ℕ
  completed t i = count (complete S (used S cap t) t i) (up_to (released_before (srv S i) t))

  pub completed_le : (t i : ℕ) → completed t i ≤ released_before (srv S i) t
  unfolding completed
  completed_le t i = count_le (complete S (used S cap t) t i) (released_before (srv S i) t)

  pub is_complete : (t i k : ℕ) → 1 ≤ k → k ≤ completed t i → budget_of S i ≤ used_by t i k
  unfolding completed complete
  is_complete t i k a b =
      leb→le (budget_of S i) (used_by t i k)
      (first_pass (complete S (used S cap t) t i) (complete_in_order t i) (released_before (srv S i) t) k a b)

  pub not_complete : (t i k : ℕ) → 1 ≤ k → k ≤ released_before (srv S i) t → completed t i < k → used_by t i k < budget_of S i
  unfolding completed complete
  not_complete t i k a b c =
      by_lt (used_by t i k) (budget_of S i) (λ l. l)
      (λ l.
      let full : T (complete S (used S cap t) t i k) = le→leb (budget_of S i) (used_by t i k) l in
      let up = pass_first (complete S (used S cap t) t i) (complete_in_order t i) (released_before (srv S i) t) k a b full in
      absurd (let x : ⊥ = omega arith in x))

  -- a server job that has budget left comes after the complete ones; and those after them that are released have some left
  pub after_complete : (t i k : ℕ) → 1 ≤ k → used_by t i k < budget_of S i → completed t i < k
  after_complete t i k a l = by_lt (completed t i) k (λ z. z) (λ z. absurd (let x : ⊥ = omega (arith, is_complete t i k a z) in x))

  left_after : (t i k : ℕ) → 0 < budget_of S i → completed t i < k → used_by t i k < budget_of S i
  left_after t i k b l =
      by_lt (released_before (srv S i) t) k (λ z. omega (arith, used_out t i k z)) (λ z. not_complete t i k (omega arith) z l)

  -- the pending server jobs are the last ones released
  pub pending_are_last : (t i k : ℕ) → 0 < budget_of S i
      → pending S (used S cap t) t i k ≡ (ltb (completed t i) k && leb k (released (srv S i) t))
  pending_are_last t i k b = bool_ext (pending S (used S cap t) t i k) (ltb c k && leb k n) to from
    where
      c : ℕ
      c = completed t i

      n : ℕ
      n = released (srv S i) t

      to : T (pending S (used S cap t) t i k) → T (ltb c k && leb k n)
      to r =
          let p = pending_is S (used S cap t) t i k r in
          and_i (ltb c k) (leb k n) (lt→ltb c k (after_complete t i k p.from p.left)) (le→leb k n p.to)

      from : T (ltb c k && leb k n) → T (pending S (used S cap t) t i k)
      from w =
          let lo : c < k = ltb→lt c k (and_l (ltb c k) (leb k n) w) in
          is_pending S (used S cap t) t i k
          (record { from = omega arith; to = leb→le k n (and_r (ltb c k) (leb k n) w); left = left_after t i k b lo })

  -- a ready server job is one of the first `level` after the complete ones
  pub ready_within : (t i k : ℕ) → 1 ≤ (srv S i).level → Ready S (used S cap t) t i k
      → (completed t i < k) × (k ≤ completed t i + (srv S i).level)
  ready_within t i k v r = (after_complete t i k r.pends.from r.pends.left, near)
    where
      level : ℕ
      level = (srv S i).level

      far : level < k → completed t i < k - level → used_by t i (k - level) < budget_of S i
      far l w = not_complete t i (k - level) (omega arith) (omega (arith, r.pends.to, released_before_one (srv S i) t)) w

      near : k ≤ completed t i + level
      near =
          either_way r.free (λ z. omega arith)
          (λ z. by_lt level k
          (λ l. by_lt (completed t i) (k - level) (λ w. absurd (let x : ⊥ = omega (arith, far l w) in x)) (λ w. omega arith))
          (λ l. omega arith))

  -- and the ready ones are the first `level` of them
  pub ready_are_first : (t i k : ℕ) → 1 ≤ (srv S i).level → 0 < budget_of S i
      → ready S (used S cap t) t (server_job i k)
      ≡ (ltb (completed t i) k && (leb k (released (srv S i) t) && leb k (completed t i + (srv S i).level)))
  ready_are_first t i k v b = bool_ext (ready S (used S cap t) t (server_job i k)) (ltb c k && (leb k n && leb k (c + level))) to from
    where
      level : ℕ
      level = (srv S i).level

      c : ℕ
      c = completed t i

      n : ℕ
      n = released (srv S i) t

      to : T (ready S (used S cap t) t (server_job i k)) → T (ltb c k && (leb k n && leb k (c + level)))
      to w =
          let r = ready_is S (used S cap t) t i k w in
          let (lo, hi) = ready_within t i k v r in
          and_i (ltb c k) (leb k n && leb k (c + level)) (lt→ltb c k lo)
          (and_i (leb k n) (leb k (c + level)) (le→leb k n r.pends.to) (le→leb k (c + level) hi))

      from : T (ltb c k && (leb k n && leb k (c + level))) → T (ready S (used S cap t) t (server_job i k))
      from w =
          let A = leb k n in
          let B = leb k (c + level) in
          let rest : T (A && B) = and_r (ltb c k) (A && B) w in
          let lo : c < k = ltb→lt c k (and_l (ltb c k) (A && B) w) in
          let in-n : k ≤ n = leb→le k n (and_l A B rest) in
          let hi : k ≤ c + level = leb→le k (c + level) (and_r A B rest) in
          is_ready_lem S (used S cap t) t i k (record { from = omega arith; to = in-n; left = left_after t i k b lo })
          (by_lt level k (λ l. inr (is_complete t i (k - level) (omega arith) (omega arith))) (λ l. inl l))
