-- The fresh ledger is in step with the schedule at instant 0.
use mathlib.Core.Path.{◌≡◌, refl, sym, ◌∙◌}
use mathlib.Core.List.{List}
use Prim.Native.Nat.{ℕ, ◌<◌}
use native.Mathlib.Omega.{arith}
use lib.ListN.{length, length-replicate, get_or-replicate}
use Rattle.schedule.specs.Servers.{Server, srv, Box, whole}
use Rattle.schedule.specs.ServerJobs.{released_before}
use Rattle.schedule.specs.Walk.{figure}
use Rattle.theorems.proofs.InTurn.{completed, completed_le}
use Rattle.theorems.proofs.LinkRows.{linked_zero}
use Rattle.theorems.proofs.Linking.{link_of}
use Rattle.window.specs.declared.Plan.{Plan}
use Rattle.window.specs.Entries.{places}
use Rattle.ledger.specs.Entries.{slots}
use Rattle.ledgerlaws.proofs.Relation.{Laid, InStep}
use Rattle.ledger.specs.Walking.{fresh}

none_before : (s : Server) → released_before s 0 ≡ 0
unfolding released_before
none_before s = refl

no_figure : (X : Box) (need : ℕ → ℕ → ℕ) (i : ℕ) → figure X need i 0 ≡ 0
unfolding figure
no_figure X need i = refl

pub fresh_in_step : (X : Box) (plan : Plan) (offsets : List ℕ) → Laid X plan offsets → InStep X 0 fresh
fresh_in_step X plan offsets laid =
    record {
      sized =
          record {
            released = length-replicate {A = ℕ} places 0;
            complete = length-replicate {A = ℕ} places 0;
            linked = length-replicate {A = ℕ} places 0;
            finished = length-replicate {A = ℕ} places 0;
            worst = length-replicate {A = ℕ} places 0;
            used = length-replicate {A = ℕ} slots 0;
            link = length-replicate {A = ℕ} slots 0;
          };
      row = λ i h.
          let n = none_before (srv X.servers i) in
          let c : completed X.servers X.cap 0 i ≡ 0 = omega (arith, completed_le X.servers X.cap 0 i) in
          let e = get_or-replicate {A = ℕ} places i 0 0 (inside i h) in
          let L = link_of X.servers X.cap (whole X.servers) 0 i in
          rw (n, c, no_figure X (whole X.servers) i)
          (record {
            released = e;
            complete = e;
            linked = e ∙ sym (linked_zero L);
            finished = e ∙ sym (linked_zero L);
            worst = e;
            order = omega arith;
            room = omega arith;
            used = λ k a b. absurd (let x : ⊥ = omega arith in x);
            link = λ k a b. absurd (let x : ⊥ = omega arith in x);
          });
      few = λ i h. omega (arith, none_before (srv X.servers i));
    }
  where
    inside : (i : ℕ) → i < length X.servers → i < places
    inside i h = omega (arith, laid.fits.small)
