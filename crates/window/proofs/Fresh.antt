-- The fresh state, whose servers release first at their offsets, is in step with the schedule at instant 0.
use mathlib.Core.Path.{◌≡◌, refl}
use mathlib.Core.List.{List}
use Prim.Native.Nat.{ℕ, ◌<◌}
use native.Mathlib.Nat.{zero-mul}
use native.Mathlib.Omega.{arith}
use lib.ListN.{length, get_or, length-replicate, get_or-replicate}
use Rattle.schedule.specs.Servers.{Server, srv, Box, whole}
use Rattle.schedule.specs.ServerJobs.{released_before}
use Rattle.schedule.specs.Walk.{figure}
use Rattle.theorems.proofs.InTurn.{used_by, completed, completed_le}
use Rattle.theorems.proofs.LinkRows.{linked_zero}
use Rattle.theorems.proofs.Linking.{link_of}
use Rattle.table.specs.Fresh.{no_job, empty_server, no_key, fresh_state}
use Rattle.table.specs.declared.State.{State}
use Rattle.window.specs.declared.Plan.{Plan}
use Rattle.window.specs.Entries.{places, window, slots, no_server, server_at, count_at, unfinished_at}
use Rattle.window.proofs.Relation.{Fits, Row, Sized, InStep}
use Rattle.window.proofs.Instants.{release_next}
use Rattle.window.proofs.Places.{sink_inside}

none_before : (s : Server) → released_before s 0 ≡ 0
unfolding released_before
none_before s = refl

no_figure : (X : Box) (need : ℕ → ℕ → ℕ) (i : ℕ) → figure X need i 0 ≡ 0
unfolding figure
no_figure X need i = refl

module _ (X : Box) (plan : Plan) (fits : Fits X plan) (offsets : List ℕ) (all : length offsets ≡ places)
    (each : (i : ℕ) → i < length X.servers → get_or offsets i 0 ≡ (srv X.servers i).offset) where
  abbrev S : List Server
  S = X.servers

  abbrev st : State
  st = fresh_state offsets

  fresh_server : (i : ℕ) → i < places → server_at st i ≡ empty_server
  fresh_server i h = get_or-replicate places i empty_server no_server h

  -- each of the counts and of the largest responses
  no_number : (i : ℕ) → i < places → count_at st i ≡ 0
  no_number i h = get_or-replicate places i 0 0 h

  fresh_sized : Sized st
  fresh_sized =
      record {
        servers = length-replicate places empty_server;
        jobs = λ i h. rw (fresh_server i h) (length-replicate window no_job);
        left = length-replicate {A = ℕ} slots 0;
        first = length-replicate {A = ℕ} places no_key;
        count = length-replicate {A = ℕ} places 0;
        unfinished = length-replicate {A = ℕ} places 0;
        unlinked = length-replicate {A = ℕ} places 0;
        worst = length-replicate {A = ℕ} places 0;
        next = all;
      }

  fresh_row : (i : ℕ) → i < length S
      → Row (srv S i) i (used_by S X.cap 0 i) (link_of S X.cap (whole S) 0 i) (released_before (srv S i) 0) (completed S X.cap 0 i)
      (figure X (whole S) i 0) st
  fresh_row i h =
      let inside : i < places = omega (arith, fits.small) in
      let n = none_before (srv S i) in
      let c : completed S X.cap 0 i ≡ 0 = omega (arith, completed_le S X.cap 0 i) in
      let e = no_number i inside in
      let links = link_of S X.cap (whole S) 0 i in
      rw (n, c, no_figure X (whole S) i)
      (record {
        count = omega arith;
        room = omega arith;
        left = λ d l. absurd (let x : ⊥ = omega arith in x);
        slots = λ d l. absurd (let x : ⊥ = omega arith in x);
        first = λ l. absurd (let x : ⊥ = omega arith in x);
        idle = λ _. get_or-replicate places i no_key 0 inside;
        unfinished = omega (arith, linked_zero links);
        unlinked = omega (arith, linked_zero links);
        worst = e;
        next = omega (arith, each i h, release_next (srv S i) 0, zero-mul (srv S i).period);
      })

  pub fresh_in_step : InStep X 0 st
  fresh_in_step =
      record {
        sized = fresh_sized;
        row = fresh_row;
        sinks = λ i m.
            let h = sink_inside X plan fits i m in
            let e : unfinished_at st i ≡ 0 = no_number i (omega (arith, fits.small)) in
            omega arith;
      }
