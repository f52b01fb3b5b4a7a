-- Repetition: where the states agree at two instants a hyperperiod apart, at or after the first boundary, every tick from there on is
-- repeated a hyperperiod later, with server jobs, jobs and links moved on by the periods passed.
use mathlib.Core.Path.{◌≡◌}
use mathlib.Core.Bool.{true}
use mathlib.Core.List.{List}
use Prim.Native.Nat.{ℕ, suc, ◌+◌, ◌-◌, ◌≤◌, ◌<◌}
use native.Mathlib.Omega.{arith}
use lib.Dec.{T}
use lib.ListN.{length}
use Rattle.schedule.specs.Servers.{Server, srv, Box}
use Rattle.schedule.specs.Links.{due_by, finished_by}
use Rattle.schedule.specs.State.{same_state, state_at}
use Rattle.schedule.specs.FarRows.{moved}
use Rattle.schedule.proofs.Tests.{bool_ext}
use Rattle.theorems.proofs.InTurn.{used_by, running, running_ready}
use Rattle.theorems.proofs.Linking.{link_of}
use Rattle.theorems.proofs.Finishing.{finished_is, is_finished}
use Rattle.theorems.proofs.Repeating.{Repeated, Agree, same_running, due_shift, same_links, agree_for_ever}
use Rattle.theorems.proofs.Boundaries.{Sound, agree_at_boundary}

module _ (X : Box) (h : ℕ → ℕ) (need : ℕ → ℕ → ℕ) where
  abbrev S : List Server
  S = X.servers

  abbrev later : ℕ → ℕ
  later t = t + X.hyper

  -- the tick at t a hyperperiod later, when h i periods of server i are passed
  pub record Repeats (t : ℕ) : Type 0 where
    pub runs : (i k : ℕ) → 1 ≤ k → running S X.cap (later t) i (k + h i) ≡ running S X.cap t i k
    pub no_others : (i k : ℕ) → k ≤ h i → T (running S X.cap (later t) i k) → ⊥
    pub ticks : (i k : ℕ) → 1 ≤ k → used_by S X.cap (later t) i (k + h i) ≡ used_by S X.cap t i k
    -- of what runs in the tick, the job linked; 0 stays 0
    pub links : (i k : ℕ) → T (running S X.cap t i k)
        → link_of S X.cap need (suc (later t)) i (k + h i) ≡ moved (h i) (link_of S X.cap need (suc t) i k)
    pub releases : (i j : ℕ) → i < length S → 1 ≤ j → due_by S X.cap need (later t) i (j + h i) ≡ due_by S X.cap need t i j
    pub finishes : (i j : ℕ) → i < length S → 1 ≤ j → finished_by S X.cap need (later t) i (j + h i) ≡ finished_by S X.cap need t i j

  module _ (sound : Sound X h) (again : Repeated S h need) where
    of_agree : (t : ℕ) → X.origin ≤ t → Agree S X.cap X.hyper h need t (later t) → Repeats t
    of_agree t late r =
        record {
          runs = same_running S X.cap X.hyper h sound.periodic sound.graph need again t (later t) offsets r;
          no_others = λ i k o x. let p = (running_ready S X.cap (later t) i k x).pends in omega (arith, p.left, r.done i k p.from o);
          ticks = r.ticks;
          links = λ i k x.
              let p = (running_ready S X.cap t i k x).pends in
              same_links S X.cap X.hyper h sound.periodic sound.graph need again t (later t) offsets r i k p.from p.to p.left;
          releases = due_shift S X.cap X.hyper h sound.periodic sound.graph need again t (later t) offsets r;
          finishes = λ i j l a.
              bool_ext (finished_by S X.cap need (later t) i (j + h i)) (finished_by S X.cap need t i j)
              (λ f. is_finished S X.cap need t i j (r.fin_down i j l a (finished_is S X.cap need (later t) i (j + h i) f)))
              (λ f. is_finished S X.cap need (later t) i (j + h i) (r.fin_up i j l a (finished_is S X.cap need t i j f)));
        }
      where
        offsets : (i : ℕ) → (srv S i).offset ≤ t
        offsets i = omega (arith, sound.offsets i)

    pub repetition : (b : ℕ) → X.origin ≤ b → same_state (state_at X need (later b)) (state_at X need b) ≡ true → (t : ℕ) → b ≤ t → Repeats t
    repetition b late equal t l =
        let e : b + (t - b) ≡ t = omega arith in
        let e' : later b + (t - b) ≡ later t = omega arith in
        of_agree t (omega arith)
        (rw (e, e') at
        (agree_for_ever S X.cap X.hyper h sound.periodic sound.graph need again b (later b) (λ i. omega (arith, sound.offsets i))
        (agree_at_boundary X h sound need again b late equal) (t - b)))
