-- The relation between the plain engine's ledger and the schedule of the rules, nearly an equation: `InStep`, before the releases of an instant;
-- `Released`, after them; `Ran`, after its tick. Each operation of the engine has one lemma that it keeps the relation.
use mathlib.Core.Path.{◌≡◌}
use mathlib.Core.List.{List}
use Prim.Native.Nat.{ℕ, suc, ◌+◌, ◌≤◌, ◌<◌}
use lib.ListN.{length}
use Rattle.schedule.specs.Servers.{srv, Box, whole}
use Rattle.schedule.specs.ServerJobs.{released, released_before}
use Rattle.schedule.specs.Walk.{figure}
use Rattle.theorems.proofs.InTurn.{used_by, completed}
use Rattle.theorems.proofs.Linking.{link_of}
use Rattle.theorems.proofs.LinkRows.{linked_up_to}
use Rattle.window.specs.declared.Plan.{Plan}
use Rattle.window.specs.Entries.{places, window}
use Rattle.window.proofs.Relation.{Fits}
use Rattle.ledger.specs.declared.Ledger.{Ledger}
use Rattle.ledger.specs.Entries as Entries
use Rattle.ledger.specs.Entries.{offset_at, released_at, complete_at, linked_at, finished_at, worst_at, used_at, link_at}

-- the plan and the offsets are the rules' servers, and a server job's priority is its deadline
pub record Laid (X : Box) (plan : Plan) (offsets : List ℕ) : Type 0 where
  pub fits : Fits X plan
  pub offset : (i : ℕ) → i < length X.servers → offset_at offsets i ≡ (srv X.servers i).offset
  pub point : (i : ℕ) → i < length X.servers → (srv X.servers i).point ≡ (srv X.servers i).period

-- the lists of a ledger have their lengths
pub record Sized (l : Ledger) : Type 0 where
  pub released : length l.released ≡ places
  pub complete : length l.complete ≡ places
  pub linked : length l.linked ≡ places
  pub finished : length l.finished ≡ places
  pub worst : length l.worst ≡ places
  pub used : length l.used ≡ Entries.slots
  pub link : length l.link ≡ Entries.slots

-- one server: U k ticks used by server job k, L k the job linked to it, N released, c complete; W is the largest response of its jobs
pub record Row (i : ℕ) (U L : ℕ → ℕ) (N c W : ℕ) (l : Ledger) : Type 0 where
  pub released : released_at l i ≡ N
  pub complete : complete_at l i ≡ c
  pub linked : linked_at l i ≡ linked_up_to L N
  pub finished : finished_at l i ≡ linked_up_to L c
  pub worst : worst_at l i ≡ W
  pub order : c ≤ N
  pub room : N ≤ c + Entries.room
  pub used : (k : ℕ) → c < k → k ≤ N → used_at l i k ≡ U k
  pub link : (k : ℕ) → c < k → k ≤ N → link_at l i k ≡ L k

module _ (X : Box) (t : ℕ) (l : Ledger) where
  -- THE RELATION at t: after the ticks before it, with their work finished, before its releases
  pub record InStep : Type 0 where
    pub sized : Sized l
    pub row : (i : ℕ) → i < length X.servers
        → Row i (used_by X.servers X.cap t i) (link_of X.servers X.cap (whole X.servers) t i) (released_before (srv X.servers i) t)
        (completed X.servers X.cap t i) (figure X (whole X.servers) i t) l
    pub few : (i : ℕ) → i < length X.servers → released_before (srv X.servers i) t ≤ completed X.servers X.cap t i + window

  -- after the releases and links of t, before its tick
  pub record Released : Type 0 where
    pub sized : Sized l
    pub row : (i : ℕ) → i < length X.servers
        → Row i (used_by X.servers X.cap t i) (link_of X.servers X.cap (whole X.servers) (suc t) i) (released (srv X.servers i) t)
        (completed X.servers X.cap t i) (figure X (whole X.servers) i t) l

  -- after its tick, before the work is finished
  pub record Ran : Type 0 where
    pub sized : Sized l
    pub row : (i : ℕ) → i < length X.servers
        → Row i (used_by X.servers X.cap (suc t) i) (link_of X.servers X.cap (whole X.servers) (suc t) i) (released (srv X.servers i) t)
        (completed X.servers X.cap t i) (figure X (whole X.servers) i t) l
