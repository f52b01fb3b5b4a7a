-- The relation between the engine's windows and the schedule of the rules: `InStep`, before the releases of an instant, and `Released`,
-- after them. Each operation of the engine has one lemma that it keeps the relation.
use mathlib.Core.Path.{◌≡◌}
use mathlib.Core.Bool.{cond}
use mathlib.Core.List.{List}
use mathlib.Core.Logic.{◌⊎◌}
use Prim.Native.Nat.{ℕ, suc, ◌+◌, ◌*◌, ◌-◌, ◌^◌, ◌≤◌, ◌<◌}
use lib.Dec.{T, ltb, eqb}
use lib.ListN.{length, get_or}
use Rattle.table.specs.declared.Pending.{Pending}
use Rattle.schedule.specs.Limits as Limits
use Rattle.schedule.specs.Lists.{any?, all?}
use Rattle.schedule.specs.Servers.{Server, srv, Box, whole}
use Rattle.schedule.specs.ServerJobs.{release_of, released, released_before, priority_of}
use Rattle.schedule.specs.Walk.{figure}
use Rattle.theorems.proofs.InTurn.{used_by, completed}
use Rattle.theorems.proofs.Linking.{link_of}
use Rattle.theorems.proofs.LinkRows.{linked_up_to}
use Rattle.theorems.proofs.TableBox.{beside}
use Rattle.numbers.specs.Masks.{bit}
use Rattle.std.specs.Prelude.{is_some, unwrap_or}
use Rattle.table.specs.declared.State.{State}
use Rattle.window.specs.declared.Plan.{Plan}
use Rattle.window.specs.Entries.{places, window, slots, last_key, slot_of, server_at, count_at, first_at, unfinished_at, unlinked_at, worst_at, next_at, left_at, budget_at, after_at, level_at, period_at, step_at, lead_at, room_at}

-- an instant and a point far below those at which a key would no longer fit
abbrev pub last_instant : ℕ
last_instant = (Limits.offset).to + (Limits.rounds).to * (Limits.hyperperiod).to

abbrev pub last_point : ℕ
last_point = (Limits.period).to

module _ (X : Box) (plan : Plan) where
  abbrev pub S : List Server
  S = X.servers

  -- place i of the plan is server i of the rules
  pub record Planned (i : ℕ) : Type 0 where
    pub budget : budget_at plan i ≡ (srv S i).budget
    pub room : room_at plan i ≡ cond (any? (eqb i) X.sinks) Limits.unfinished (2 ^ 8 - 1)
    pub after : (p : ℕ) → p < places → bit (after_at plan i) p ≡ any? (eqb p) (srv S i).predecessors
    pub level : level_at plan i ≡ (srv S i).level
    pub period : period_at plan i ≡ (srv S i).period
    pub step : step_at plan i ≡ (srv S i).period * places
    pub lead : lead_at plan i ≡ (srv S i).point * places + i
    -- what the rules' box has at i
    pub point_most : (srv S i).point ≤ last_point
    pub budget_some : 0 < (srv S i).budget
    pub level_some : 1 ≤ (srv S i).level
    pub level_most : (srv S i).level ≤ (Limits.level).to
    pub period_some : 0 < (srv S i).period
    pub period_most : (srv S i).period ≤ (Limits.period).to
    pub same_graph : T (all? (beside S (srv S i)) (srv S i).predecessors)
    -- a sink, or a predecessor of a later node of the same graph: so each node leads to its graph's sink
    pub leads : T (any? (eqb i) X.sinks) ⊎ ((n : ℕ) × (i < n) × (n < length S) × T (any? (eqb i) (srv S n).predecessors))
    -- the numbers that a row shows
    pub graph : get_or plan.graph i 0 ≡ (srv S i).graph
    pub node : get_or plan.node i 0 ≡ (srv S i).node

  pub record Fits : Type 0 where
    pub nodes : plan.nodes ≡ length S
    pub small : length S ≤ places
    pub cap : (t : ℕ) → X.cap t ≡ plan.processors
    pub processors_most : plan.processors ≤ (Limits.processors).to
    pub sinks_in : T (all? (λ (i : ℕ). ltb i (length S)) X.sinks)
    pub at : (i : ℕ) → i < length S → Planned i

-- the window's slot p stands for server job k, which is linked to the job L k, 0 for none
pub record Slot (L : ℕ → ℕ) (k : ℕ) (p : Pending) : Type 0 where
  pub linked : is_some p.behind ≡ ltb 0 (L k)
  pub behind : unwrap_or p.behind 0 ≡ cond (ltb 0 (L k)) (k - L k) 0

-- one server's row: U k ticks used by server job k, L k the job linked to it, N released, c complete and dropped. W is the largest response
-- of its jobs so far
pub record Row (s : Server) (i : ℕ) (U L : ℕ → ℕ) (N c W : ℕ) (st : State) : Type 0 where
  pub count : count_at st i + c ≡ N
  pub room : count_at st i ≤ window
  pub left : (d : ℕ) → d < count_at st i → left_at st i d + U (c + 1 + d) ≡ s.budget
  pub slots : (d : ℕ) → d < count_at st i → Slot L (c + 1 + d) (slot_of (server_at st i) d)
  pub first : 0 < count_at st i → first_at st i ≡ priority_of s (c + 1) * places + i
  pub idle : count_at st i ≡ 0 → first_at st i ≡ last_key
  pub unfinished : unfinished_at st i + linked_up_to L c ≡ N
  pub unlinked : unlinked_at st i + linked_up_to L N ≡ N
  pub worst : worst_at st i ≡ W
  pub next : next_at st i ≡ release_of s (suc N)

-- the lists of a state have their lengths
pub record Sized (st : State) : Type 0 where
  pub servers : length st.servers ≡ places
  pub jobs : (i : ℕ) → i < places → length (server_at st i).jobs ≡ window
  pub left : length st.left ≡ Rattle.window.specs.Entries.slots
  pub first : length st.first ≡ places
  pub count : length st.count ≡ places
  pub unfinished : length st.unfinished ≡ places
  pub unlinked : length st.unlinked ≡ places
  pub worst : length st.worst ≡ places
  pub next : length st.next ≡ places

module _ (X : Box) (t : ℕ) (st : State) where
  -- THE RELATION at t: after the ticks before it, before its releases
  pub record InStep : Type 0 where
    pub sized : Sized st
    pub row : (i : ℕ) → i < length X.servers
        → Row (srv X.servers i) i (used_by X.servers X.cap t i) (link_of X.servers X.cap (whole X.servers) t i)
        (released_before (srv X.servers i) t) (completed X.servers X.cap t i) (figure X (whole X.servers) i t) st
    pub sinks : (i : ℕ) → T (any? (eqb i) X.sinks) → unfinished_at st i ≤ Limits.unfinished

  -- after the releases and links of t, before its tick
  pub record Released : Type 0 where
    pub sized : Sized st
    pub row : (i : ℕ) → i < length X.servers
        → Row (srv X.servers i) i (used_by X.servers X.cap t i) (link_of X.servers X.cap (whole X.servers) (suc t) i)
        (released (srv X.servers i) t) (completed X.servers X.cap t i) (figure X (whole X.servers) i t) st
    pub sinks : (i : ℕ) → T (any? (eqb i) X.sinks) → unfinished_at st i ≤ Limits.unfinished
