-- The entries of a state and of a plan by place. These definitions, and all of this crate's, are for the proof and not for belief: what a
-- reader believes is the rules.
use Rattle.std.specs.Prelude.{None, [], ℕ, ◌+◌, ◌*◌, ◌-◌, ◌^◌, min, get_or}
use Rattle.table.specs.declared.Pending.{Pending}
use Rattle.schedule.specs.Limits as Limits
use Rattle.table.specs.declared.Server.{Server}
use Rattle.table.specs.declared.State.{State}
use Rattle.window.specs.declared.Plan.{Plan}

-- how many places there are, how many slots a window has, and all windows together
abbrev pub places : ℕ
places = (Limits.all_nodes).to

abbrev pub window : ℕ
window = Limits.pending

abbrev pub slots : ℕ
slots = places * window

-- what an entry outside of its list is
abbrev pub no_job : Pending
no_job = record { behind = None }

abbrev pub no_server : Server
no_server = record { jobs = [] }

-- the largest key: past every key of a server job
abbrev pub last_key : ℕ
last_key = 2 ^ 32 - 1

-- a key or an instant `step` further on
abbrev pub further : ℕ → ℕ → ℕ
further k step = min (k + step) last_key

abbrev pub slot_of : Server → ℕ → Pending
slot_of s d = get_or s.jobs d no_job

module _ (st : State) where
  abbrev pub server_at : ℕ → Server
  server_at i = get_or st.servers i no_server

  abbrev pub count_at : ℕ → ℕ
  count_at i = get_or st.count i 0

  abbrev pub first_at : ℕ → ℕ
  first_at i = get_or st.first i 0

  abbrev pub unfinished_at : ℕ → ℕ
  unfinished_at i = get_or st.unfinished i 0

  abbrev pub unlinked_at : ℕ → ℕ
  unlinked_at i = get_or st.unlinked i 0

  abbrev pub worst_at : ℕ → ℕ
  worst_at i = get_or st.worst i 0

  abbrev pub next_at : ℕ → ℕ
  next_at i = get_or st.next i 0

  -- the budget left of slot d
  abbrev pub left_at : ℕ → ℕ → ℕ
  left_at i d = get_or st.left (i * window + d) 0

module _ (plan : Plan) where
  abbrev pub budget_at : ℕ → ℕ
  budget_at i = get_or plan.budget i 0

  abbrev pub after_at : ℕ → ℕ
  after_at i = get_or plan.after i 0

  abbrev pub level_at : ℕ → ℕ
  level_at i = get_or plan.level i 0

  abbrev pub period_at : ℕ → ℕ
  period_at i = get_or plan.period i 0

  abbrev pub step_at : ℕ → ℕ
  step_at i = get_or plan.step i 0

  abbrev pub lead_at : ℕ → ℕ
  lead_at i = get_or plan.lead i 0

  abbrev pub room_at : ℕ → ℕ
  room_at i = get_or plan.room i 0

  -- the places of the plan's nodes
  abbrev pub nodes_of : ℕ
  nodes_of = min plan.nodes places
