-- The server jobs that run: the best, then the best after it, and so on. What the functions of `choosing` compute.
use Rattle.std.specs.Prelude.{◌≡◌, Bool, cond, List, ℕ, zero, suc, ◌+◌, ◌*◌, ◌%◌, min, ltb, eqb, get_or, set, replicate}
use Rattle.schedule.specs.Limits as Limits
use Rattle.table.specs.declared.State.{State}
use Rattle.window.specs.declared.Plan.{Plan}
use Rattle.window.specs.Entries.{places, window, last_key, further, nodes_of}

-- how many of a server's slots are ready
abbrev pub ready_of : ℕ → ℕ → ℕ
ready_of count level = min count level

-- the least of the first n heads that is not below `from`
abbrev pub head_from : List ℕ → ℕ → ℕ → ℕ
head_from heads from i = cond (ltb (get_or heads i 0) from) last_key (get_or heads i 0)

unfoldable pub best_from : List ℕ → ℕ → ℕ → ℕ
best_from heads from zero = last_key
best_from heads from (suc n) = min (best_from heads from n) (head_from heads from n)

-- what is chosen so far: `count` keys in `run`, rising, and in `at` where their budgets left stand; each server's head, the key of its first
-- ready slot that is not chosen yet; how many slots of each are chosen; and the key from which on the next one is looked for
pub record Picks : Type 0 where
  pub run : List ℕ
  pub at : List ℕ
  pub heads : List ℕ
  pub taken : List ℕ
  pub from : ℕ
  pub count : ℕ

abbrev pub place_of : ℕ → ℕ
place_of key = key % places

module _ (first count level step : List ℕ) (n : ℕ) where
  abbrev pub slot_taken : Picks → ℕ → ℕ
  slot_taken c key = get_or c.taken (place_of key) 0 % window

  -- the server has one more that is ready: it becomes the head. The head of one that has none stays, below `from`
  abbrev pub any_more : Picks → ℕ → Bool
  any_more c key = ltb (slot_taken c key + 1) (ready_of (get_or count (place_of key) 0) (get_or level (place_of key) 0))

  abbrev pub pick_key : Picks → ℕ → Picks
  pick_key c key =
      record {
        run = set c.run c.count key;
        at = set c.at c.count (place_of key * window + slot_taken c key);
        heads = cond (any_more c key) (set c.heads (place_of key) (further key (get_or step (place_of key) 0))) c.heads;
        taken = cond (any_more c key) (set c.taken (place_of key) (slot_taken c key + 1)) c.taken;
        from = key + 1;
        count = c.count + 1;
      }

  abbrev pub best_of : Picks → ℕ
  best_of c = best_from c.heads c.from n

  abbrev pub pick_next : Picks → Picks
  pick_next c = cond (eqb (best_of c) last_key) c (pick_key c (best_of c))

  -- the first m of them, into lists that are given
  unfoldable pub picks : (run at : List ℕ) → ℕ → Picks
  picks run at zero = record { run = run; at = at; heads = first; taken = replicate places 0; from = 0; count = 0 }
  picks run at (suc m) = pick_next (picks run at m)

-- what is put into the lists, and how many
abbrev pub Picked : Picks → (count : ℕ) → (run at : List ℕ) → Type 0
Picked c count run at = (count ≡ c.count) × ((run ≡ c.run) × (at ≡ c.at))

-- of the ready server jobs of a state, for a tick of p processors
abbrev pub no_run : List ℕ
no_run = replicate (Limits.processors).to last_key

abbrev pub no_at : List ℕ
no_at = replicate (Limits.processors).to 0

abbrev pub chosen_by : Plan → (first count : List ℕ) → Picks
chosen_by plan first count = picks first count plan.level plan.step (nodes_of plan) no_run no_at plan.processors

abbrev pub chosen : Plan → State → Picks
chosen plan st = chosen_by plan st.first st.count
