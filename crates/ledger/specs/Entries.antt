-- The entries of a ledger by place and number. These definitions, and all of this crate's, are for the proof and not for belief: what a
-- reader believes is the rules.
use Rattle.std.specs.Prelude.{List, ℕ, ◌+◌, ◌*◌, ◌%◌, get_or}
use Rattle.window.specs.Entries.{places, window}
use Rattle.ledger.specs.declared.Ledger.{Ledger}

-- as many pending server jobs as are allowed, and one; and all servers together
abbrev pub room : ℕ
room = window + 1

abbrev pub slots : ℕ
slots = places * room

-- where server job k of place i stands
abbrev pub slot_at : ℕ → ℕ → ℕ
slot_at i k = i * room + k % room

-- rule 1
abbrev pub instant_after : (offset period periods : ℕ) → ℕ
instant_after offset period periods = offset + periods * period

abbrev pub offset_at : List ℕ → ℕ → ℕ
offset_at offsets i = get_or offsets i 0

module _ (l : Ledger) where
  abbrev pub released_at : ℕ → ℕ
  released_at i = get_or l.released i 0

  abbrev pub complete_at : ℕ → ℕ
  complete_at i = get_or l.complete i 0

  abbrev pub linked_at : ℕ → ℕ
  linked_at i = get_or l.linked i 0

  abbrev pub finished_at : ℕ → ℕ
  finished_at i = get_or l.finished i 0

  abbrev pub worst_at : ℕ → ℕ
  worst_at i = get_or l.worst i 0

  -- of server job k
  abbrev pub used_at : ℕ → ℕ → ℕ
  used_at i k = get_or l.used (slot_at i k) 0

  abbrev pub link_at : ℕ → ℕ → ℕ
  link_at i k = get_or l.link (slot_at i k) 0
