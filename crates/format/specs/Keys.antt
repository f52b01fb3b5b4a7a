-- The nine keys of a table in the order in which they stand, each with its name and the limits of its number; of `after`, those of each
-- number of its list. Behind them the one key of a limit text (document 02, R-12).
use Rattle.std.specs.Prelude.{List, [], ◌∷◌, ℕ, get_or}
use Prim.Native.String.{String}
use Rattle.format.specs.Bytes.{bytes}
use Rattle.schedule.specs.Limits as Limits
use Rattle.schedule.specs.Limits.{Range}

pub record Key : Type 0 where
  pub name : List ℕ
  pub range : Range

abbrev pub key : String → Range → Key
key s r = record { name = bytes s; range = r }

unfoldable pub keys : List Key
keys =
    key "processors" Limits.processors
    ∷ key "rounds" Limits.rounds
    ∷ key "graphs" Limits.graphs
    ∷ key "period" Limits.period
    ∷ key "offset" Limits.offset
    ∷ key "nodes" Limits.nodes
    ∷ key "budget" Limits.budget
    ∷ key "level" Limits.level
    ∷ key "after" Limits.predecessor
    ∷ key "limit" Limits.limit
    ∷ []

-- what stands past the last one
abbrev pub no_key : Key
no_key = key "" (record { from = 0; to = 0 })

abbrev pub key_at : ℕ → Key
key_at k = get_or keys k no_key

-- the place of each in the list
abbrev pub processors : ℕ
processors = 0

abbrev pub rounds : ℕ
rounds = 1

abbrev pub graphs : ℕ
graphs = 2

abbrev pub period : ℕ
period = 3

abbrev pub offset : ℕ
offset = 4

abbrev pub nodes : ℕ
nodes = 5

abbrev pub budget : ℕ
budget = 6

abbrev pub level : ℕ
level = 7

abbrev pub after : ℕ
after = 8

abbrev pub limit : ℕ
limit = 9
