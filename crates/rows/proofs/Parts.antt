-- Of server jobs that are given by parts, as `Pending::of` of crate `table` takes them, a row reads whether one is linked, and the number
-- only where it is.
use mathlib.Core.Path.{◌≡◌, refl}
use mathlib.Core.Bool.{Bool, true, false, cond}
use mathlib.Core.List.{List}
use Prim.Native.Nat.{ℕ, zero, suc, ◌-◌, ◌%◌}
use lib.ListN.{get_or}
use Rattle.table.specs.declared.Server.{Server}
use Rattle.table.specs.Parts.{pending_of}
use Rattle.window.specs.declared.Plan.{Plan}
use Rattle.window.specs.Entries.{window, no_server, slot_of}
use Rattle.window.specs.Loops.{replaced}
use Rattle.window.specs.Choosing.{Picks, place_of, chosen_by}
use Rattle.writing.specs.declared.row.Run.{Run}
use Rattle.writing.specs.declared.row.Row.{Row}
use Rattle.rows.specs.Showing.{invocation_of, blank, number_by, seen_by, run_of, row_to, row_of}

pub invocation_parts : (behind : ℕ) (linked : Bool) (number : ℕ) → invocation_of (pending_of behind linked) number ≡ cond linked (number - behind) 0
invocation_parts behind true number = refl
invocation_parts behind false number = refl

replaced_alike : {A : Type 0} (f g : ℕ → A) (xs : List A) → ((i : ℕ) → f i ≡ g i) → (n : ℕ) → replaced f xs n ≡ replaced g xs n
unfolding replaced
replaced_alike f g xs h zero = refl
replaced_alike f g xs h (suc n) = rw (replaced_alike f g xs h n, h n) refl

-- slot d at place i is given by the parts `behind i d` and `linked i d`
module _ (plan : Plan) (offsets : List ℕ) (servers : List Server) (first count : List ℕ) (behind : ℕ → ℕ → ℕ) (linked : ℕ → ℕ → Bool)
    (given : (i d : ℕ) → slot_of (get_or servers i no_server) d ≡ pending_of (behind i d) (linked i d)) where
  abbrev picked : Picks
  picked = chosen_by plan first count

  -- the running server job with a key, and the row, by these parts
  abbrev pub run_parts : (key at : ℕ) → Run
  run_parts key at =
      record {
        graph = get_or plan.graph (place_of key) 0;
        node = get_or plan.node (place_of key) 0;
        server_job = number_by plan.lead plan.period offsets key;
        invocation = cond (linked (place_of key) (at % window)) (number_by plan.lead plan.period offsets key - behind (place_of key) (at % window)) 0;
      }

  abbrev pub row_parts : Row
  row_parts =
      record {
        run = replaced (λ (r : ℕ). run_parts (get_or picked.run r 0) (get_or picked.at r 0)) (blank picked.count).run picked.count;
        count = picked.count;
      }

  run_is : (key at : ℕ) → run_of plan offsets (seen_by servers first count) key at ≡ run_parts key at
  unfolding run_of
  run_is key at =
      rw (given (place_of key) (at % window), invocation_parts (behind (place_of key) (at % window)) (linked (place_of key) (at % window)) (number_by plan.lead plan.period offsets key)) refl

  pub row_by_parts : row_of plan offsets (seen_by servers first count) ≡ row_parts
  unfolding row_to
  row_by_parts =
      rw (replaced_alike (λ (r : ℕ). run_of plan offsets (seen_by servers first count) (get_or picked.run r 0) (get_or picked.at r 0))
      (λ (r : ℕ). run_parts (get_or picked.run r 0) (get_or picked.at r 0)) (blank picked.count).run
      (λ r. run_is (get_or picked.run r 0) (get_or picked.at r 0)) picked.count) refl
