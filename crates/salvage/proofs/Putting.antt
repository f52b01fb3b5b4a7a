-- The loop that writes: both outputs are begun, and what is still to come is theirs.
use mathlib.Core.Path.{◌≡◌}
use mathlib.Core.List.{List, ◌++◌}
use Prim.Native.Nat.{ℕ, ◌+◌, ◌-◌, ◌≤◌, ◌<◌}
use native.Mathlib.Omega.{arith}
use lib.ListN.{length, get_or, take, drop}
use Rattle.schedule.specs.Limits as Limits
use Rattle.format.specs.Bytes.{line_feed}
use Rattle.writing.specs.Written.{Written}
use Rattle.writing.proofs.Writing.{room}
use Rattle.salvaging.specs.Steps.{salvaged}
use Rattle.salvaging.specs.Fixes.{fixes_of}
use Rattle.mending.specs.declared.line.Line.{Line}
use Rattle.mending.specs.declared.text.Added.{Added}
use Rattle.mending.specs.declared.fixes.Kinds.{Kinds}
use Rattle.mending.specs.Line.{fresh, line_after, ended, added, added_text, text_from, kinds_at, kinds_last, number_after, fixes_text, list_from}
use Rattle.salvage.specs.Call.{Filled}
use Rattle.mending.proofs.TextRead.{text_is}
use Rattle.mending.proofs.ListRead.{list_is}
use Rattle.salvage.proofs.Reading.{text_step, list_step, text_end, list_end, blanks_after, number_most}
use Rattle.salvage.proofs.Begun.{Begun, at_start, fit, fit_last, on, to_end}

pub record Put (s text₀ list₀ text list : List ℕ) (l : Line) (n text_at list_at i : ℕ) : Type 0 where
  pub within : i ≤ length s
  pub waits : l.blanks ≤ i
  pub numbers : n ≤ i + 1
  pub text_begun : Begun (salvaged s) (text_from l (drop i s)) text₀ text text_at
  pub list_begun : Begun (fixes_of s) (list_from n l (drop i s)) list₀ list list_at

pub put_start : (s text list : List ℕ) (l : Line) → l ≡ fresh → Put s text list text list l 1 0 0 0
put_start s text list l e =
    record {
      within = omega arith;
      waits = rw e (omega arith);
      numbers = omega arith;
      text_begun = at_start (salvaged s) (text_from l (drop 0 s)) text (rw e (text_is s));
      list_begun = at_start (fixes_of s) (list_from 1 l (drop 0 s)) list (rw e (list_is s));
    }

-- the part of a buffer that the next writer is lent, and the buffer when the part has come back
abbrev pub part : ℕ → List ℕ → List ℕ
part at t = take (length t - at) (drop at t)

abbrev pub back : ℕ → List ℕ → List ℕ → List ℕ
back at t u = take at t ++ (u ++ drop (length t - at) (drop at t))

module _ {s text₀ list₀ text list : List ℕ} {l : Line} {n text_at list_at i : ℕ} (k : Put s text₀ list₀ text list l n text_at list_at i)
    (small : length s ≤ (Limits.table_bytes).to) (text-fits : length (salvaged s) ≤ length text₀) (list-fits : length (fixes_of s) ≤ length list₀) where
  module _ (inside : i < length s) where
    abbrev c : ℕ
    c = get_or s i 0

    pub line_small : l.blanks ≤ (Limits.table_bytes).to
    line_small = omega (arith, k.waits)

    pub number_small : n ≤ (Limits.table_bytes).to
    number_small = omega (arith, k.numbers)

    module _ (x : Added) (ex : x ≡ added l c) where
      next_text : text_from l (drop i s) ≡ added_text x c ++ text_from (line_after l c) (drop (i + 1) s)
      next_text = rw ex (text_step s i inside l)

      text_fit : length k.text_begun.front + length (added_text x c) ≤ length text₀
      text_fit = fit k.text_begun text-fits (added_text x c) (text_from (line_after l c) (drop (i + 1) s)) next_text

      pub text_room_lem : length (added_text x c) ≤ length (part text_at text)
      text_room_lem = room (added_text x c) k.text_begun.written text_fit

    module _ (y : Kinds) (ey : y ≡ kinds_at l c) where
      next_list : list_from n l (drop i s) ≡ fixes_text n y ++ list_from (number_after n c) (line_after l c) (drop (i + 1) s)
      next_list = rw ey (list_step s i inside l n)

      list_fit : length k.list_begun.front + length (fixes_text n y) ≤ length list₀
      list_fit = fit k.list_begun list-fits (fixes_text n y) (list_from (number_after n c) (line_after l c) (drop (i + 1) s)) next_list

      pub list_room_lem : length (fixes_text n y) ≤ length (part list_at list)
      list_room_lem = room (fixes_text n y) k.list_begun.written list_fit

    pub put_on : (x : Added) (ex : x ≡ added l c) (u : List ℕ) (a : ℕ) → Written (added_text x c) (part text_at text) u a
        → (y : Kinds) (ey : y ≡ kinds_at l c) (v : List ℕ) (b : ℕ) → Written (fixes_text n y) (part list_at list) v b
        → (l' : Line) → l' ≡ line_after l c → (m : ℕ) → m ≡ number_after n c
        → Put s text₀ list₀ (back text_at text u) (back list_at list v) l' m (text_at + a) (list_at + b) (i + 1)
    put_on x ex u a wx y ey v b wy l' el m em =
        record {
          within = omega (arith, inside);
          waits = rw el (omega (arith, blanks_after l c, k.waits));
          numbers = rw em (omega (arith, number_most n c, k.numbers));
          text_begun = rw el (on k.text_begun text-fits (added_text x c) (text_from (line_after l c) (drop (i + 1) s)) (next_text x ex) wx);
          list_begun = rw (el, em) (on k.list_begun list-fits (fixes_text n y) (list_from (number_after n c) (line_after l c) (drop (i + 1) s)) (next_list y ey) wy);
        }

  module _ (past : length s ≤ i) where
    module _ (x : Added) (ex : x ≡ ended l) where
      last_text : text_from l (drop i s) ≡ added_text x line_feed
      last_text = rw ex (text_end s i past l)

      last_text_fit : length k.text_begun.front + length (added_text x line_feed) ≤ length text₀
      last_text_fit = fit_last k.text_begun text-fits (added_text x line_feed) last_text

      pub text_last_room : length (added_text x line_feed) ≤ length (part text_at text)
      text_last_room = room (added_text x line_feed) k.text_begun.written last_text_fit

      pub text_filled : (u : List ℕ) (m : ℕ) → Written (added_text x line_feed) (part text_at text) u m → Filled (salvaged s) text₀ (back text_at text u)
      text_filled u m w = to_end k.text_begun text-fits (added_text x line_feed) last_text w

    module _ (y : Kinds) (ey : y ≡ kinds_last l) where
      last_list_lem : list_from n l (drop i s) ≡ fixes_text n y
      last_list_lem = rw ey (list_end s i past l n)

      last_list_fit : length k.list_begun.front + length (fixes_text n y) ≤ length list₀
      last_list_fit = fit_last k.list_begun list-fits (fixes_text n y) last_list_lem

      pub list_last_room : length (fixes_text n y) ≤ length (part list_at list)
      list_last_room = room (fixes_text n y) k.list_begun.written last_list_fit

      pub list_filled : (u : List ℕ) (m : ℕ) → Written (fixes_text n y) (part list_at list) u m → Filled (fixes_of s) list₀ (back list_at list u)
      list_filled u m w = to_end k.list_begun list-fits (fixes_text n y) last_list_lem w
