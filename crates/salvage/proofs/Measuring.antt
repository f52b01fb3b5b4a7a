-- The loop that measures: the lengths so far, and those of what is still to come, are the lengths of the whole.
use mathlib.Core.Path.{◌≡◌, ap, ◌∙◌}
use mathlib.Core.List.{List}
use Prim.Native.Nat.{ℕ, ◌+◌, ◌≤◌, ◌<◌}
use native.Mathlib.Omega.{arith}
use lib.ListN.{length, get_or, drop}
use Rattle.schedule.specs.Limits as Limits
use Rattle.format.specs.Bytes.{line_feed}
use Rattle.salvaging.specs.Steps.{salvaged}
use Rattle.salvaging.specs.Fixes.{fixes_of}
use Rattle.salvaging.specs.Salvage.{longest_left, longest_list}
use Rattle.salvaging.proofs.Longest.{text_most, list_most}
use Rattle.mending.specs.declared.line.Line.{Line}
use Rattle.mending.specs.declared.text.Added.{Added}
use Rattle.mending.specs.declared.fixes.Kinds.{Kinds}
use Rattle.mending.specs.Line.{fresh, line_after, ended, added, added_text, text_from, kinds_at, kinds_last, number_after, fixes_text, list_from}
use Rattle.mending.proofs.TextRead.{text_is}
use Rattle.mending.proofs.ListRead.{list_is}
use Rattle.salvage.proofs.Reading.{text_step, list_step, text_end, list_end, counted, counted_last, blanks_after, blanks_added, number_most}

pub record Counted (s : List ℕ) (l : Line) (n text list i : ℕ) : Type 0 where
  pub within : i ≤ length s
  pub waits : l.blanks ≤ i
  pub numbers : n ≤ i + 1
  pub text_so : text + length (text_from l (drop i s)) ≡ length (salvaged s)
  pub list_so : list + length (list_from n l (drop i s)) ≡ length (fixes_of s)

pub counted_start : (s : List ℕ) (l : Line) → l ≡ fresh → Counted s l 1 0 0 0
counted_start s l e =
    record {
      within = omega arith;
      waits = rw e (omega arith);
      numbers = omega arith;
      text_so = rw e (omega (arith, ap length (text_is s)));
      list_so = rw e (omega (arith, ap length (list_is s)));
    }

module _ {s : List ℕ} {l : Line} {n text list i : ℕ} (k : Counted s l n text list i) (small : length s ≤ (Limits.table_bytes).to) where
  module _ (inside : i < length s) where
    abbrev c : ℕ
    c = get_or s i 0

    -- what the steps ask for
    pub added_small : (x : Added) → x ≡ added l c → x.blanks ≤ (Limits.table_bytes).to
    added_small x e = rw e (omega (arith, blanks_added l c, k.waits))

    pub line_small : l.blanks ≤ (Limits.table_bytes).to
    line_small = omega (arith, k.waits)

    pub number_small : n ≤ (Limits.table_bytes).to
    number_small = omega (arith, k.numbers)

    text_next : (x : Added) (r : ℕ) → x ≡ added l c → ((d : ℕ) → r ≡ length (added_text x d)) → text + r + length (text_from (line_after l c) (drop (i + 1) s)) ≡ length (salvaged s)
    text_next x r e h = counted (text_from l (drop i s)) (added_text (added l c) c) (text_from (line_after l c) (drop (i + 1) s)) (length (salvaged s)) text r (text_step s i inside l) k.text_so (h c ∙ ap (λ (y : Added). length (added_text y c)) e)

    list_next : (x : Kinds) (r : ℕ) → x ≡ kinds_at l c → r ≡ length (fixes_text n x)
        → list + r + length (list_from (number_after n c) (line_after l c) (drop (i + 1) s)) ≡ length (fixes_of s)
    list_next x r e h = counted (list_from n l (drop i s)) (fixes_text n (kinds_at l c)) (list_from (number_after n c) (line_after l c) (drop (i + 1) s)) (length (fixes_of s)) list r (list_step s i inside l n) k.list_so (h ∙ ap (λ (y : Kinds). length (fixes_text n y)) e)

    pub text_room_lem : (x : Added) (r : ℕ) → x ≡ added l c → ((d : ℕ) → r ≡ length (added_text x d)) → text + r ≤ longest_left
    text_room_lem x r e h = omega (arith, text_next x r e h, text_most s)

    pub list_room_lem : (x : Kinds) (r : ℕ) → x ≡ kinds_at l c → r ≡ length (fixes_text n x) → list + r ≤ longest_list
    list_room_lem x r e h = omega (arith, list_next x r e h, list_most s small)

    pub counted_on : (x : Added) (r : ℕ) → x ≡ added l c → ((d : ℕ) → r ≡ length (added_text x d)) → (y : Kinds) (q : ℕ) → y ≡ kinds_at l c → q ≡ length (fixes_text n y)
        → (l' : Line) → l' ≡ line_after l c → (m : ℕ) → m ≡ number_after n c → Counted s l' m (text + r) (list + q) (i + 1)
    counted_on x r ex hx y q ey hy l' el m em =
        record {
          within = omega (arith, inside);
          waits = rw el (omega (arith, blanks_after l c, k.waits));
          numbers = rw em (omega (arith, number_most n c, k.numbers));
          text_so = rw el (text_next x r ex hx);
          list_so = rw (el, em) (list_next y q ey hy);
        }

  module _ (past : length s ≤ i) where
    pub text_all : (x : Added) (r : ℕ) → x ≡ ended l → ((d : ℕ) → r ≡ length (added_text x d)) → text + r ≡ length (salvaged s)
    text_all x r e h = counted_last (text_from l (drop i s)) (added_text (ended l) line_feed) (length (salvaged s)) text r (text_end s i past l) k.text_so (h line_feed ∙ ap (λ (y : Added). length (added_text y line_feed)) e)

    pub list_all : (x : Kinds) (r : ℕ) → x ≡ kinds_last l → r ≡ length (fixes_text n x) → list + r ≡ length (fixes_of s)
    list_all x r e h = counted_last (list_from n l (drop i s)) (fixes_text n (kinds_last l)) (length (fixes_of s)) list r (list_end s i past l n) k.list_so (h ∙ ap (λ (y : Kinds). length (fixes_text n y)) e)

    pub text_room_last : (x : Added) (r : ℕ) → x ≡ ended l → ((d : ℕ) → r ≡ length (added_text x d)) → text + r ≤ longest_left
    text_room_last x r e h = omega (arith, text_all x r e h, text_most s)

    pub list_room_last : (x : Kinds) (r : ℕ) → x ≡ kinds_last l → r ≡ length (fixes_text n x) → list + r ≤ longest_list
    list_room_last x r e h = omega (arith, list_all x r e h, list_most s small)
