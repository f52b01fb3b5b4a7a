-- Tables are answered one after another: what is still to be made, and what it means for the buffer and the answers that are there.
use mathlib.Core.Path.{◌≡◌, refl, sym, ap, subst, ◌∙◌}
use mathlib.Core.List.{List, [], ◌∷◌, ◌++◌, map}
use Prim.Native.Nat.{ℕ, zero, suc, ◌+◌, ◌-◌, ◌*◌, ◌≤◌, ◌<◌}
use native.Mathlib.Omega.{arith}
use native.Mathlib.Nat.{mul-div-le, suc-mul}
use lib.ListN.{length, take, drop, get_or, set, replicate, length-append, length-set, length-drop, drop_of_length-le, take-append-drop}
use lib.Seq.{length-take-le, drop-cons, drop-drop}
use Rattle.schedule.specs.Limits as Limits
use borrow.Author.Tests.{le-leb, lt-leb}
use Rattle.schedule.proofs.Tests.{by_lt}
use Rattle.rules.specs.Answers.{Reply, says, refuses, report_of, fitted, left, Call, call_of}
use Rattle.rules.specs.Batch.{total, parted, share_length, calls_by, answers_in, shares_in}
use Rattle.sheet.specs.declared.exports.PhalandrixAnswer.{PhalandrixAnswer}
use Rattle.sheet.specs.Exports.{told_of}
use Rattle.sheet.specs.Exports as Single
use Rattle.batch.specs.Told.{no_answer, filled_up}
use Rattle.batch.proofs.Placing.{placed, with_part, length_placed, dropped, goes_on, set_placed}

-- the next length, and those behind it
pub total_next : (ls : List ℕ) (i : ℕ) → i < length ls → total (drop i ls) ≡ get_or ls i 0 + total (drop (i + 1) ls)
total_next ls i h = let e : i + 1 ≡ suc i = omega arith in rw (e, drop-cons ls i 0 h)

-- a call leaves its share as long as it was
pub call_length : (share : List ℕ) (r : Reply) → length (call_of share r).buffer ≡ length share
unfolding call_of fitted left
call_length share (refuses f) = refl
call_length share (says s) =
    by_lt (length share) (length s) (λ h. rw (lt-leb (length s) (length share) h))
    (λ h. rw (le-leb (length s) (length share) h, length-append s (drop (length s) share), length-drop (length s) share) (omega arith))

length_answers : (calls : List Call) → length (map told_of (answers_in calls)) ≡ length calls
length_answers [] = refl
length_answers (c ∷ cs) = ap suc (length_answers cs)

length_answers_in : (calls : List Call) → length (answers_in calls) ≡ length calls
length_answers_in [] = refl
length_answers_in (c ∷ cs) = ap suc (length_answers_in cs)

module _ {A : Type 0} where
  drop_replicate : (m n : ℕ) (x : A) → drop m (replicate n x) ≡ replicate (n - m) x
  drop_replicate zero n x = let e : n - 0 ≡ n = omega arith in rw e
  drop_replicate (suc m) zero x = let e : 0 - suc m ≡ 0 = omega arith in rw e
  drop_replicate (suc m) (suc n) x = let e : suc n - suc m ≡ n - m = omega arith in rw e (drop_replicate m n x)

  -- nothing more is to be placed
  all_placed : (start m : ℕ) (xs : List A) → m ≡ 0 → with_part start [] m xs ≡ xs
  all_placed start m xs e = let z : start + m ≡ start = omega arith in rw z (take-append-drop start xs)

module _ (tables lengths before : List ℕ) where
  abbrev size : ℕ
  size = share_length lengths before

  -- the calls still to be made, from table i on, whose bytes begin at `at` and whose share begins at `start`
  abbrev to_make : ℕ → ℕ → ℕ → List ℕ → List Call
  to_make at start i buffer = calls_by report_of size (parted (drop at tables) (drop i lengths)) (drop start buffer)

  abbrev all : List Call
  all = calls_by report_of size (parted tables lengths) before

  pub record Underway (buffer : List ℕ) (told : List PhalandrixAnswer) (at start i : ℕ) : Type 0 where
    pub in_tables : at + total (drop i lengths) ≡ length tables
    pub in_buffer : start + length (to_make at start i buffer) * size ≤ length buffer
    pub same : length buffer ≡ length before
    pub room : length told ≡ (Limits.tables).to
    pub shares : shares_in all ++ drop (length all * size) before ≡ with_part start (shares_in (to_make at start i buffer)) (length (to_make at start i buffer) * size) buffer
    pub answers : filled_up (map told_of (answers_in all)) ≡ with_part i (map told_of (answers_in (to_make at start i buffer))) (length (to_make at start i buffer)) told

  length_parted : (s ls : List ℕ) → length (parted s ls) ≡ length ls
  length_parted s [] = refl
  length_parted s (l ∷ ls) = ap suc (length_parted (drop l s) ls)

  length_calls : (ts : List (List ℕ)) (buffer : List ℕ) → length (calls_by report_of size ts buffer) ≡ length ts
  length_calls [] buffer = refl
  length_calls (t ∷ ts) buffer = ap suc (length_calls ts (drop size buffer))

  length_all : length all ≡ length lengths
  length_all = length_calls (parted tables lengths) before ∙ length_parted tables lengths

  pub counted : length (answers_in all) ≡ length lengths
  counted = length_answers_in all ∙ length_all

  pub begun : total lengths ≡ length tables → Underway before (replicate (Limits.tables).to no_answer) 0 0 0
  begun e =
      let z : (m : ℕ) → 0 + m ≡ m = λ m. omega arith in
      record {
        in_tables = z (total lengths) ∙ e;
        in_buffer = rw (z (length all * size), length_all) (mul-div-le (length before) (length lengths));
        same = refl;
        room = refl;
        shares = rw (z (length all * size));
        answers = rw (z (length all), drop_replicate (length all) (Limits.tables).to no_answer, length_answers all);
      }

  module _ (buffer : List ℕ) (told : List PhalandrixAnswer) (at start i : ℕ) (u : Underway buffer told at start i) where
    -- the last call is made
    pub all_made : length lengths ≤ i → (buffer ≡ shares_in all ++ drop (length all * size) before) × (told ≡ filled_up (map told_of (answers_in all)))
    all_made h =
        let none : to_make at start i buffer ≡ [] = rw (drop_of_length-le lengths h) in
        (sym (u.shares ∙ rw none (all_placed start (0 * size) buffer (omega arith))), sym (u.answers ∙ rw none (all_placed i 0 told refl)))

    module _ (h : i < length lengths) (few : length lengths ≤ (Limits.tables).to) where
      abbrev l : ℕ
      l = get_or lengths i 0

      abbrev share : List ℕ
      share = take size (drop start buffer)

      abbrev rest : List Call
      rest = calls_by report_of size (parted (drop l (drop at tables)) (drop (suc i) lengths)) (drop size (drop start buffer))

      now_made : to_make at start i buffer ≡ call_of share (report_of (take l (drop at tables))) ∷ rest
      now_made = rw (drop-cons lengths i 0 h)

      -- the table's bytes and its share are there
      pub in_tables_still : at + l ≤ length tables
      in_tables_still = omega (arith, u.in_tables, total_next lengths i h)

      pub in_buffer_still : start + size ≤ length buffer
      in_buffer_still = omega (arith, rw now_made at u.in_buffer, suc-mul (length rest) size)

      share_length_lem : length share ≡ size
      share_length_lem = length-take-le size (drop start buffer) (omega (arith, in_buffer_still, length-drop start buffer))

      module _ (one : List ℕ) (v : PhalandrixAnswer) (is : Single.Told v one (call_of share (report_of (take l (drop at tables))))) where
        pub one_length : length one ≡ size
        one_length = ap length is.bytes ∙ call_length share (report_of (take l (drop at tables))) ∙ share_length_lem

        abbrev after : List ℕ
        after = placed start one buffer

        fits : start + length one ≤ length buffer
        fits = omega (arith, one_length, in_buffer_still)

        rest_same : to_make (at + l) (start + size) (i + 1) after ≡ rest
        rest_same =
            let e : i + 1 ≡ suc i = omega arith in
            let d : drop (start + size) after ≡ drop size (drop start buffer) =
            ap (λ (n : ℕ). drop (start + n) after) (sym one_length) ∙ dropped start one buffer fits ∙ ap (λ (n : ℕ). drop n (drop start buffer)) one_length in
            rw (e, d, drop-drop l at tables)

        shares_on : with_part start (shares_in (to_make at start i buffer)) (length (to_make at start i buffer) * size) buffer
            ≡ with_part (start + size) (shares_in rest) (length rest * size) after
        shares_on =
            let m : ℕ = length rest * size in
            let e : suc (length rest) * size ≡ length one + m = omega (arith, one_length, suc-mul (length rest) size) in
            rw now_made
            (ap (λ (xs : List ℕ). with_part start (xs ++ shares_in rest) (suc (length rest) * size) buffer) (sym is.bytes)
            ∙ ap (λ (n : ℕ). with_part start (one ++ shares_in rest) n buffer) e ∙ goes_on start one buffer fits (shares_in rest) m
            ∙ ap (λ (n : ℕ). with_part (start + n) (shares_in rest) m after) one_length)

        answers_on : with_part i (map told_of (answers_in (to_make at start i buffer))) (length (to_make at start i buffer)) told
            ≡ with_part (i + 1) (map told_of (answers_in rest)) (length rest) (set told i v)
        answers_on =
            let more : List PhalandrixAnswer = map told_of (answers_in rest) in
            let e : suc (length rest) ≡ 1 + length rest = omega arith in
            rw now_made
            (ap (λ (x : PhalandrixAnswer). with_part i (x ∷ more) (suc (length rest)) told) (sym is.answer)
            ∙ ap (λ (n : ℕ). with_part i (v ∷ more) n told) e ∙ goes_on i (v ∷ []) told (omega (arith, u.room)) more (length rest)
            ∙ ap (with_part (i + 1) more (length rest)) (sym (set_placed told i v (omega (arith, u.room)))))

        next : Underway after (set told i v) (at + l) (start + size) (i + 1)
        next =
            record {
              in_tables = omega (arith, u.in_tables, total_next lengths i h);
              in_buffer = rw rest_same (omega (arith, rw now_made at u.in_buffer, suc-mul (length rest) size, length_placed start one buffer fits));
              same = length_placed start one buffer fits ∙ u.same;
              room = length-set told i v ∙ u.room;
              shares = rw rest_same (u.shares ∙ shares_on);
              answers = rw rest_same (u.answers ∙ answers_on);
            }

      -- as the code has it, with the lengths of the two parts as differences of their ends
      pub next_in_code : (k m : ℕ) → k ≡ size → m ≡ l → (one : List ℕ) (v : PhalandrixAnswer)
          → Single.Told v one (call_of (take k (drop start buffer)) (report_of (take m (drop at tables))))
          → Underway (take start buffer ++ (one ++ drop k (drop start buffer))) (set told i v) (at + l) (start + size) (i + 1)
      next_in_code k m e f one v is =
          let told_is : Single.Told v one (call_of share (report_of (take l (drop at tables)))) = rw (e, f) at is in
          subst (λ (n : ℕ). Underway (take start buffer ++ (one ++ drop n (drop start buffer))) (set told i v) (at + l) (start + size) (i + 1))
          (one_length one v told_is ∙ sym e) (next one v told_is)
