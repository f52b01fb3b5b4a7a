-- A line takes up a byte or more: its LF.
use mathlib.Core.Path.{◌≡◌, subst, sym}
use mathlib.Core.Bool.{Bool}
use mathlib.Core.List.{List, [], ◌∷◌, tail}
use Prim.Native.Nat.{ℕ, zero, suc, ◌+◌, ◌≤◌}
use native.Mathlib.Omega.{arith}
use lib.Dec.{eqb}
use lib.ListN.{length}
use Rattle.format.specs.Bytes.{bytes, line_feed, equals, comma}
use Rattle.format.specs.Keys as Keys
use Rattle.format.specs.Keys.{key_at}
use Rattle.format.specs.Spelling.{Scan, read, wrong, ◌⟫◌, text, number, numbers_by, numbers, next?, letter_n, list, line}
use Rattle.format.specs.Reading.{value_in, offending}
use Rattle.schedule.specs.WellFormed.{within}
use Rattle.schedule.proofs.Tests.{by_test}
use Rattle.scanning.specs.Masks.{mask_of, fair_list}
use Rattle.scanning.proofs.Predecessors.{Takes, number_takes}
use Rattle.lines.specs.Lines.{Judged, passed, misspelled, unfair, judge_by, same, predecessors, line_judged}

more_taken : {A : Type 0} (d : ℕ) (short long : List ℕ) (x : Scan A) → length short ≤ length long → Takes d short x → Takes d long x
more_taken d short long (read a r) h t = omega arith
more_taken d short long (wrong r) h t = tt

then_takes : {A B : Type 0} (d e : ℕ) (b : List ℕ) (x : Scan A) (f : A → List ℕ → Scan B) → Takes d b x → ((a : A) (r : List ℕ) → Takes e r (f a r)) → Takes e b (x ⟫ f)
then_takes d e b (read a r) f t h = more_taken e r b (f a r) (omega arith) (h a r)
then_takes d e b (wrong r) f t h = tt

text_takes : (t b : List ℕ) → Takes (length t) b (text t b)
unfolding text
text_takes [] b = omega arith
text_takes (t ∷ ts) [] = tt
text_takes (t ∷ ts) (c ∷ b) = by_test (eqb c t) (λ e. rw e (longer (text ts b) (text_takes ts b))) (λ e. rw e tt)
  where
    longer : (x : Scan (Unit {0})) → Takes (length ts) b x → Takes (suc (length ts)) (c ∷ b) x
    longer (read a r) h = omega arith
    longer (wrong r) h = tt

numbers_take : (n : ℕ) (b : List ℕ) → Takes 0 b (numbers_by n b)
unfolding numbers_by
numbers_take zero b = tt
numbers_take (suc n) b =
    then_takes 1 0 b (number b) _ (number_takes b) (λ v r.
    by_test (next? comma r)
    (λ e. rw e
    (more_taken 0 (tail r) r _ (behind r) (then_takes 0 0 (tail r) (numbers_by n (tail r)) _ (numbers_take n (tail r)) (λ vs q. omega arith))))
    (λ e. rw e (omega arith)))
  where
    behind : (r : List ℕ) → length (tail r) ≤ length r
    behind [] = omega arith
    behind (x ∷ r) = omega arith

list_takes : (b : List ℕ) → Takes 0 b (list b)
unfolding list numbers
list_takes b =
    by_test (next? letter_n b)
    (λ e. rw e (then_takes 4 0 b (text (bytes "none") b) _ (text_takes (bytes "none") b) (λ u r. omega arith)))
    (λ e. rw e (numbers_take (suc (length b)) b))

module _ {A : Type 0} where
  line_takes : (name : List ℕ) (value : List ℕ → Scan A) → ((b : List ℕ) → Takes 0 b (value b)) → (b : List ℕ) → Takes 1 b (line name value b)
  line_takes name value h b =
      then_takes 0 1 b (text name b ⟫ (λ u r. text (equals ∷ []) r)) _
      (then_takes (length name) 0 b (text name b) _ (text_takes name b) (λ u r. more_taken_less r (text (equals ∷ []) r) (text_takes (equals ∷ []) r))) (λ u r.
      then_takes 0 1 r (value r) _ (h r) (λ v q.
      by_end v q (text (line_feed ∷ []) q) (text_takes (line_feed ∷ []) q)))
    where
      more_taken_less : (r : List ℕ) (x : Scan (Unit {0})) → Takes 1 r x → Takes 0 r x
      more_taken_less r (read u q) t = omega arith
      more_taken_less r (wrong q) t = tt

      by_end : (v : A) (q : List ℕ) (x : Scan (Unit {0})) → Takes 1 q x → Takes 1 q (x ⟫ (λ u r. read v r))
      by_end v q (read u r) t = t
      by_end v q (wrong r) t = tt

-- so a line that passes leaves less
abbrev LeavesLess : List ℕ → Judged → Type 0
LeavesLess b (passed v rest) = length rest + 1 ≤ length b
LeavesLess b (misspelled rest) = Unit {0}
LeavesLess b (unfair rest) = Unit {0}

judged_less : {A : Type 0} (coded : A → ℕ) (fair : A → Bool) (fault b : List ℕ) (x : Scan A) → Takes 1 b x → LeavesLess b (judge_by coded fair fault x)
judged_less coded fair fault b (wrong rest) t = tt
judged_less coded fair fault b (read v rest) t = by_test (fair v) (λ e. rw e t) (λ e. rw e tt)

pub line_less : (k own v : ℕ) (b rest : List ℕ) → passed v rest ≡ line_judged k own b → length rest + 1 ≤ length b
line_less k own v b rest e = subst (LeavesLess b) (sym e) (by_test (eqb k Keys.after) (λ t. rw t masked) (λ t. rw t plain))
  where
    masked : LeavesLess b (judge_by mask_of (fair_list predecessors own) (offending own (value_in k b)) (line (key_at k).name list b))
    masked = judged_less mask_of (fair_list predecessors own) (offending own (value_in k b)) b (line (key_at k).name list b) (line_takes (key_at k).name list list_takes b)

    plain : LeavesLess b (judge_by same (within (key_at k).range) (value_in k b) (line (key_at k).name number b))
    plain = judged_less same (within (key_at k).range) (value_in k b) b (line (key_at k).name number b) (line_takes (key_at k).name number one b)
      where
        one : (c : List ℕ) → Takes 0 c (number c)
        one c = less c (number c) (number_takes c)
          where
            less : (c : List ℕ) (x : Scan ℕ) → Takes 1 c x → Takes 0 c x
            less c (read v r) t = omega arith
            less c (wrong r) t = tt
