-- Lines with their numbers: what code makes of the lines it read is what the rules make of the bytes.
use mathlib.Core.Path.{◌≡◌, refl, sym, ◌∙◌, ap}
use mathlib.Core.Bool.{Bool, true, false, ◌&&◌, and-false}
use mathlib.Core.List.{List, [], ◌∷◌}
use Prim.Native.Nat.{ℕ, suc, ◌+◌, ◌≤◌}
use native.Mathlib.Numerals.{add-one}
use native.Mathlib.Omega.{arith}
use lib.Dec.{ltb, eqb}
use lib.ListN.{drop, length}
use borrow.Author.Tests.{eqb-true, ltb-true, le-leb}
use Rattle.std.specs.Prelude.{Err}
use Rattle.format.specs.declared.Refusal.{Refusal}
use Rattle.format.specs.declared.Refusal.TheVariants.{Misspelled, OutsideLimits, AgainstPredecessorRules}
use Rattle.schedule.specs.Limits as Limits
use Rattle.format.specs.Keys as Keys
use Rattle.format.specs.Keys.{key_at}
use Rattle.schedule.specs.Lists.{all?}
use Rattle.format.specs.Spelling.{Scan, read, wrong, number, list, heading, line}
use Rattle.schedule.specs.WellFormed.{within, rising, orderly}
use Rattle.format.specs.Reading.{Place, Outcome, refused, done, column_at, judged, value_column, value_in, number_line, offending, after_line}
use Rattle.theorems.proofs.Formed.{first_of_lem, second_of}
use Rattle.rules.proofs.Outcomes.{Holds, then_holds, number_line_holds, after_line_holds}
use Rattle.schedule.proofs.Tests.{by_test}
use Rattle.table.specs.Limits.{coded, in_range}
use Rattle.scanning.specs.Masks.{mask_of, fair_list}
use Rattle.lines.specs.declared.judging.Fault.{Fault}
use Rattle.lines.specs.declared.numbering.Place.{Place as Spot}
use Rattle.lines.specs.Lines.{Judged, passed, misspelled, unfair, judge_by, same, predecessors, line_judged, judged_of}
use Rattle.lines.proofs.LineLaws.{value_column_lem}
use Rattle.lines.proofs.Taking.{line_less}
use Rattle.lines.specs.Numbered.{map_outcome, place_of, coded_line, three_lines, unfair_at, refusal_of}

-- the judged line at a place, with its number and the column at fault, and the refusal of a value that is not fair
abbrev numbered : (ℕ → ℕ → Refusal) → Place → Judged → Outcome ℕ
numbered refusal p (passed v rest) = done v (record { line = suc p.line; bytes = rest })
numbered refusal p (misspelled rest) = refused (Misspelled p.line (column_at p.bytes rest))
numbered refusal p (unfair rest) = refused (refusal p.line (column_at p.bytes rest))

numbered_judged : {A : Type 0} (coded : A → ℕ) (refusal : ℕ → ℕ → Refusal) (fair : A → Bool) (fault : List ℕ) (p : Place) (x : Scan A)
    → map_outcome coded (judged refusal (column_at p.bytes fault) fair p x) ≡ numbered refusal p (judge_by coded fair fault x)
numbered_judged coded refusal fair fault p (wrong rest) = refl
numbered_judged coded refusal fair fault p (read v rest) = by_test (fair v) (λ e. rw e) (λ e. rw e)

-- two tests that agree judge alike
judged_alike : {A : Type 0} (coded : A → ℕ) (f g : A → Bool) (fault : List ℕ) → ((a : A) → f a ≡ g a) → (x : Scan A)
    → judge_by coded f fault x ≡ judge_by coded g fault x
judged_alike coded f g fault h (wrong rest) = refl
judged_alike coded f g fault h (read v rest) = rw (h v)

-- the first digit of a number that is not fair stands behind the heading
first_digit : (k : ℕ) (p : Place)
    → number_line k p
    ≡ judged OutsideLimits (column_at p.bytes (value_in k p.bytes)) (within (key_at k).range) p (line (key_at k).name number p.bytes)
unfolding number_line
first_digit k p = by_heading (heading (key_at k).name p.bytes) refl
  where
    by_heading : (x : Scan (Unit {0})) → x ≡ heading (key_at k).name p.bytes
        → judged OutsideLimits (value_column k) (within (key_at k).range) p (line (key_at k).name number p.bytes)
        ≡ judged OutsideLimits (column_at p.bytes (value_in k p.bytes)) (within (key_at k).range) p (line (key_at k).name number p.bytes)
    by_heading (wrong r) e = rw (← e)
    by_heading (read tt r) e =
        ap (λ (c : ℕ). judged OutsideLimits c (within (key_at k).range) p (line (key_at k).name number p.bytes)) (sym (value_column_lem k p.bytes r e))

map_same : (x : Outcome ℕ) → map_outcome same x ≡ x
map_same (done v p) = refl
map_same (refused r) = refl

-- within the limits of a predecessor is every number of a list that keeps the rules
rising_within : (own last : ℕ) (l : List ℕ) → own ≤ (Limits.nodes).to → rising own last l ≡ true → all? (in_range (coded Limits.predecessor)) l ≡ true
unfolding rising
rising_within own last [] h e = refl
rising_within own last (x ∷ xs) h e =
    let here = first_of_lem (ltb last x && ltb x own) (rising own x xs) e in
    let above = ltb-true last x (first_of_lem (ltb last x) (ltb x own) here) in
    let below = ltb-true x own (second_of (ltb last x) (ltb x own) here) in
    rw (le-leb 1 x (omega arith), le-leb x (Limits.predecessor).to (omega arith)) (rising_within own x xs h (second_of (ltb last x && ltb x own) (rising own x xs) e))

fair_orderly : (own : ℕ) (l : List ℕ) → own ≤ (Limits.nodes).to → fair_list predecessors own l ≡ orderly own l
unfolding Keys.keys orderly
fair_orderly own [] h = refl
fair_orderly own (x ∷ xs) h =
    by_test (rising own 0 (x ∷ xs))
    (λ t. rw (t, rising_within own 0 (x ∷ xs) h t))
    (λ t. rw t (and-false (all? (in_range (coded Limits.predecessor)) (x ∷ xs))))

coded_numbered : (k own : ℕ) (p : Place) → own ≤ (Limits.nodes).to → coded_line k own p ≡ numbered (unfair_at k) p (line_judged k own p.bytes)
unfolding after_line
coded_numbered k own p h =
    by_test (eqb k Keys.after)
    (λ t. rw t
    (numbered_judged mask_of AgainstPredecessorRules (orderly own) (fault Keys.after) p (scan Keys.after)
    ∙ ap (numbered AgainstPredecessorRules p) (judged_alike mask_of (orderly own) (fair_list predecessors own) (fault Keys.after) (λ l. sym (fair_orderly own l h)) (scan Keys.after))
    ∙ ap (λ (i : ℕ). numbered AgainstPredecessorRules p (judge_by mask_of (fair_list predecessors own) (fault i) (scan i))) (sym (eqb-true k Keys.after t))))
    (λ t. rw t
    (sym (map_same (number_line k p)) ∙ ap (map_outcome same) (first_digit k p)
    ∙ numbered_judged same OutsideLimits (within (key_at k).range) (value_in k p.bytes) p (line (key_at k).name number p.bytes)))
  where
    fault : ℕ → List ℕ
    fault i = offending own (value_in i p.bytes)

    scan : ℕ → Scan (List ℕ)
    scan i = line (key_at i).name list p.bytes

-- what code makes of a line that is judged so, in the rules' terms: a value, and a refusal
module _ (s : List ℕ) (place : Spot) (k own : ℕ) (few : own ≤ (Limits.nodes).to) where
  abbrev here : Place
  here = place_of s place

  pub line_read : (v p : ℕ) → passed v (drop p s) ≡ line_judged k own here.bytes
      → done v (record { line = place.line + 1; bytes = drop p s }) ≡ coded_line k own here
  line_read v p j =
      ap (λ (n : ℕ). done v (record { line = n; bytes = drop p s })) (add-one place.line) ∙ ap (numbered (unfair_at k) here) j
      ∙ sym (coded_numbered k own here few)

  pub line_refused : (f : Fault) → judged_of s (Err f) ≡ line_judged k own here.bytes → refused (refusal_of s place k f) ≡ coded_line k own here
  line_refused f j = same f ∙ ap (numbered (unfair_at k) here) j ∙ sym (coded_numbered k own here few)
    where
      same : (f : Fault) → refused (refusal_of s place k f) ≡ numbered (unfair_at k) here (judged_of s (Err f))
      same (Fault.Misspelled p) = refl
      same (Fault.Unfair p) = refl

-- the next line follows, and leaves less
pub coded_goes : (k own : ℕ) (p : Place) → own ≤ (Limits.nodes).to
    → Holds (λ v q. (q.line ≡ suc p.line) × (length q.bytes + 1 ≤ length p.bytes)) (coded_line k own p)
coded_goes k own p few = rw (coded_numbered k own p few) (goes (line_judged k own p.bytes) refl)
  where
    goes : (x : Judged) → x ≡ line_judged k own p.bytes
        → Holds (λ v q. (q.line ≡ suc p.line) × (length q.bytes + 1 ≤ length p.bytes)) (numbered (unfair_at k) p x)
    goes (passed v rest) e = (refl, line_less k own v p.bytes rest e)
    goes (misspelled rest) e = tt
    goes (unfair rest) e = tt

pub three_go : (k l m own : ℕ) (p : Place) → own ≤ (Limits.nodes).to
    → Holds (λ t q. (q.line ≡ p.line + 3) × (length q.bytes + 3 ≤ length p.bytes)) (three_lines k l m own p)
unfolding three_lines
three_go k l m own p few =
    then_holds _ _ (coded_line k own p) _ (coded_goes k own p few) (λ a q h.
    then_holds _ _ (coded_line l own q) _ (coded_goes l own q few) (λ b r i.
    then_holds _ _ (coded_line m own r) _ (coded_goes m own r few) (λ c t j. (omega (arith, h.0, i.0, j.0), omega (arith, h.1, i.1, j.1)))))

module _ (k own : ℕ) (p : Place) where
  -- the next line follows
  pub coded_holds : Holds (λ v q. q.line ≡ suc p.line) (coded_line k own p)
  coded_holds =
      by_test (eqb k Keys.after)
      (λ t. rw t (masked (after_line own p) (after_line_holds own p)))
      (λ t. rw t (plain (number_line k p) (number_line_holds k p)))
    where
      masked : (x : Outcome (List ℕ)) → Holds (λ v q. (orderly own v ≡ true) × (q.line ≡ suc p.line)) x
          → Holds (λ v q. q.line ≡ suc p.line) (map_outcome mask_of x)
      masked (refused r) h = tt
      masked (done v q) h = h.1

      plain : (x : Outcome ℕ) → Holds (λ v q. (within (key_at k).range v ≡ true) × (q.line ≡ suc p.line)) x → Holds (λ v q. q.line ≡ suc p.line) x
      plain (refused r) h = tt
      plain (done v q) h = h.1

-- three lines, the last of which is that of a number
pub three_holds : (k l m own : ℕ) (p : Place) → eqb m Keys.after ≡ false
    → Holds (λ t q. (within (key_at m).range t.third ≡ true) × (q.line ≡ p.line + 3)) (three_lines k l m own p)
unfolding three_lines
three_holds k l m own p e =
    then_holds _ _ (coded_line k own p) _ (coded_holds k own p) (λ a q h.
    then_holds _ _ (coded_line l own q) _ (coded_holds l own q) (λ b r i.
    rw e (then_holds _ _ (number_line m r) _ (number_line_holds m r) (λ n t j. (j.0, omega (arith, h, i, j.1))))))
