-- The bytes of a list and of a line are read back (`list_read`, `line_read`), and where a list or a line is read its bytes stand (`list_scanned`,
-- `line_scanned`).
use mathlib.Core.Path.{◌≡◌, refl, sym, ap, ◌∙◌}
use mathlib.Core.Bool.{Bool, true, false}
use mathlib.Core.List.{List, [], ◌∷◌, ◌++◌, tail, append_assoc}
use Prim.Native.Nat.{ℕ, zero, suc, ◌+◌, ◌/◌, ◌%◌, ◌≤◌, ◌<◌}
use native.Mathlib.Omega.{arith}
use lib.Dec.{eqb}
use lib.ListN.{length, length-append}
use borrow.Author.Tests.{eq-eqb, ne_eqb, eqb-true}
use Rattle.schedule.proofs.Tests.{by_lt, by_test}
use Rattle.format.specs.Bytes.{bytes, line_feed, equals, comma, digit_zero, decimal}
use Rattle.format.specs.Spelling.{Scan, read, wrong, ◌⟫◌, text, number, next?, numbers_by, numbers, letter_n, list, heading, line}
use Rattle.format.proofs.Decimal.{decimal_one, decimal_more}
use Rattle.format.proofs.ReadBack.{number_read_back}
use Rattle.writer.specs.Writing.{numbers_text, list_text}
use Rattle.writer.proofs.Scanned.{Scanned, number_scanned}

module _ {A B : Type 0} where
  pub then_scanned : (P : A → List ℕ → Type 0) (Q : B → List ℕ → Type 0) (x : Scan A) (f : A → List ℕ → Scan B)
      → Scanned P x → ((a : A) (rest : List ℕ) → P a rest → Scanned Q (f a rest)) → Scanned Q (x ⟫ f)
  then_scanned P Q (read a rest) f h g = g a rest h
  then_scanned P Q (wrong rest) f h g = tt

text_read : (t rest : List ℕ) → text t (t ++ rest) ≡ read tt rest
unfolding text
text_read [] rest = refl
text_read (c ∷ t) rest = rw (eq-eqb c c refl) (text_read t rest)

text_scanned : (t s : List ℕ) → Scanned (λ u rest. s ≡ t ++ rest) (text t s)
unfolding text
text_scanned [] s = refl
text_scanned (c ∷ t) [] = tt
text_scanned (c ∷ t) (d ∷ s) = by_test (eqb d c) (λ e. rw e (more (eqb-true d c e) (text t s) (text_scanned t s))) (λ e. rw e tt)
  where
    more : d ≡ c → (x : Scan (Unit {0})) → Scanned (λ u rest. s ≡ t ++ rest) x → Scanned (λ u rest. d ∷ s ≡ c ∷ (t ++ rest)) x
    more e (read u rest) h = rw (e, h) refl
    more e (wrong rest) h = tt

-- a decimal number begins with no letter
first_of_one : (n : ℕ) (rest : List ℕ) → n < 10 → next? letter_n (decimal n ++ rest) ≡ false
first_of_one n rest h = rw (decimal_one n h) (ne_eqb (digit_zero + n) letter_n (λ e. omega arith))

decimal_first : (m n : ℕ) (rest : List ℕ) → n ≤ m → next? letter_n (decimal n ++ rest) ≡ false
decimal_first zero n rest b = first_of_one n rest (omega arith)
decimal_first (suc m) n rest b =
    by_lt n 10 (first_of_one n rest) (λ h. more h (decimal_first m (n / 10) ((digit_zero + n % 10) ∷ rest) (omega arith)))
  where
    more : 10 ≤ n → next? letter_n (decimal (n / 10) ++ ((digit_zero + n % 10) ∷ rest)) ≡ false → next? letter_n (decimal n ++ rest) ≡ false
    more h i =
        ap (λ (l : List ℕ). next? letter_n (l ++ rest)) (decimal_more n h)
        ∙ ap (next? letter_n) (append_assoc (decimal (n / 10)) ((digit_zero + n % 10) ∷ []) rest)
        ∙ i

numbers_first : (v : ℕ) (vs rest : List ℕ) → next? letter_n (numbers_text v vs rest) ≡ false
unfolding numbers_text
numbers_first v [] rest = decimal_first v v rest (omega arith)
numbers_first v (w ∷ ws) rest = decimal_first v v (comma ∷ numbers_text w ws rest) (omega arith)

numbers_by_read : (most v : ℕ) (vs rest : List ℕ) → length vs ≤ most
    → numbers_by (suc most) (numbers_text v vs (line_feed ∷ rest)) ≡ read (v ∷ vs) (line_feed ∷ rest)
unfolding numbers_by numbers_text
numbers_by_read most v [] rest b = rw (number_read_back v line_feed rest refl) refl
numbers_by_read zero v (w ∷ ws) rest b = absurd (omega arith)
numbers_by_read (suc most) v (w ∷ ws) rest b =
    rw (number_read_back v comma (numbers_text w ws (line_feed ∷ rest)) refl, numbers_by_read most w ws rest (omega arith)) refl

numbers_long : (v : ℕ) (vs rest : List ℕ) → length vs ≤ length (numbers_text v vs rest)
unfolding numbers_text
numbers_long v [] rest = omega arith
numbers_long v (w ∷ ws) rest = rw (length-append (decimal v) (comma ∷ numbers_text w ws rest)) (let i = numbers_long w ws rest in omega (arith, i))

pub list_read : (vs rest : List ℕ) → list (list_text vs (line_feed ∷ rest)) ≡ read vs (line_feed ∷ rest)
unfolding list list_text numbers text
list_read [] rest = refl
list_read (v ∷ vs) rest =
    let s = numbers_text v vs (line_feed ∷ rest) in
    rw (numbers_first v vs (line_feed ∷ rest), numbers_by_read (length s) v vs rest (numbers_long v vs (line_feed ∷ rest))) refl

-- a list that is not empty
abbrev pub Numbered : List ℕ → List ℕ → List ℕ → Type 0
Numbered s [] rest = ⊥
Numbered s (v ∷ vs) rest = s ≡ numbers_text v vs rest

comma_next : (s : List ℕ) → next? comma s ≡ true → s ≡ comma ∷ tail s
comma_next [] e = absurd (let z : ◌≡◌ {A = ℕ} 0 1 = cc in omega arith)
comma_next (c ∷ s) e = ap (λ (k : ℕ). k ∷ s) (eqb-true c comma e)

numbers_by_scanned : (most : ℕ) (s : List ℕ) → Scanned (Numbered s) (numbers_by most s)
unfolding numbers_by numbers_text
numbers_by_scanned zero s = tt
numbers_by_scanned (suc most) s =
    then_scanned _ _ (number s) _ (number_scanned s) (λ v rest h.
    by_test (next? comma rest)
    (λ e. rw e (then_scanned _ _ (numbers_by most (tail rest)) _ (numbers_by_scanned most (tail rest)) (λ vs end i. more v rest vs end h (comma_next rest e) i)))
    (λ e. rw e (one v rest h)))
  where
    one : (v : ℕ) (rest : List ℕ) → s ≡ decimal v ++ rest → Numbered s (v ∷ []) rest
    one v rest h = h

    more : (v : ℕ) (rest vs end : List ℕ) → s ≡ decimal v ++ rest → rest ≡ comma ∷ tail rest → Numbered (tail rest) vs end → Numbered s (v ∷ vs) end
    more v rest [] end h c i = absurd i
    more v rest (w ∷ ws) end h c i = h ∙ ap (λ (l : List ℕ). decimal v ++ l) (c ∙ ap (λ (l : List ℕ). comma ∷ l) i)

pub list_scanned : (s : List ℕ) → Scanned (λ vs rest. s ≡ list_text vs rest) (list s)
unfolding list list_text numbers
list_scanned s =
    by_test (next? letter_n s)
    (λ e. rw e (then_scanned _ _ (text (bytes "none") s) _ (text_scanned (bytes "none") s) (λ u rest h. h)))
    (λ e. rw e (some (numbers_by (suc (length s)) s) (numbers_by_scanned (suc (length s)) s)))
  where
    some : (x : Scan (List ℕ)) → Scanned (Numbered s) x → Scanned (λ vs rest. s ≡ list_text vs rest) x
    some (wrong rest) h = tt
    some (read [] rest) h = absurd h
    some (read (v ∷ vs) rest) h = h

module _ {A : Type 0} where
  pub line_read : (name : List ℕ) (value : List ℕ → Scan A) (v : A) (s rest : List ℕ) → value s ≡ read v (line_feed ∷ rest)
      → line name value (name ++ (equals ∷ s)) ≡ read v rest
  unfolding text
  line_read name value v s rest e = rw (text_read name (equals ∷ s), e) refl

  -- W v rest are the bytes of v and then `rest`
  pub line_scanned : (name : List ℕ) (value : List ℕ → Scan A) (W : A → List ℕ → List ℕ)
      → ((s : List ℕ) → Scanned (λ v rest. s ≡ W v rest) (value s))
      → (s : List ℕ) → Scanned (λ v rest. s ≡ name ++ (equals ∷ W v (line_feed ∷ rest))) (line name value s)
  line_scanned name value W h s =
      then_scanned _ _ (heading name s) _
      (then_scanned (λ u rest. s ≡ name ++ rest) (λ u rest. s ≡ name ++ (equals ∷ rest)) (text name s) _ (text_scanned name s)
      (λ u r i. headed r i (text (equals ∷ []) r) (text_scanned (equals ∷ []) r))) (λ u r i.
      then_scanned _ _ (value r) _ (h r) (λ v t j.
      then_scanned _ _ (text (line_feed ∷ []) t) _ (text_scanned (line_feed ∷ []) t) (λ u end k.
      i ∙ ap (λ (l : List ℕ). name ++ (equals ∷ l)) (j ∙ ap (W v) k))))
    where
      headed : (r : List ℕ) → s ≡ name ++ r → (x : Scan (Unit {0})) → Scanned (λ u rest. r ≡ equals ∷ rest) x → Scanned (λ u rest. s ≡ name ++ (equals ∷ rest)) x
      headed r i (read u rest) j = i ∙ ap (λ (l : List ℕ). name ++ l) j
      headed r i (wrong rest) j = tt
