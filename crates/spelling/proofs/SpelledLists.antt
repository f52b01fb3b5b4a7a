-- Lists, `none` or numbers parted by single commas, with LF behind them: their scanner is lawful.
use mathlib.Core.Path.{◌≡◌, refl, sym, ap, ◌∙◌, subst}
use mathlib.Core.Bool.{Bool, true, false, cond}
use mathlib.Core.List.{List, [], ◌∷◌, ◌++◌, append_assoc, tail}
use Prim.Native.Nat.{ℕ, zero, suc, ◌+◌, ◌≤◌, ◌<◌}
use native.Mathlib.Nat.{not-suc-le-zero}
use native.Mathlib.Omega.{arith}
use lib.Dec.{eqb}
use lib.ListN.{length, length-append}
use borrow.Author.Tests.{eqb-true}
use Rattle.schedule.proofs.Tests.{by_test}
use Rattle.format.specs.Bytes.{bytes, line_feed, comma, decimal}
use Rattle.format.specs.Spelling.{Scan, read, wrong, ◌⟫◌, text, number, next?, numbers_by, numbers, letter_n, list}
use Rattle.spelling.specs.WellSpelled.{written_numbers, written_list}
use Rattle.format.proofs.ReadBack.{number_read_back}
use Rattle.spelling.proofs.Spelled.{no_byte, Found, Lawful, lawful_behind}
use Rattle.spelling.proofs.SpelledNumbers.{NumberFound, number_found, closing, ended}

-- numbers, the last with LF behind it, where at most m are looked for
abbrev several : ℕ → List ℕ → Scan (List ℕ)
several m = ended (numbers_by m)

abbrev written : ℕ → List ℕ → List ℕ
written v ws = written_numbers v ws ++ (line_feed ∷ [])

abbrev with_first_lem : ℕ → List ℕ → List ℕ → Scan (List ℕ)
with_first_lem v vs end = read (v ∷ vs) end

-- by the first number
abbrev from : ℕ → Scan ℕ → Scan (List ℕ)
from m x =
    (x ⟫ λ v rest.
    let more : Scan (List ℕ) = numbers_by m (tail rest) ⟫ (λ vs end. read (v ∷ vs) end) in
    cond (next? comma rest) more (read (v ∷ []) rest)) ⟫ closing

several_from : (m : ℕ) (s : List ℕ) → several (suc m) s ≡ from m (number s)
unfolding numbers_by
several_from m s = refl

-- the others come behind the comma
behind_comma : (m v : ℕ) (r : List ℕ) → from m (read v (comma ∷ r)) ≡ several m r ⟫ with_first_lem v
unfolding text
behind_comma m v r = onward (numbers_by m r)
  where
    ends : (vs s : List ℕ) (y : Scan (Unit {0})) → (y ⟫ λ u end. read (v ∷ vs) end) ≡ (y ⟫ λ u end. read vs end) ⟫ with_first_lem v
    ends vs s (read u rest) = refl
    ends vs s (wrong rest) = refl

    onward : (x : Scan (List ℕ)) → (x ⟫ with_first_lem v) ⟫ closing ≡ (x ⟫ closing) ⟫ with_first_lem v
    onward (read vs rest) = ends vs rest (text (line_feed ∷ []) rest)
    onward (wrong rest) = refl

-- every list that is written is read
several_complete : (ws : List ℕ) (v m : ℕ) (rest : List ℕ) → length (written v ws ++ rest) < m → several m (written v ws ++ rest) ≡ read (v ∷ ws) rest
unfolding written_numbers text
several_complete ws v zero rest h = absurd (not-suc-le-zero h)
several_complete [] v (suc m) rest h =
    several_from m (written v [] ++ rest) ∙ ap (from m) (ap number (append_assoc (decimal v) (line_feed ∷ []) rest) ∙ number_read_back v line_feed rest refl)
several_complete (w ∷ ws) v (suc m) rest h =
    let parted : written v (w ∷ ws) ++ rest ≡ decimal v ++ (comma ∷ (written w ws ++ rest)) =
    ap (λ (l : List ℕ). l ++ rest) (append_assoc (decimal v) (comma ∷ written_numbers w ws) (line_feed ∷ []))
    ∙ append_assoc (decimal v) (comma ∷ written w ws) rest in
    several_from m (written v (w ∷ ws) ++ rest)
    ∙ ap (from m) (ap number parted ∙ number_read_back v comma (written w ws ++ rest) refl)
    ∙ behind_comma m v (written w ws ++ rest)
    ∙ ap (λ (x : Scan (List ℕ)). x ⟫ with_first_lem v)
    (several_complete ws w m rest (omega (arith, ap length parted, length-append (decimal v) (comma ∷ (written w ws ++ rest)), h)))

-- where it goes wrong, whatever bound is looked to
record NotSpelled (s rest : List ℕ) : Type 0 where
  pub before : List ℕ
  pub parted : s ≡ before ++ rest
  pub first : ℕ
  pub others : List ℕ
  pub more : List ℕ
  pub begins : before ++ more ≡ written first others
  pub stays : (c : ℕ) (r t : List ℕ) (m : ℕ) → rest ≡ c ∷ r → length (before ++ (c ∷ t)) < m → several m (before ++ (c ∷ t)) ≡ wrong (c ∷ t)

abbrev SeveralFound : List ℕ → Scan (List ℕ) → Type 0
SeveralFound s (read vs rest) = (v : ℕ) × (ws : List ℕ) × (vs ≡ v ∷ ws) × (s ≡ written v ws ++ rest)
SeveralFound s (wrong rest) = NotSpelled s rest

-- the first number, and what is found behind its comma
module _ (m : ℕ) (s : List ℕ) (h : length s < suc m) (ih : (r : List ℕ) → length r < m → SeveralFound r (several m r)) where
  no_number : (rest : List ℕ) → NumberFound s (wrong rest) → NotSpelled s rest
  no_number rest (e, f) =
      record { before = []; parted = e; first = 0; others = []; more = written 0 []; begins = refl; stays = λ c r t k g l. stay c r t k g l }
    where
      stay : (c : ℕ) (r t : List ℕ) (k : ℕ) → rest ≡ c ∷ r → length (c ∷ t) < k → several k (c ∷ t) ≡ wrong (c ∷ t)
      stay c r t zero g l = absurd (not-suc-le-zero l)
      stay c r t (suc k) g l = several_from k (c ∷ t) ∙ ap (from k) (f c r t (e ∙ g))

  -- it ends the text
  one_cut_off : (v : ℕ) → NumberFound s (read v []) → NotSpelled s []
  unfolding written_numbers
  one_cut_off v (e, f) =
      record { before = decimal v; parted = e; first = v; others = []; more = line_feed ∷ []; begins = refl; stays = λ c r t k g l. absurd (no_byte g) }

  -- neither a comma nor LF follows it
  one_broken : (v x : ℕ) (r : List ℕ) → NumberFound s (read v (x ∷ r)) → eqb x comma ≡ false → eqb x line_feed ≡ false → NotSpelled s (x ∷ r)
  unfolding written_numbers text
  one_broken v x r (e, f) a b =
      record { before = decimal v; parted = e; first = v; others = []; more = line_feed ∷ []; begins = refl; stays = λ c q t k g l. stay c q t k g l }
    where
      stay : (c : ℕ) (q t : List ℕ) (k : ℕ) → x ∷ r ≡ c ∷ q → length (decimal v ++ (c ∷ t)) < k → several k (decimal v ++ (c ∷ t)) ≡ wrong (c ∷ t)
      stay c q t zero g l = absurd (not-suc-le-zero l)
      stay c q t (suc k) g l =
          let i : x ≡ c = cc in
          several_from k (decimal v ++ (c ∷ t)) ∙ ap (from k) (f c q t g) ∙ rw (← i, a, b)

  one_read : (v x : ℕ) (r : List ℕ) → NumberFound s (read v (x ∷ r)) → eqb x line_feed ≡ true → s ≡ written v [] ++ r
  unfolding written_numbers
  one_read v x r (e, f) b = e ∙ ap (λ (c : ℕ). decimal v ++ (c ∷ r)) (eqb-true x line_feed b) ∙ sym (append_assoc (decimal v) (line_feed ∷ []) r)

  -- behind the comma
  module _ (v : ℕ) (r : List ℕ) (e : s ≡ decimal v ++ (comma ∷ r)) (f : (t : List ℕ) → number (decimal v ++ (comma ∷ t)) ≡ read v (comma ∷ t)) where
    short : length r < m
    short = omega (arith, ap length e, length-append (decimal v) (comma ∷ r), h)

    later : (y : Scan (List ℕ)) → SeveralFound r y → SeveralFound s (y ⟫ with_first_lem v)
    unfolding written_numbers
    later (read vs rest) (w, ws, p, q) = (
      v,
      vs,
      refl,
      rw p
          (e ∙ ap (λ (l : List ℕ). decimal v ++ (comma ∷ l)) q
          ∙ sym (ap (λ (l : List ℕ). l ++ rest) (append_assoc (decimal v) (comma ∷ written_numbers w ws) (line_feed ∷ []))
          ∙ append_assoc (decimal v) (comma ∷ written w ws) rest)),
    )
    later (wrong rest) q =
        record {
          before = decimal v ++ (comma ∷ q.before);
          parted = e ∙ ap (λ (l : List ℕ). decimal v ++ (comma ∷ l)) q.parted ∙ sym (append_assoc (decimal v) (comma ∷ q.before) rest);
          first = v;
          others = q.first ∷ q.others;
          more = q.more;
          begins =
              append_assoc (decimal v) (comma ∷ q.before) q.more
              ∙ ap (λ (l : List ℕ). decimal v ++ (comma ∷ l)) q.begins
              ∙ sym (append_assoc (decimal v) (comma ∷ written_numbers q.first q.others) (line_feed ∷ []));
          stays = λ c z t k g l. stay c z t k g l;
        }
      where
        stay : (c : ℕ) (z t : List ℕ) (k : ℕ) → rest ≡ c ∷ z → length ((decimal v ++ (comma ∷ q.before)) ++ (c ∷ t)) < k
            → several k ((decimal v ++ (comma ∷ q.before)) ++ (c ∷ t)) ≡ wrong (c ∷ t)
        stay c z t zero g l = absurd (not-suc-le-zero l)
        stay c z t (suc k) g l =
            let b : (decimal v ++ (comma ∷ q.before)) ++ (c ∷ t) ≡ decimal v ++ (comma ∷ (q.before ++ (c ∷ t))) = append_assoc (decimal v) (comma ∷ q.before) (c ∷ t) in
            several_from k ((decimal v ++ (comma ∷ q.before)) ++ (c ∷ t))
            ∙ ap (from k) (ap number b ∙ f (q.before ++ (c ∷ t)))
            ∙ behind_comma k v (q.before ++ (c ∷ t))
            ∙ ap (λ (y : Scan (List ℕ)). y ⟫ with_first_lem v)
            (q.stays c z t k g (omega (arith, ap length b, length-append (decimal v) (comma ∷ (q.before ++ (c ∷ t))), l)))

  first_found : (x : Scan ℕ) → NumberFound s x → SeveralFound s (from m x)
  unfolding text
  first_found (wrong rest) f = no_number rest f
  first_found (read v []) f = one_cut_off v f
  first_found (read v (x ∷ r)) f =
      by_test (eqb x comma) more
      (λ a. by_test (eqb x line_feed) (λ b. rw (a, b) (v, [], refl, one_read v x r f b)) (λ b. rw (a, b) (one_broken v x r f a b)))
    where
      more : eqb x comma ≡ true → SeveralFound s (from m (read v (x ∷ r)))
      more a =
          let i = eqb-true x comma a in
          let e : s ≡ decimal v ++ (comma ∷ r) = f.0 ∙ ap (λ (c : ℕ). decimal v ++ (c ∷ r)) i in
          subst (λ (c : ℕ). SeveralFound s (from m (read v (c ∷ r)))) (sym i)
          (subst (SeveralFound s) (sym (behind_comma m v r))
          (later v r e (λ t. subst (λ (c : ℕ). number (decimal v ++ (c ∷ t)) ≡ read v (c ∷ t)) i (f.1 x r t refl)) (several m r) (ih r (short v r e (λ t. subst (λ (c : ℕ). number (decimal v ++ (c ∷ t)) ≡ read v (c ∷ t)) i (f.1 x r t refl))))))

several_found : (m : ℕ) (s : List ℕ) → length s < m → SeveralFound s (several m s)
several_found zero s h = absurd (not-suc-le-zero h)
several_found (suc m) s h =
    subst (SeveralFound s) (sym (several_from m s)) (first_found m s h (λ r l. several_found m r l) (number s) (number_found s))

-- an n begins no number
no_number_at_n : (s : List ℕ) (m : ℕ) → next? letter_n s ≡ true → several (suc m) s ≡ wrong s
unfolding number
no_number_at_n [] m e = absurd (let z : ◌≡◌ {A = ℕ} 0 1 = cc in omega arith)
no_number_at_n (x ∷ s) m e = let i = eqb-true x letter_n e in rw i (several_from m (letter_n ∷ s))

-- the rest of `none`, and LF
abbrev rest_of_none : List ℕ → Scan (Unit {0})
rest_of_none s = text (bytes "one") s ⟫ λ u rest. text (line_feed ∷ []) rest ⟫ λ u end. read tt end

plain : Lawful (λ (u : Unit {0}). []) (λ (s : List ℕ). read tt s)
plain = record { complete = complete; found = λ s. refl }
  where
    complete : (u : Unit {0}) (rest : List ℕ) → ◌≡◌ {A = Scan (Unit {0})} (read tt rest) (read u rest)
    complete tt rest = refl

lawful_none : Lawful (λ (u : Unit {0}). bytes "one" ++ (line_feed ∷ [])) rest_of_none
lawful_none =
    lawful_behind (λ (u : Unit {0}). line_feed ∷ []) (λ s. text (line_feed ∷ []) s ⟫ λ u end. read tt end) tt
    (lawful_behind (λ (u : Unit {0}). []) (λ s. read tt s) tt plain (line_feed ∷ [])) (bytes "one")

abbrev no_entries_lem : Scan (Unit {0}) → Scan (List ℕ)
no_entries_lem (read u rest) = read [] rest
no_entries_lem (wrong rest) = wrong rest

at_n : (s : List ℕ) → ended list (letter_n ∷ s) ≡ no_entries_lem (rest_of_none s)
unfolding list text
at_n s = onward (text (bytes "one") s)
  where
    ends : (y : Scan (Unit {0})) → (y ⟫ λ u end. read [] end) ≡ no_entries_lem (y ⟫ λ u end. read tt end)
    ends (read u rest) = refl
    ends (wrong rest) = refl

    onward : (x : Scan (Unit {0})) → ((x ⟫ (λ u rest. read [] rest)) ⟫ closing) ≡ no_entries_lem (x ⟫ λ u rest. text (line_feed ∷ []) rest ⟫ λ u end. read tt end)
    onward (read u rest) = ends (text (line_feed ∷ []) rest)
    onward (wrong rest) = refl

else_numbers : (s : List ℕ) → next? letter_n s ≡ false → ended list s ≡ several (suc (length s)) s
unfolding list numbers
else_numbers s e = rw e

same_first : (b : List ℕ) (c : ℕ) (r t : List ℕ) → next? letter_n (b ++ (c ∷ t)) ≡ next? letter_n (b ++ (c ∷ r))
same_first [] c r t = refl
same_first (x ∷ b) c r t = refl

abbrev listed : List ℕ → List ℕ
listed vs = written_list vs ++ (line_feed ∷ [])

pub lawful_list : Lawful listed (ended list)
lawful_list = record { complete = complete; found = found }
  where
    complete : (vs : List ℕ) (rest : List ℕ) → ended list (listed vs ++ rest) ≡ read vs rest
    complete [] rest = at_n ((bytes "one" ++ (line_feed ∷ [])) ++ rest) ∙ ap no_entries_lem (lawful_none.complete tt rest)
    complete (v ∷ ws) rest =
        let s = written v ws ++ rest in
        let reads = several_complete ws v (suc (length s)) rest (omega arith) in
        by_test (next? letter_n s)
        (λ e. absurd (let f = sym reads ∙ no_number_at_n s (length s) e in let z : ◌≡◌ {A = ℕ} 0 1 = cc in omega arith))
        (λ e. else_numbers s e ∙ reads)

    at_none : (s : List ℕ) (y : Scan (Unit {0})) → Found (λ (u : Unit {0}). bytes "one" ++ (line_feed ∷ [])) rest_of_none s y → Found listed (ended list) (letter_n ∷ s) (no_entries_lem y)
    at_none s (read u rest) h = ap (λ (l : List ℕ). letter_n ∷ l) h
    at_none s (wrong rest) h =
        record {
          before = letter_n ∷ h.before;
          parted = ap (λ (l : List ℕ). letter_n ∷ l) h.parted;
          value = [];
          more = h.more;
          begins = ap (λ (l : List ℕ). letter_n ∷ l) h.begins;
          stays = λ c r t g. at_n (h.before ++ (c ∷ t)) ∙ ap no_entries_lem (h.stays c r t g);
        }

    of_numbers : (s : List ℕ) → next? letter_n s ≡ false → (y : Scan (List ℕ)) → SeveralFound s y → Found listed (ended list) s y
    of_numbers s e (read vs rest) (v, ws, p, q) = rw p q
    of_numbers s e (wrong rest) q =
        record {
          before = q.before;
          parted = q.parted;
          value = q.first ∷ q.others;
          more = q.more;
          begins = q.begins;
          stays = λ c r t g.
              else_numbers (q.before ++ (c ∷ t)) (same_first q.before c r t ∙ ap (next? letter_n) (sym (q.parted ∙ ap (λ (l : List ℕ). q.before ++ l) g)) ∙ e)
              ∙ q.stays c r t (suc (length (q.before ++ (c ∷ t)))) g (omega arith);
        }

    found : (s : List ℕ) → Found listed (ended list) s (ended list s)
    found [] = subst (Found listed (ended list) []) (sym (else_numbers [] refl)) (of_numbers [] refl (several 1 []) (several_found 1 [] (omega arith)))
    found (x ∷ s) =
        by_test (eqb x letter_n)
        (λ e. subst (λ (c : ℕ). Found listed (ended list) (c ∷ s) (ended list (c ∷ s))) (sym (eqb-true x letter_n e))
        (subst (Found listed (ended list) (letter_n ∷ s)) (sym (at_n s)) (at_none s (rest_of_none s) (lawful_none.found s))))
        (λ e. subst (Found listed (ended list) (x ∷ s)) (sym (else_numbers (x ∷ s) e))
        (of_numbers (x ∷ s) e (several (suc (length (x ∷ s))) (x ∷ s)) (several_found (suc (length (x ∷ s))) (x ∷ s) (omega arith))))
