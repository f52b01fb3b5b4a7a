-- Numbers, one alone or several parted by commas, each with LF behind it: their scanners are lawful.
use mathlib.Core.Path.{◌≡◌, refl, sym, ap, ◌∙◌, subst}
use mathlib.Core.Bool.{Bool, true, false, ◌&&◌, cond}
use mathlib.Core.List.{List, [], ◌∷◌, ◌++◌, append_assoc, append-nil, tail}
use Prim.Native.Nat.{ℕ, zero, suc, ◌+◌, ◌*◌, ◌-◌, ◌/◌, ◌%◌, ◌≤◌, ◌<◌}
use native.Mathlib.Nat.{not-suc-le-zero}
use native.Mathlib.Omega.{arith}
use lib.Dec.{leb, eqb}
use lib.ListN.{length, length-append}
use borrow.Author.Tests.{leb-true, leb-false, eqb-true, eqb-false}
use Rattle.schedule.proofs.Tests.{by_test}
use Rattle.format.specs.Bytes.{line_feed, comma, digit_zero, is_digit, value_of, decimal}
use Rattle.format.specs.Spelling.{Scan, read, wrong, ◌⟫◌, text, digits, number, next?, numbers_by}
use Rattle.spelling.specs.WellSpelled.{written_numbers}
use Rattle.format.proofs.Decimal.{decimal_one, decimal_more}
use Rattle.format.proofs.ReadBack.{number_read_back}
use Rattle.spelling.proofs.Spelled.{no_byte, Wrong, Found, Lawful}

-- a digit's byte is 48 to 57
digit_range : (c : ℕ) → is_digit c ≡ true → (digit_zero ≤ c) × (c ≤ digit_zero + 9)
digit_range c e =
    by_test (leb digit_zero c)
    (λ f. by_test (leb c (digit_zero + 9))
    (λ g. (leb-true digit_zero c f, leb-true c (digit_zero + 9) g))
    (λ g. absurd (no (rw (f, g) at e))))
    (λ f. absurd (no (rw f at e)))
  where
    no : false ≡ true → ⊥
    no q = let z : ◌≡◌ {A = ℕ} 0 1 = cc in omega arith

back : (c : ℕ) → digit_zero ≤ c → digit_zero + value_of c ≡ c
back c low = omega arith

some : (c : ℕ) → digit_zero ≤ c → (c ≡ digit_zero → ⊥) → 1 ≤ value_of c
some c low n = by_test (leb 1 (value_of c)) (λ t. leb-true 1 (value_of c) t) (λ t. absurd (n (let g = leb-false 1 (value_of c) t in omega arith)))

-- a digit more, in the number and in its digits
digit_appended : (v c : ℕ) (s : List ℕ) → is_digit c ≡ true → 1 ≤ v → decimal v ++ (c ∷ s) ≡ decimal (v * 10 + value_of c) ++ s
digit_appended v c s f h =
    let (low, high) = digit_range c f in
    let q : (v * 10 + value_of c) / 10 ≡ v = omega arith in
    let r : digit_zero + (v * 10 + value_of c) % 10 ≡ c = omega arith in
    sym (rw (decimal_more (v * 10 + value_of c) (omega arith), q, r) (append_assoc (decimal v) (c ∷ []) s))

digits_found : (s : List ℕ) (v : ℕ) → 1 ≤ v
    → (w : ℕ) × (rest : List ℕ) × (digits v s ≡ read w rest) × (decimal v ++ s ≡ decimal w ++ rest) × ((c : ℕ) (r : List ℕ) → rest ≡ c ∷ r → is_digit c ≡ false)
unfolding digits
digits_found [] v h = (v, [], refl, refl, λ c r e. absurd (no_byte e))
digits_found (c ∷ s) v h =
    by_test (is_digit c)
    (λ f.
    let (w, rest, a, b, n) = digits_found s (v * 10 + value_of c) (omega arith) in
    (w, rest, rw f a, digit_appended v c s f h ∙ b, n))
    (λ f. (v, c ∷ s, rw f, refl, λ d r e. let g : c ≡ d = cc in rw (← g) f))

-- what is found of a number, whatever follows it
abbrev pub NumberFound : List ℕ → Scan ℕ → Type 0
NumberFound s (wrong rest) = (s ≡ rest) × ((c : ℕ) (r t : List ℕ) → s ≡ c ∷ r → number (c ∷ t) ≡ wrong (c ∷ t))
NumberFound s (read v rest) = (s ≡ decimal v ++ rest) × ((c : ℕ) (r t : List ℕ) → rest ≡ c ∷ r → number (decimal v ++ (c ∷ t)) ≡ read v (c ∷ t))

pub number_found : (s : List ℕ) → NumberFound s (number s)
unfolding number
number_found [] = (refl, λ c r t e. absurd (no_byte e))
number_found (c ∷ s) =
    by_test (is_digit c)
    (λ f. by_test (eqb c digit_zero) (λ z. rw (f, z) (zero_first z)) (λ z. rw (f, z) (digit_first f z)))
    (λ f. rw f (refl, λ d r t e. let g : c ≡ d = cc in rw (← g, f)))
  where
    zero_first : eqb c digit_zero ≡ true → NumberFound (c ∷ s) (read 0 s)
    zero_first z =
        let e = eqb-true c digit_zero z in
        let d = decimal_one 0 (omega arith) in
        (rw (d, e), λ x r t g. rw d)

    digit_first : is_digit c ≡ true → eqb c digit_zero ≡ false → NumberFound (c ∷ s) (digits (value_of c) s)
    digit_first f z =
        let (low, high) = digit_range c f in
        let n = eqb-false c digit_zero z in
        let (w, rest, a, b, k) = digits_found s (value_of c) (some c low n) in
        let d : decimal (value_of c) ≡ c ∷ [] = decimal_one (value_of c) (omega arith) ∙ ap (λ (x : ℕ). x ∷ []) (back c low) in
        rw a (ap (λ (l : List ℕ). l ++ s) (sym d) ∙ b, λ x r t g. number_read_back w x t (k x r g))

-- LF behind a value
module _ {A : Type 0} where
  abbrev pub closing : A → List ℕ → Scan A
  closing v rest = text (line_feed ∷ []) rest ⟫ λ u end. read v end

  abbrev pub ended : (List ℕ → Scan A) → List ℕ → Scan A
  ended value s = value s ⟫ closing

-- a number, and LF or another byte behind it
abbrev pub fed : ℕ → List ℕ
fed v = decimal v ++ (line_feed ∷ [])

fed_last : (s : List ℕ) (v x : ℕ) (r : List ℕ) → s ≡ decimal v ++ (x ∷ r) → eqb x line_feed ≡ true → s ≡ fed v ++ r
fed_last s v x r e f = e ∙ ap (λ (c : ℕ). decimal v ++ (c ∷ r)) (eqb-true x line_feed f) ∙ sym (append_assoc (decimal v) (line_feed ∷ []) r)

fed_other : (s : List ℕ) (v x : ℕ) (r : List ℕ) → NumberFound s (read v (x ∷ r)) → eqb x line_feed ≡ false → Wrong fed (ended number) s (x ∷ r)
unfolding text
fed_other s v x r (e, h) f =
    record {
      before = decimal v;
      parted = e;
      value = v;
      more = line_feed ∷ [];
      begins = refl;
      stays = λ c q t g. let i : x ≡ c = cc in rw (h c q t g, ← i, f);
    }

-- a number is well spelled where its scanner reads it
pub lawful_number : Lawful fed (ended number)
unfolding text
lawful_number = record { complete = complete; found = λ s. onward s (number s) (number_found s) }
  where
    complete : (v : ℕ) (rest : List ℕ) → ended number (fed v ++ rest) ≡ read v rest
    complete v rest = rw (append_assoc (decimal v) (line_feed ∷ []) rest, number_read_back v line_feed rest refl)

    onward : (s : List ℕ) (x : Scan ℕ) → NumberFound s x → Found fed (ended number) s (x ⟫ closing)
    onward s (wrong rest) (e, h) =
        record { before = []; parted = e; value = 0; more = fed 0; begins = refl; stays = λ c r t g. rw (h c r t (e ∙ g)) }
    onward s (read v []) (e, h) =
        record { before = decimal v; parted = e; value = v; more = line_feed ∷ []; begins = refl; stays = λ c r t g. absurd (no_byte g) }
    onward s (read v (x ∷ r)) h =
        by_test (eqb x line_feed) (λ f. rw f (fed_last s v x r h.0 f)) (λ f. rw f (fed_other s v x r h f))
