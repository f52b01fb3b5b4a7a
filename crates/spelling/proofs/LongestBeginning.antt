-- Where a line's spelling goes wrong is the end of the longest beginning that a well-spelled line shares: the scanner is not its own judge.
use mathlib.Core.Path.{◌≡◌, refl, sym, ap, ◌∙◌, subst}
use mathlib.Core.List.{List, [], ◌∷◌, ◌++◌, append_assoc, append-nil}
use Prim.Native.Nat.{ℕ, zero, suc, ◌+◌, ◌-◌, ◌≤◌, ◌<◌}
use native.Mathlib.Omega.{arith}
use lib.ListN.{length, take, length-append}
use lib.Seq.{take_at}
use Rattle.format.specs.Bytes.{line_feed, equals, decimal}
use Rattle.format.specs.Spelling.{Scan, read, wrong, ◌⟫◌, text, number, list, line}
use Rattle.spelling.specs.WellSpelled.{written_list, Begins, Longest}
use Rattle.spelling.proofs.Spelled.{Wrong, Found, Lawful, lawful_behind}
use Rattle.spelling.proofs.SpelledNumbers.{ended, lawful_number}
use Rattle.spelling.proofs.SpelledLists.{lawful_list}

-- a text's first bytes, of another text that begins with it
taken : (b s : List ℕ) → take (length b) (b ++ s) ≡ b
taken b s = take_at b s (length b) refl

module _ {A : Type 0} (written : A → List ℕ) (scan : List ℕ → Scan A) (name : List ℕ) where
  -- written after the name and `=`
  abbrev lined : A → List ℕ
  lined v = name ++ (equals ∷ (written v ++ (line_feed ∷ [])))

  module _ (law : Lawful lined scan) (s rest : List ℕ) (e : scan s ≡ wrong rest) where
    fault : Wrong lined scan s rest
    fault = subst (Found lined scan s) e (law.found s)

    sizes : length fault.before + length rest ≡ length s
    sizes = sym (ap length fault.parted ∙ length-append fault.before rest)

    n_is : length s - length rest ≡ length fault.before
    n_is = omega (arith, sizes)

    begins : Begins written name (take (length s - length rest) s)
    begins =
        let t : take (length s - length rest) s ≡ fault.before =
        ap (λ (n : ℕ). take n s) n_is ∙ ap (take (length fault.before)) fault.parted ∙ taken fault.before rest in
        rw t (fault.more, (fault.value, fault.begins))

    -- a longer one would have the byte at fault
    none_longer : (r : List ℕ) → rest ≡ r → (m : ℕ) → length fault.before < m → m ≤ length s → Begins written name (take m s) → ⊥
    none_longer [] f m l k (more, (v, w)) = omega (arith, sizes, ap length f)
    none_longer (c ∷ r) f m l k (more, (v, w)) =
        let t : take m s ≡ fault.before ++ (c ∷ take (m - (length fault.before + 1)) r) =
        ap (take m) (fault.parted ∙ ap (λ (x : List ℕ). fault.before ++ x) f) ∙ cut fault.before c r m l in
        let whole : fault.before ++ (c ∷ (take (m - (length fault.before + 1)) r ++ more)) ≡ lined v =
        sym (append_assoc fault.before (c ∷ take (m - (length fault.before + 1)) r) more) ∙ ap (λ (x : List ℕ). x ++ more) (sym t) ∙ w in
        let reads : scan (lined v) ≡ read v [] = ap scan (sym (append-nil (lined v))) ∙ law.complete v [] in
        let goes = sym (ap scan whole) ∙ fault.stays c r (take (m - (length fault.before + 1)) r ++ more) f in
        differ (sym reads ∙ goes)
      where
        differ : {v : A} {p q : List ℕ} → ◌≡◌ {A = Scan A} (read v p) (wrong q) → ⊥
        differ g = let z : ◌≡◌ {A = ℕ} 0 1 = cc in omega arith

        cut : (b : List ℕ) (c : ℕ) (r : List ℕ) (m : ℕ) → length b < m → take m (b ++ (c ∷ r)) ≡ b ++ (c ∷ take (m - (length b + 1)) r)
        cut [] c r zero l = absurd (let x : ⊥ = omega arith in x)
        cut [] c r (suc m) l = let g : suc m - (0 + 1) ≡ m = omega arith in rw g
        cut (x ∷ b) c r zero l = absurd (let y : ⊥ = omega arith in y)
        cut (x ∷ b) c r (suc m) l = let g : suc m - (suc (length b) + 1) ≡ m - (length b + 1) = omega arith in rw g (ap (λ (z : List ℕ). x ∷ z) (cut b c r m (omega arith)))

    pub longest : Longest written name s (length s - length rest)
    longest =
        record {
          inside = omega arith;
          shared = begins;
          no_longer = λ m l k b. none_longer rest refl m (omega (arith, n_is)) k b;
        }

-- a line as one text after another
module _ {A : Type 0} (value : List ℕ → Scan A) (name : List ℕ) where
  abbrev parts : List ℕ → Scan A
  parts s = text name s ⟫ λ u rest. text (equals ∷ []) rest ⟫ λ u rest. ended value rest

  pub line_parts : (s : List ℕ) → line name value s ≡ parts s
  line_parts s = onward (text name s)
    where
      onward : (x : Scan (Unit {0})) → ((x ⟫ λ u rest. text (equals ∷ []) rest) ⟫ λ u s. value s ⟫ λ v s. text (line_feed ∷ []) s ⟫ λ u s. read v s)
          ≡ (x ⟫ λ u rest. text (equals ∷ []) rest ⟫ λ u rest. ended value rest)
      onward (read u rest) = refl
      onward (wrong rest) = refl

  pub lawful_line : (written : A → List ℕ) (some : A) → Lawful (λ v. written v ++ (line_feed ∷ [])) (ended value)
      → Lawful (λ v. name ++ (equals ∷ (written v ++ (line_feed ∷ [])))) parts
  lawful_line written some law =
      lawful_behind (λ v. equals ∷ (written v ++ (line_feed ∷ []))) (λ s. text (equals ∷ []) s ⟫ λ u rest. ended value rest) some
      (lawful_behind (λ v. written v ++ (line_feed ∷ [])) (ended value) some law (equals ∷ [])) name

  pub where_wrong : (written : A → List ℕ) (some : A) → Lawful (λ v. written v ++ (line_feed ∷ [])) (ended value)
      → (s rest : List ℕ) → line name value s ≡ wrong rest → Longest written name s (length s - length rest)
  where_wrong written some law s rest e = longest written parts name (lawful_line written some law) s rest (sym (line_parts s) ∙ e)

-- the column of refusal 2 on the line of a number is one past the longest beginning that a well-spelled line shares
pub number_line_wrong : (name s rest : List ℕ) → line name number s ≡ wrong rest → Longest decimal name s (length s - length rest)
number_line_wrong name s rest e = where_wrong number name decimal 0 lawful_number s rest e

-- and so on the line of a list
pub list_line_wrong : (name s rest : List ℕ) → line name list s ≡ wrong rest → Longest written_list name s (length s - length rest)
list_line_wrong name s rest e = where_wrong list name written_list [] lawful_list s rest e
