-- What the reader takes from a text, piece by piece, salvage leaves alone: a name, a number, a list, a line. Shown at the end:
-- `number_line_clean` and `list_line_clean`.
use mathlib.Core.Path.{◌≡◌, refl, sym, ap, ◌∙◌}
use mathlib.Core.Bool.{Bool, true, false, not, ◌&&◌, cond}
use mathlib.Core.List.{List, [], ◌∷◌, ◌++◌, tail, append_assoc, append-nil}
use Prim.Native.Nat.{ℕ, zero, suc, ◌+◌, ◌*◌, ◌≤◌, ◌<◌}
use native.Mathlib.Omega.{arith}
use lib.Dec.{eqb, leb}
use lib.ListN.{length}
use borrow.Author.Tests.{eqb-true, ne_eqb, not-true, leb-true}
use Rattle.schedule.specs.Lists.{all?}
use Rattle.schedule.proofs.Tests.{by_test}
use Rattle.theorems.proofs.Formed.{both, first_of_lem, second_of}
use Rattle.format.specs.Bytes.{bytes, line_feed, equals, comma, digit_zero, is_digit, value_of}
use Rattle.format.specs.Spelling.{Scan, read, wrong, ◌⟫◌, text, digits, number, next?, numbers_by, numbers, letter_n, list, line}
use Rattle.salvaging.specs.Lines.{empty?}
use Rattle.salvaging.specs.Steps.{carriage_return, blank, plain?, without_returns, trimmed, digit_next?, unpadded_from, unpadded}
use Rattle.salvaging.proofs.Again.{within_line?, all_kept, Clean}

-- the bytes that a scanner has read, with what holds of them
pub record Taken (P : List ℕ → Type 0) (s rest : List ℕ) : Type 0 where
  pub front : List ℕ
  pub is : front ++ rest ≡ s
  pub holds : P front

module _ {A : Type 0} where
  abbrev pub Takes : (List ℕ → Type 0) → List ℕ → Scan A → Type 0
  Takes P s (read a rest) = Taken P s rest
  Takes P s (wrong rest) = Unit {0}

  pub weaker : (P Q : List ℕ → Type 0) → ((a : List ℕ) → P a → Q a) → (s : List ℕ) (x : Scan A) → Takes P s x → Takes Q s x
  weaker P Q f s (wrong rest) h = tt
  weaker P Q f s (read a rest) h = record { front = h.front; is = h.is; holds = f h.front h.holds }

-- one scanner after the other
module _ {A B : Type 0} (P Q R : List ℕ → Type 0) (joined : (a b : List ℕ) → P a → Q b → R (a ++ b)) where
  then_takes : (s : List ℕ) (x : Scan A) (f : A → List ℕ → Scan B) → Takes P s x → ((a : A) (r : List ℕ) → Takes Q r (f a r)) → Takes R s (x ⟫ f)
  then_takes s (wrong rest) f h g = tt
  then_takes s (read a rest) f h g = go (f a rest) (g a rest)
    where
      go : (y : Scan B) → Takes Q rest y → Takes R s y
      go (wrong end) i = tt
      go (read b end) i =
          record {
            front = h.front ++ i.front;
            is = append_assoc h.front i.front end ∙ ap (λ (l : List ℕ). h.front ++ l) i.is ∙ h.is;
            holds = joined h.front i.front h.holds i.holds;
          }

all_append : (p : ℕ → Bool) (s t : List ℕ) → all? p s ≡ true → all? p t ≡ true → all? p (s ++ t) ≡ true
all_append p [] t e f = f
all_append p (c ∷ s) t e f = both (first_of_lem (p c) (all? p s) e) (all_append p s t (second_of (p c) (all? p s) e) f)

all_weaker : (p q : ℕ → Bool) → ((c : ℕ) → p c ≡ true → q c ≡ true) → (s : List ℕ) → all? p s ≡ true → all? q s ≡ true
all_weaker p q f [] e = refl
all_weaker p q f (c ∷ s) e = both (f c (first_of_lem (p c) (all? p s) e)) (all_weaker p q f s (second_of (p c) (all? p s) e))

-- a byte that is no carriage return, no LF and no blank
abbrev pub solid? : ℕ → Bool
solid? c = not (eqb c blank)

abbrev pub sound? : ℕ → Bool
sound? c = plain? c && (within_line? c && solid? c)

other : (b c : ℕ) → b < c → not (eqb c b) ≡ true
other b c h = ap not (ne_eqb c b (λ f. omega arith))

digit_sound : (c : ℕ) → is_digit c ≡ true → sound? c ≡ true
digit_sound c e =
    let h : digit_zero ≤ c = leb-true digit_zero c (first_of_lem (leb digit_zero c) (leb c (digit_zero + 9)) e) in
    both (other carriage_return c (omega arith)) (both (other line_feed c (omega arith)) (other blank c (omega arith)))

-- the bytes t
text_takes : (t s : List ℕ) → Takes (λ a. a ≡ t) s (text t s)
unfolding text
text_takes [] s = record { front = []; is = refl; holds = refl }
text_takes (t ∷ ts) [] = tt
text_takes (t ∷ ts) (c ∷ s) = by_test (eqb c t) (λ e. rw e (go e (text ts s) (text_takes ts s))) (λ e. rw e tt)
  where
    go : eqb c t ≡ true → (x : Scan (Unit {0})) → Takes (λ a. a ≡ ts) s x → Takes (λ a. a ≡ t ∷ ts) (c ∷ s) x
    go e (wrong rest) h = tt
    go e (read u rest) h =
        let same : c ≡ t = eqb-true c t e in
        let more : h.front ≡ ts = h.holds in
        record { front = c ∷ h.front; is = ap (λ (l : List ℕ). c ∷ l) h.is; holds = cc }

-- digits
digits_takes : (v : ℕ) (s : List ℕ) → Takes (λ a. all? is_digit a ≡ true) s (digits v s)
unfolding digits
digits_takes v [] = record { front = []; is = refl; holds = refl }
digits_takes v (c ∷ s) =
    by_test (is_digit c) (λ e. rw e (go e (digits (v * 10 + value_of c) s) (digits_takes (v * 10 + value_of c) s)))
    (λ e. rw e (record { front = []; is = refl; holds = refl }))
  where
    go : is_digit c ≡ true → (x : Scan ℕ) → Takes (λ a. all? is_digit a ≡ true) s x → Takes (λ a. all? is_digit a ≡ true) (c ∷ s) x
    go e (wrong rest) h = tt
    go e (read w rest) h = record { front = c ∷ h.front; is = ap (λ (l : List ℕ). c ∷ l) h.is; holds = both e h.holds }

-- numbers with their commas: no zero of them goes, unless a digit follows
pub record Numbers (a : List ℕ) : Type 0 where
  pub sound : all? sound? a ≡ true
  pub zeros : (t : List ℕ) → digit_next? t ≡ false → unpadded_from false (a ++ t) ≡ a ++ unpadded_from true t

in_run_lem : (a t : List ℕ) → all? is_digit a ≡ true → unpadded_from true (a ++ t) ≡ a ++ unpadded_from true t
unfolding unpadded_from
in_run_lem [] t e = refl
in_run_lem (c ∷ a) t e =
    rw (first_of_lem (is_digit c) (all? is_digit a) e) (ap (λ (l : List ℕ). c ∷ l) (in_run_lem a t (second_of (is_digit c) (all? is_digit a) e)))

zero_alone : (c : ℕ) → is_digit c ≡ true → eqb c digit_zero ≡ true → Numbers (c ∷ [])
unfolding unpadded_from
zero_alone c d e = record { sound = both (digit_sound c d) refl; zeros = λ t n. rw (e, n, d) refl }

no_zero_first : (c : ℕ) (a : List ℕ) → is_digit c ≡ true → eqb c digit_zero ≡ false → all? is_digit a ≡ true → Numbers (c ∷ a)
unfolding unpadded_from
no_zero_first c a d e h =
    record {
      sound = both (digit_sound c d) (all_weaker is_digit sound? digit_sound a h);
      zeros = λ t n. rw (e, d) (ap (λ (l : List ℕ). c ∷ l) (in_run_lem a t h));
    }

number_takes : (s : List ℕ) → Takes Numbers s (number s)
unfolding number
number_takes [] = tt
number_takes (c ∷ s) =
    by_test (is_digit c)
    (λ d. by_test (eqb c digit_zero)
    (λ e. rw (d, e) (record { front = c ∷ []; is = refl; holds = zero_alone c d e }))
    (λ e. rw (d, e) (go d e (digits (value_of c) s) (digits_takes (value_of c) s))))
    (λ d. rw d tt)
  where
    go : is_digit c ≡ true → eqb c digit_zero ≡ false → (x : Scan ℕ) → Takes (λ a. all? is_digit a ≡ true) s x → Takes Numbers (c ∷ s) x
    go d e (wrong rest) h = tt
    go d e (read w rest) h =
        record { front = c ∷ h.front; is = ap (λ (l : List ℕ). c ∷ l) h.is; holds = no_zero_first c h.front d e h.holds }

-- the next byte, and the others
headed : (c : ℕ) (s : List ℕ) → next? c s ≡ true → c ∷ tail s ≡ s
headed c [] e = absurd (let z : ◌≡◌ {A = ℕ} 0 1 = cc in omega arith)
headed c (x ∷ s) e = ap (λ (y : ℕ). y ∷ s) (sym (eqb-true x c e))

after_comma : (b t : List ℕ) → Numbers b → digit_next? t ≡ false → unpadded_from true (comma ∷ (b ++ t)) ≡ comma ∷ (b ++ unpadded_from true t)
unfolding unpadded_from
after_comma b t h n = ap (λ (l : List ℕ). comma ∷ l) (h.zeros t n)

commaed : (a b : List ℕ) → Numbers a → Numbers b → Numbers (a ++ (comma ∷ b))
commaed a b h i =
    record {
      sound = all_append sound? a (comma ∷ b) h.sound i.sound;
      zeros = λ t n.
          ap (unpadded_from false) (append_assoc a (comma ∷ b) t)
          ∙ h.zeros (comma ∷ (b ++ t)) refl
          ∙ ap (λ (l : List ℕ). a ++ l) (after_comma b t i n)
          ∙ sym (append_assoc a (comma ∷ b) (unpadded_from true t));
    }

module _ (s : List ℕ) (v : ℕ) (rest : List ℕ) (h : Taken Numbers s rest) where
  more_takes : next? comma rest ≡ true → (y : Scan (List ℕ)) → Takes Numbers (tail rest) y → Takes Numbers s (y ⟫ (λ vs end. read (v ∷ vs) end))
  more_takes e (wrong end) i = tt
  more_takes e (read vs end) i =
      record {
        front = h.front ++ (comma ∷ i.front);
        is =
            append_assoc h.front (comma ∷ i.front) end
            ∙ ap (λ (l : List ℕ). h.front ++ (comma ∷ l)) i.is
            ∙ ap (λ (l : List ℕ). h.front ++ l) (headed comma rest e)
            ∙ h.is;
        holds = commaed h.front i.front h.holds i.holds;
      }

numbers_by_takes : (most : ℕ) (s : List ℕ) → Takes Numbers s (numbers_by most s)
unfolding numbers_by
numbers_by_takes zero s = tt
numbers_by_takes (suc most) s = go (number s) (number_takes s) (λ r. numbers_by_takes most r)
  where
    go : (x : Scan ℕ) → Takes Numbers s x → ((r : List ℕ) → Takes Numbers r (numbers_by most r))
        → Takes Numbers s (x ⟫ λ v rest.
        let more : Scan (List ℕ) = numbers_by most (tail rest) ⟫ (λ vs end. read (v ∷ vs) end) in
        cond (next? comma rest) more (read (v ∷ []) rest))
    go (wrong rest) h ih = tt
    go (read v rest) h ih = by_test (next? comma rest) (λ e. rw e (more_takes s v rest h e (numbers_by most (tail rest)) (ih (tail rest)))) (λ e. rw e h)

-- a value, up to the LF
pub record Value (a : List ℕ) : Type 0 where
  pub sound : all? sound? a ≡ true
  pub zeros : unpadded_from false a ≡ a

numbers_value : (a : List ℕ) → Numbers a → Value a
unfolding unpadded_from
numbers_value a h =
    record { sound = h.sound; zeros = ap (unpadded_from false) (sym (append-nil a)) ∙ h.zeros [] refl ∙ append-nil a }

none_value : (a : List ℕ) → a ≡ bytes "none" → Value a
unfolding unpadded_from
none_value a e = rw e (record { sound = refl; zeros = refl })

number_value : (s : List ℕ) → Takes Value s (number s)
number_value s = weaker Numbers Value numbers_value s (number s) (number_takes s)

list_value : (s : List ℕ) → Takes Value s (list s)
unfolding list numbers
list_value s =
    by_test (next? letter_n s) (λ e. rw e (none (text (bytes "none") s) (text_takes (bytes "none") s)))
    (λ e. rw e (weaker Numbers Value numbers_value s (numbers_by (suc (length s)) s) (numbers_by_takes (suc (length s)) s)))
  where
    none : (x : Scan (Unit {0})) → Takes (λ a. a ≡ bytes "none") s x → Takes {A = List ℕ} Value s (x ⟫ (λ u rest. read [] rest))
    none (wrong rest) h = tt
    none (read u rest) h = record { front = h.front; is = h.is; holds = none_value h.front h.holds }

-- a key's name
abbrev pub named? : ℕ → Bool
named? c = sound? c && not (eqb c equals)

solid_trimmed : (s : List ℕ) → all? solid? s ≡ true → trimmed s ≡ s
unfolding trimmed
solid_trimmed [] e = refl
solid_trimmed (c ∷ s) e =
    let f : eqb c blank ≡ false = not-true (eqb c blank) (first_of_lem (solid? c) (all? solid? s) e) in
    rw f (ap (λ (l : List ℕ). c ∷ l) (solid_trimmed s (second_of (solid? c) (all? solid? s) e)))

unpadded_named : (name s : List ℕ) → all? named? name ≡ true → unpadded (name ++ (equals ∷ s)) ≡ name ++ (equals ∷ unpadded_from false s)
unfolding unpadded
unpadded_named [] s e = refl
unpadded_named (c ∷ name) s e =
    let f : eqb c equals ≡ false = not-true (eqb c equals) (second_of (sound? c) (not (eqb c equals)) (first_of_lem (named? c) (all? named? name) e)) in
    rw f (ap (λ (l : List ℕ). c ∷ l) (unpadded_named name s (second_of (named? c) (all? named? name) e)))

some_append : (s : List ℕ) (c : ℕ) (t : List ℕ) → empty? (s ++ (c ∷ t)) ≡ false
some_append [] c t = refl
some_append (d ∷ s) c t = refl

module _ (name a : List ℕ) (n : all? named? name ≡ true) (v : Value a) where
  whole : all? sound? (name ++ (equals ∷ a)) ≡ true
  whole = all_append sound? name (equals ∷ a) (all_weaker named? sound? (λ c e. first_of_lem (sound? c) (not (eqb c equals)) e) name n) v.sound

  line_clean : Clean (name ++ (equals ∷ a))
  unfolding without_returns
  line_clean =
      record {
        returns = all_kept plain? (name ++ (equals ∷ a)) (all_weaker sound? plain? (λ c e. first_of_lem (plain? c) (within_line? c && solid? c) e) (name ++ (equals ∷ a)) whole);
        blanks = solid_trimmed (name ++ (equals ∷ a))
            (all_weaker sound? solid? (λ c e. second_of (within_line? c) (solid? c) (second_of (plain? c) (within_line? c && solid? c) e)) (name ++ (equals ∷ a)) whole);
        zeros = unpadded_named name a n ∙ ap (λ (l : List ℕ). name ++ (equals ∷ l)) v.zeros;
        some = some_append name equals a;
        one = all_weaker sound? within_line? (λ c e. first_of_lem (within_line? c) (solid? c) (second_of (plain? c) (within_line? c && solid? c) e)) (name ++ (equals ∷ a)) whole;
      }

-- a line that salvage leaves alone, and its LF
pub record Lined (a : List ℕ) : Type 0 where
  pub body : List ℕ
  pub is : a ≡ body ++ (line_feed ∷ [])
  pub clean : Clean body

-- a line of a key's name, `=`, a value and LF
module _ {A : Type 0} (name : List ℕ) (n : all? named? name ≡ true) (value : List ℕ → Scan A) (v : (s : List ℕ) → Takes Value s (value s)) where
  closed_takes : (a : A) (s : List ℕ) → Takes (λ b. b ≡ line_feed ∷ []) s (text (line_feed ∷ []) s ⟫ λ u r. read a r)
  closed_takes a s = go (text (line_feed ∷ []) s) (text_takes (line_feed ∷ []) s)
    where
      go : (x : Scan (Unit {0})) → Takes (λ b. b ≡ line_feed ∷ []) s x → Takes (λ b. b ≡ line_feed ∷ []) s (x ⟫ λ u r. read a r)
      go (wrong rest) h = tt
      go (read u rest) h = h

  abbrev Closed : List ℕ → Type 0
  Closed a = Lined (name ++ (equals ∷ a))

  value_closed : (a b : List ℕ) → Value a → b ≡ line_feed ∷ [] → Closed (a ++ b)
  value_closed a b h e =
      record {
        body = name ++ (equals ∷ a);
        is = ap (λ (l : List ℕ). name ++ (equals ∷ (a ++ l))) e ∙ sym (append_assoc name (equals ∷ a) (line_feed ∷ []));
        clean = line_clean name a n h;
      }

  value_takes : (s : List ℕ) → Takes Closed s (value s ⟫ λ a r. text (line_feed ∷ []) r ⟫ λ u q. read a q)
  value_takes s = then_takes Value (λ b. b ≡ line_feed ∷ []) Closed value_closed s (value s) (λ a r. text (line_feed ∷ []) r ⟫ λ u q. read a q) (v s) closed_takes

  heading_takes : (s : List ℕ) → Takes (λ a. a ≡ name ++ (equals ∷ [])) s (text name s ⟫ λ u rest. text (equals ∷ []) rest)
  heading_takes s =
      then_takes (λ a. a ≡ name) (λ a. a ≡ equals ∷ []) (λ a. a ≡ name ++ (equals ∷ [])) (λ a b e f. rw (e, f) refl) s (text name s)
      (λ u rest. text (equals ∷ []) rest) (text_takes name s) (λ u rest. text_takes (equals ∷ []) rest)

  headed_closed : (a b : List ℕ) → a ≡ name ++ (equals ∷ []) → Closed b → Lined (a ++ b)
  headed_closed a b e h =
      record {
        body = h.body;
        is = ap (λ (l : List ℕ). l ++ b) e ∙ append_assoc name (equals ∷ []) b ∙ h.is;
        clean = h.clean;
      }

  pub line_takes : (s : List ℕ) → Takes Lined s (line name value s)
  line_takes s =
      then_takes (λ a. a ≡ name ++ (equals ∷ [])) Closed Lined headed_closed s (text name s ⟫ λ u rest. text (equals ∷ []) rest)
      (λ u r. value r ⟫ λ a q. text (line_feed ∷ []) q ⟫ λ w t. read a t) (heading_takes s) (λ u r. value_takes r)

pub number_line_clean : (name : List ℕ) → all? named? name ≡ true → (s : List ℕ) → Takes Lined s (line name number s)
number_line_clean name n = line_takes name n number number_value

pub list_line_clean : (name : List ℕ) → all? named? name ≡ true → (s : List ℕ) → Takes Lined s (line name list s)
list_line_clean name n = line_takes name n list list_value
