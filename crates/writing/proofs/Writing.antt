-- What writes one after the other leave: a text, and then one more, or one more byte, that begins where it ended.
use mathlib.Core.Path.{◌≡◌, refl, sym, ap, ◌∙◌}
use mathlib.Core.List.{List, [], ◌∷◌, ◌++◌, append_assoc, append-nil}
use Prim.Native.Nat.{ℕ, suc, ◌+◌, ◌-◌, ◌≤◌, ◌<◌}
use native.Mathlib.Numerals.{add-one}
use native.Mathlib.Omega.{arith}
use lib.ListN.{length, take, drop, set, length-append, length-drop, drop_of_length-le}
use lib.Seq.{take_all, take_at, drop_at, set_at, drop-drop, drop-cons, append_snoc}
use Rattle.writing.specs.Written.{Written}

pub nothing : (s : List ℕ) → Written [] s s 0
nothing s = record { size = refl; bytes = refl }

-- the same bytes under another name
pub named : {a b s t : List ℕ} {n : ℕ} → a ≡ b → Written a s t n → Written b s t n
named e w = rw e at w

module _ {a s t : List ℕ} {n : ℕ} (w : Written a s t n) where
  -- the part that the next writer is lent is as it was
  pub rest : drop n t ≡ drop (length a) s
  rest = ap (drop n) w.bytes ∙ drop_at a (drop (length a) s) n (sym w.size)

  front : take n t ≡ a
  front = ap (take n) w.bytes ∙ take_at a (drop (length a) s) n (sym w.size)

  pub kept : length a ≤ length s → length t ≡ length s
  kept h = ap length w.bytes ∙ length-append a (drop (length a) s) ∙ simp length-drop (omega arith)

  pub then : {b u : List ℕ} {m : ℕ} → Written b (drop n t) u m → Written (a ++ b) s (take n t ++ u) (n + m)
  then {b} {u} {m} v =
      record {
        size = rw length-append (omega arith);
        bytes =
            ap (λ (l : List ℕ). l ++ u) front
            ∙ ap (λ (l : List ℕ). a ++ l)
            (v.bytes
            ∙ ap (λ (l : List ℕ). b ++ drop (length b) l) rest
            ∙ ap (λ (l : List ℕ). b ++ l) (drop-drop (length b) (length a) s ∙ ap (λ (k : ℕ). drop k s) (sym (length-append a b))))
            ∙ sym (append_assoc a b (drop (length (a ++ b)) s));
      }

  pub then_byte : (x : ℕ) → length a < length s → Written (a ++ (x ∷ [])) s (set t n x) (n + 1)
  then_byte x h =
      record {
        size = rw length-append (omega arith);
        bytes =
            ap (λ (l : List ℕ). set l n x) (w.bytes ∙ ap (λ (l : List ℕ). a ++ l) (drop-cons s (length a) 0 h))
            ∙ set_at a _ (drop (suc (length a)) s) x n (sym w.size)
            ∙ sym (append_snoc a x (drop (suc (length a)) s))
            ∙ ap (λ (k : ℕ). (a ++ (x ∷ [])) ++ drop k s) (sym (length-append a (x ∷ []) ∙ add-one (length a)));
      }

pub apart : (a b s : List ℕ) → length (a ++ b) ≤ length s → length a + length b ≤ length s
apart a b s h = omega (arith, length-append a b)

-- of two texts that fit, the first is written. The second's part is lent from where the first ended to the end of the whole, and comes back
module _ {a s t : List ℕ} {n : ℕ} (b : List ℕ) (w : Written a s t n) (fit : length a + length b ≤ length s) where
  same : length t ≡ length s
  same = kept w (omega arith)

  lent : take (length t - n) (drop n t) ≡ drop n t
  lent = take_all (length t - n) (drop n t) (omega (arith, length-drop n t))

  -- the part begins within the whole, and the second text fits it
  pub begins : n ≤ length t
  begins = omega (arith, w.size, same)

  pub room : length b ≤ length (take (length t - n) (drop n t))
  room = rw lent (omega (arith, length-drop n t, w.size, same))

  pub both : {u : List ℕ} {m : ℕ} → Written b (take (length t - n) (drop n t)) u m
      → Written (a ++ b) s (take n t ++ (u ++ drop (length t - n) (drop n t))) (n + m)
  both {u} {m} v =
      let back : u ++ drop (length t - n) (drop n t) ≡ u =
      ap (λ (l : List ℕ). u ++ l) (drop_of_length-le (drop n t) {i = length t - n} (omega (arith, length-drop n t))) ∙ append-nil u in
      rw back (then w (rw lent at v))

  pub keeps : {u : List ℕ} {m : ℕ} → Written b (take (length t - n) (drop n t)) u m
      → length (take n t ++ (u ++ drop (length t - n) (drop n t))) ≡ length s
  keeps v = kept (both v) (rw length-append fit)

-- a writer's promise admits one result
pub one_result : {a s t u : List ℕ} {n m : ℕ} → Written a s t n → Written a s u m → (t ≡ u) × (n ≡ m)
one_result w v = (w.bytes ∙ sym v.bytes, w.size ∙ sym v.size)
