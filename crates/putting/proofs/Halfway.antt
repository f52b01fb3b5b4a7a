-- A text that is written part by part: what is written so far, and what is left.
use mathlib.Core.Path.{◌≡◌, refl, sym, ap, ◌∙◌}
use mathlib.Core.List.{List, [], ◌++◌, append_assoc, append-nil}
use Prim.Native.Nat.{ℕ, ◌+◌, ◌-◌, ◌≤◌}
use native.Mathlib.Omega.{arith}
use lib.ListN.{length, take, drop, length-append}
use Rattle.writing.specs.Written.{Written}
use Rattle.writing.proofs.Writing.{nothing, named, begins, room, both, keeps}

pub record Halfway (text before after : List ℕ) (at : ℕ) (left : List ℕ) : Type 0 where
  pub front : List ℕ
  pub whole : text ≡ front ++ left
  pub written : Written front before after at

pub from_start : (text before : List ℕ) → Halfway text before before 0 text
from_start text before = record { front = []; whole = refl; written = nothing before }

-- the next part `a`, where `b` is left behind it
module _ {text before after left : List ℕ} {at : ℕ} (h : Halfway text before after at left) (a b : List ℕ) (e : left ≡ a ++ b)
    (fit : length text ≤ length before) where
  pub fits : length h.front + length a ≤ length before
  fits =
      omega (
        arith,
        fit,
        ap length (h.whole ∙ ap (λ (l : List ℕ). h.front ++ l) e) ∙ length-append h.front (a ++ b),
        length-append a b,
      )

  pub starts : at ≤ length after
  starts = begins a h.written fits

  pub has_room : length a ≤ length (take (length after - at) (drop at after))
  has_room = room a h.written fits

  pub goes_on : {u : List ℕ} {m : ℕ} → Written a (take (length after - at) (drop at after)) u m
      → Halfway text before (take at after ++ (u ++ drop (length after - at) (drop at after))) (at + m) b
  goes_on v =
      record {
        front = h.front ++ a;
        whole = h.whole ∙ ap (λ (l : List ℕ). h.front ++ l) e ∙ sym (append_assoc h.front a b);
        written = both a h.written fits v;
      }

  pub stays_long : {u : List ℕ} {m : ℕ} → Written a (take (length after - at) (drop at after)) u m
      → length (take at after ++ (u ++ drop (length after - at) (drop at after))) ≡ length before
  stays_long v = keeps a h.written fits v

  -- the next end is within the whole
  pub ends : {u : List ℕ} {m : ℕ} → Written a (take (length after - at) (drop at after)) u m → at + m ≤ length before
  ends v = omega (arith, h.written.size, v.size, fits)

-- nothing is left
pub at_end_lem : {text before after left : List ℕ} {at : ℕ} → Halfway text before after at left → left ≡ [] → Written text before after at
at_end_lem h e = named (sym (h.whole ∙ ap (λ (l : List ℕ). h.front ++ l) e ∙ append-nil h.front)) h.written
