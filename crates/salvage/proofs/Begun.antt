-- A text written up to some place: what stands there, and what is still to come, are the whole.
use mathlib.Core.Path.{◌≡◌, sym, ap, ◌∙◌}
use mathlib.Core.List.{List, [], ◌++◌, append_assoc}
use Prim.Native.Nat.{ℕ, ◌+◌, ◌-◌, ◌≤◌}
use native.Mathlib.Omega.{arith}
use lib.ListN.{length, take, drop, length-append}
use Rattle.writing.specs.Written.{Written}
use Rattle.writing.proofs.Writing.{nothing, both}
use Rattle.salvage.specs.Call.{Filled}

pub record Begun (whole rest before after : List ℕ) (at : ℕ) : Type 0 where
  pub front : List ℕ
  pub whole_is : front ++ rest ≡ whole
  pub written : Written front before after at

pub at_start : (whole rest before : List ℕ) → rest ≡ whole → Begun whole rest before before 0
at_start whole rest before e = record { front = []; whole_is = e; written = nothing before }

module _ {whole rest before after : List ℕ} {at : ℕ} (g : Begun whole rest before after at) (fits : length whole ≤ length before) where
  -- a piece that comes next fits
  pub fit : (piece more : List ℕ) → rest ≡ piece ++ more → length g.front + length piece ≤ length before
  fit piece more e =
      omega (arith, fits, ap length (sym g.whole_is), ap length e, length-append g.front rest, length-append piece more)

  pub fit_last : (piece : List ℕ) → rest ≡ piece → length g.front + length piece ≤ length before
  fit_last piece e = omega (arith, fits, ap length (sym g.whole_is), ap length e, length-append g.front rest)

  -- and is part of the whole
  pub sum : (piece more : List ℕ) → rest ≡ piece ++ more → length g.front + length piece ≤ length whole
  sum piece more e = omega (arith, ap length (sym g.whole_is), ap length e, length-append g.front rest, length-append piece more)

  pub on : (piece more : List ℕ) (e : rest ≡ piece ++ more) {u : List ℕ} {m : ℕ} → Written piece (take (length after - at) (drop at after)) u m
      → Begun whole more before (take at after ++ (u ++ drop (length after - at) (drop at after))) (at + m)
  on piece more e v =
      record {
        front = g.front ++ piece;
        whole_is = append_assoc g.front piece more ∙ ap (λ (t : List ℕ). g.front ++ t) (sym e) ∙ g.whole_is;
        written = both piece g.written (fit piece more e) v;
      }

  pub to_end : (piece : List ℕ) (e : rest ≡ piece) {u : List ℕ} {m : ℕ} → Written piece (take (length after - at) (drop at after)) u m
      → Filled whole before (take at after ++ (u ++ drop (length after - at) (drop at after)))
  to_end piece e v =
      let w = both piece g.written (fit_last piece e) v in
      let same : g.front ++ piece ≡ whole = ap (λ (t : List ℕ). g.front ++ t) (sym e) ∙ g.whole_is in
      record { bytes = w.bytes ∙ ap (λ (t : List ℕ). t ++ drop (length t) before) same }
