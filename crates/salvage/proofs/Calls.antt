-- What a call of salvage returns and leaves: refusals 1 and 10, and both outputs written. And its promise admits one result.
use mathlib.Core.Path.{◌≡◌, refl, sym, ap, ◌∙◌}
use mathlib.Core.List.{List}
use Prim.Native.Nat.{ℕ, ◌≤◌, ◌<◌}
use lib.ListN.{length}
use borrow.Author.Tests.{le-leb, lt-leb}
use Rattle.schedule.specs.Limits as Limits
use Rattle.format.specs.declared.Refusal.TheVariants.{TooLong, ShortBuffer}
use Rattle.std.specs.Prelude.{Result, Ok, Err}
use Rattle.format.specs.declared.Refusal.{Refusal}
use Rattle.salvaging.specs.declared.Lengths.{Lengths}
use Rattle.salvaging.specs.Steps.{salvaged}
use Rattle.salvaging.specs.Fixes.{fixes_of}
use Rattle.salvaging.specs.Salvage.{SalvageCall, salvage_of, fitted, leaves, salvage_call}
use Rattle.salvage.specs.Call.{called, Filled}

abbrev most : ℕ
most = (Limits.table_bytes).to

module _ (s text list : List ℕ) where
  pub given_too_long : most < length s → called (Err TooLong) text list ≡ salvage_call s text list
  unfolding salvage_call leaves fitted salvage_of
  given_too_long h = rw (lt-leb (length s) most h) refl

  module _ (given : length s ≤ most) where
    pub left_too_long : most < length (salvaged s) → called (Err TooLong) text list ≡ salvage_call s text list
    unfolding salvage_call leaves fitted salvage_of
    left_too_long h = rw (le-leb (length s) most given, lt-leb (length (salvaged s)) most h) refl

    module _ (left : length (salvaged s) ≤ most) where
      pub short_text : length text < length (salvaged s) → called (Err ShortBuffer) text list ≡ salvage_call s text list
      unfolding salvage_call leaves fitted salvage_of
      short_text h = rw (le-leb (length s) most given, le-leb (length (salvaged s)) most left, lt-leb (length (salvaged s)) (length text) h) refl

      module _ (fits : length (salvaged s) ≤ length text) where
        pub short_list : length list < length (fixes_of s) → called (Err ShortBuffer) text list ≡ salvage_call s text list
        unfolding salvage_call leaves fitted salvage_of
        short_list h =
            rw (
              le-leb (length s) most given,
              le-leb (length (salvaged s)) most left,
              le-leb (length (salvaged s)) (length text) fits,
              lt-leb (length (fixes_of s)) (length list) h,
            ) refl

        pub both_written : length (fixes_of s) ≤ length list → {text' list' : List ℕ} {n : Lengths} → n.text ≡ length (salvaged s) → n.list ≡ length (fixes_of s)
            → Filled (salvaged s) text text' → Filled (fixes_of s) list list' → called (Ok n) text' list' ≡ salvage_call s text list
        unfolding salvage_call leaves fitted salvage_of
        both_written h e f t u =
            rw (
              le-leb (length s) most given,
              le-leb (length (salvaged s)) most left,
              le-leb (length (salvaged s)) (length text) fits,
              le-leb (length (fixes_of s)) (length list) h,
              e,
              f,
              t.bytes,
              u.bytes,
            ) refl

-- two results for the same bytes and the same buffers
pub one_salvage : (s text list : List ℕ) (a b : Result Lengths Refusal) (t u v w : List ℕ) → called a t v ≡ salvage_call s text list → called b u w ≡ salvage_call s text list
    → (a ≡ b) × (t ≡ u) × (v ≡ w)
one_salvage s text list a b t u v w e f =
    let same : called a t v ≡ called b u w = e ∙ sym f in
    (ap (λ (k : SalvageCall). k.answer) same, ap (λ (k : SalvageCall). k.text) same, ap (λ (k : SalvageCall). k.list) same)
