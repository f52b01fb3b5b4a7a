-- The responses' lines as the text of a list: one line more, and that it fits where all lines fit.
use mathlib.Core.Path.{◌≡◌, refl, sym, ap, ◌∙◌}
use mathlib.Core.List.{List, [], ◌∷◌, ◌++◌}
use Prim.Native.Nat.{ℕ, ◌+◌, ◌≤◌, ◌<◌}
use lib.ListN.{length, take, get_or}
use Rattle.format.specs.Bytes.{bytes}
use Rattle.rules.specs.Answers.{answer_line, response_lines}
use Rattle.writing.specs.Line.{line}
use Rattle.writing.proofs.Texts.{texts, one_more_lem, fits}

abbrev pub response : ℕ → List ℕ
response f = line (bytes "response") f

responses_are : (fs : List ℕ) → response_lines fs ≡ texts response fs
unfolding response_lines answer_line
responses_are [] = refl
responses_are (f ∷ fs) = ap (λ (l : List ℕ). response f ++ l) (responses_are fs)

module _ (fs : List ℕ) (g : ℕ) (inside : g < length fs) where
  pub response_more : response_lines (take g fs) ++ response (get_or fs g 0) ≡ response_lines (take (g + 1) fs)
  response_more =
      ap (λ (l : List ℕ). l ++ response (get_or fs g 0)) (responses_are (take g fs))
      ∙ sym (responses_are (take (g + 1) fs) ∙ one_more_lem response fs g 0 inside)

  pub response_fits : (n : ℕ) → g < n → length (response_lines (take g fs)) + length (response (get_or fs g 0)) ≤ length (response_lines (take n fs))
  response_fits n h = rw (responses_are (take g fs), responses_are (take n fs)) (fits response fs g 0 inside n h)
