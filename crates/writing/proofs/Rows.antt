-- A row's lines as the text of a list: what a line is made of, one line more, and that it fits where all lines fit.
use mathlib.Core.Path.{◌≡◌, refl, sym, ap, ◌∙◌}
use mathlib.Core.List.{List, [], ◌∷◌, ◌++◌, map, append_assoc}
use Prim.Native.Nat.{ℕ, ◌+◌, ◌≤◌, ◌<◌}
use lib.ListN.{length, take, get_or}
use Rattle.format.specs.Bytes.{bytes, comma, line_feed}
use Rattle.schedule.specs.Walk.{Running}
use Rattle.rules.specs.Answers.{row_text}
use Rattle.writing.specs.declared.row.Run.{Run}
use Rattle.writing.specs.Line.{pair}
use Rattle.writing.specs.Row.{running_of}
use Rattle.writing.proofs.Texts.{texts, one_more_lem, fits}

-- what stands past the end of an array
abbrev pub no_run : Run
no_run = record { graph = 0; node = 0; server_job = 0; invocation = 0 }

abbrev pub run : Run → List ℕ
run x = row_text (running_of x ∷ [])

pub run_is : (x : Running) → (bytes "run=" ++ pair x.graph x.node comma) ++ pair x.server_job x.invocation line_feed ≡ row_text (x ∷ [])
unfolding row_text
run_is x = simp append_assoc

row_step : (x : Running) (xs : List Running) → row_text (x ∷ xs) ≡ row_text (x ∷ []) ++ row_text xs
unfolding row_text
row_step x xs = simp append_assoc

row_none : row_text [] ≡ []
unfolding row_text
row_none = refl

row_is : (xs : List Run) → row_text (map running_of xs) ≡ texts run xs
row_is [] = row_none
row_is (x ∷ xs) = row_step (running_of x) (map running_of xs) ∙ ap (λ (l : List ℕ). run x ++ l) (row_is xs)

module _ (xs : List Run) (i : ℕ) (inside : i < length xs) where
  pub run_more : row_text (map running_of (take i xs)) ++ run (get_or xs i no_run) ≡ row_text (map running_of (take (i + 1) xs))
  run_more =
      ap (λ (l : List ℕ). l ++ run (get_or xs i no_run)) (row_is (take i xs))
      ∙ sym (row_is (take (i + 1) xs) ∙ one_more_lem run xs i no_run inside)

  pub run_fits : (n : ℕ) → i < n → length (row_text (map running_of (take i xs))) + length (run (get_or xs i no_run)) ≤ length (row_text (map running_of (take n xs)))
  run_fits n h = rw (row_is (take i xs), row_is (take n xs)) (fits run xs i no_run inside n h)
