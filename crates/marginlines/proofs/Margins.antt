-- The margins' lines graph by graph: one graph more, and that its lines fit where all of them fit. And the text as its head and these lines.
use mathlib.Core.Path.{◌≡◌, refl, sym, ap, ◌∙◌}
use mathlib.Core.List.{List, [], ◌∷◌, ◌++◌, tail, append_assoc, append-nil}
use Prim.Native.Nat.{ℕ, zero, suc, ◌+◌, ◌≤◌, ◌<◌}
use native.Mathlib.Nat.{not-suc-le-zero}
use native.Mathlib.Numerals.{add-one}
use native.Mathlib.Omega.{arith}
use lib.ListN.{length, take, get_or, length-append}
use lib.Seq.{take_all}
use borrow.Author.Tests.{le-leb, lt-leb}
use Prim.Native.Nat.{◌-◌}
use Rattle.format.specs.Bytes.{bytes, line_feed}
use Rattle.rules.specs.Answers.{answer_line, response_lines, report_text}
use Rattle.margins.specs.Margins.{margin_line, margin_lines, margin_text}
use Rattle.writing.specs.Line.{ended, line}
use Rattle.marginlines.specs.Lines.{graph_lines}

-- a line without a minus sign, and one with it
pub kept_line : (limit response : ℕ) → response ≤ limit → line (bytes "margin") (limit - response) ≡ margin_line limit response
unfolding margin_line
kept_line limit response h = rw (le-leb response limit h)

pub over_line : (limit response : ℕ) → limit < response → bytes "margin=-" ++ ended (response - limit) line_feed ≡ margin_line limit response
unfolding margin_line
over_line limit response h = rw (lt-leb response limit h)

tail_at : (ls : List ℕ) (g : ℕ) → get_or (tail ls) g 0 ≡ get_or ls (suc g) 0
tail_at [] g = refl
tail_at (l ∷ ls) g = refl

-- one graph more
lines_more : (fs ls : List ℕ) (g : ℕ) → g < length fs
    → margin_lines (take (suc g) fs) ls ≡ margin_lines (take g fs) ls ++ graph_lines (get_or ls g 0) (get_or fs g 0)
unfolding margin_lines
lines_more [] ls g h = absurd (not-suc-le-zero h)
lines_more (f ∷ fs) ls zero h = ap (λ (t : List ℕ). answer_line "response" f ++ t) (append-nil (margin_line (get_or ls 0 0) f))
lines_more (f ∷ fs) ls (suc g) h =
    let m : List ℕ = margin_line (get_or ls 0 0) f in
    let front : List ℕ = margin_lines (take g fs) (tail ls) in
    let last : List ℕ = graph_lines (get_or ls (suc g) 0) (get_or fs g 0) in
    let more : margin_lines (take (suc g) fs) (tail ls) ≡ front ++ last =
    lines_more fs (tail ls) g (omega arith) ∙ ap (λ (l : ℕ). front ++ graph_lines l (get_or fs g 0)) (tail_at ls g) in
    ap (λ (t : List ℕ). answer_line "response" f ++ (m ++ t)) more
    ∙ ap (λ (t : List ℕ). answer_line "response" f ++ t) (sym (append_assoc m front last))
    ∙ sym (append_assoc (answer_line "response" f) (m ++ front) last)

lines_shorter : (fs ls : List ℕ) (k n : ℕ) → k ≤ n → length (margin_lines (take k fs) ls) ≤ length (margin_lines (take n fs) ls)
unfolding margin_lines
lines_shorter fs ls zero n h = omega arith
lines_shorter fs ls (suc k) zero h = absurd (not-suc-le-zero h)
lines_shorter [] ls (suc k) (suc n) h = omega arith
lines_shorter (f ∷ fs) ls (suc k) (suc n) h =
    let m : List ℕ = margin_line (get_or ls 0 0) f in
    let a : List ℕ = margin_lines (take k fs) (tail ls) in
    let b : List ℕ = margin_lines (take n fs) (tail ls) in
    omega (
      arith,
      length-append (answer_line "response" f) (m ++ a),
      length-append (answer_line "response" f) (m ++ b),
      length-append m a,
      length-append m b,
      lines_shorter fs (tail ls) k n (omega arith),
    )

-- of graphs whose figures and limits stand in fs and ls
module _ (fs ls : List ℕ) (g : ℕ) (inside : g < length fs) where
  pub graph_more : margin_lines (take g fs) ls ++ graph_lines (get_or ls g 0) (get_or fs g 0) ≡ margin_lines (take (g + 1) fs) ls
  graph_more = sym (ap (λ (k : ℕ). margin_lines (take k fs) ls) (add-one g) ∙ lines_more fs ls g inside)

  pub graph_fits : length (margin_lines (take g fs) ls) + length (graph_lines (get_or ls g 0) (get_or fs g 0)) ≤ length (margin_lines fs ls)
  graph_fits =
      omega (
        arith,
        ap length graph_more,
        length-append (margin_lines (take g fs) ls) (graph_lines (get_or ls g 0) (get_or fs g 0)),
        lines_shorter fs ls (g + 1) (length fs) (omega arith),
        ap (λ (l : List ℕ). length (margin_lines l ls)) (take_all (length fs) fs (omega arith)),
      )

-- the head of the text is the report of no graph
pub head_first : (round ticks : ℕ) (fs ls : List ℕ) → report_text round ticks [] ++ margin_lines fs ls ≡ margin_text round ticks fs ls
unfolding report_text response_lines margin_text
head_first round ticks fs ls =
    let a : List ℕ = answer_line "answer" 0 in
    let r : List ℕ = answer_line "round" round in
    let t : List ℕ = answer_line "ticks" ticks in
    let m : List ℕ = margin_lines fs ls in
    append_assoc a (r ++ (t ++ [])) m
    ∙ ap (λ (l : List ℕ). a ++ l) (append_assoc r (t ++ []) m ∙ ap (λ (l : List ℕ). r ++ (l ++ m)) (append-nil t))
