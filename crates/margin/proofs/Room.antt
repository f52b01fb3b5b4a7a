-- Every answer fits a buffer of a fixed length: no text of margins is longer than `longest_margins`. So a caller who lends that much is never
-- refused as 10.
use mathlib.Core.Path.{◌≡◌, refl, sym, ap, ◌∙◌}
use mathlib.Core.List.{List, [], ◌∷◌, ◌++◌, tail}
use Prim.Native.Nat.{ℕ, zero, suc, ◌-◌, ◌*◌, ◌≤◌, ◌<◌}
use native.Mathlib.Omega.{arith}
use lib.Dec.{leb}
use lib.ListN.{length, get_or, length-append}
use Rattle.schedule.specs.Limits as Limits
use Rattle.schedule.specs.Table.{Table}
use Rattle.schedule.specs.Servers.{Box, box_of, whole}
use Rattle.schedule.specs.Walk.{Stop, settled, unsettled, backlog, figures, walked}
use Rattle.schedule.proofs.Tests.{by_test, by_lt}
use Rattle.theorems.proofs.Formed.{within_limits}
use Rattle.format.specs.Bytes.{bytes, line_feed, decimal}
use Rattle.format.specs.Keys as Keys
use Rattle.format.specs.Keys.{keys}
use Rattle.format.specs.Reading.{Place, Outcome, refused, done, number_line, ended}
use Rattle.rules.specs.Admission.{Admission, admitted, admission_of}
use Rattle.rules.specs.Answers.{answer_line, says, refuses}
use Rattle.rules.proofs.Outcomes.{Holds, told, then_holds, number_line_holds}
use Rattle.margins.specs.Margins.{limits_from, limits_of, margin_line, margin_lines, margin_text, Margin, on_limits, margin_on, margin_of}
use Rattle.planning.proofs.NodeFits.{few}
use Rattle.window.proofs.Walked.{stop}
use Rattle.writing.specs.Line.{ended as ended_by}
use Rattle.writing.specs.Lengths.{most_digits}
use Rattle.writing.proofs.Counting.{digits_most}
use Rattle.marginlines.specs.Lines.{longest_margin, longest_lines, longest_margins}
use Rattle.marginlines.proofs.Margins.{kept_line, over_line}
use Rattle.sheet.proofs.Reports.{ok}
use Rattle.sheet.proofs.TextLengths.{Small, line_short}
use Rattle.margin.proofs.Planning.{refused_margin}
use Rattle.sheet.proofs.Room.{text_in, in_time, round_early, figures_small, many_figures}

-- every limit that is read is within its limits
abbrev Small-limits : List ℕ → Type 0
Small-limits vs = (g : ℕ) → get_or vs g 0 ≤ (Limits.limit).to

one_more_lem : (v : ℕ) (vs : List ℕ) → v ≤ (Limits.limit).to → Small-limits vs → Small-limits (v ∷ vs)
one_more_lem v vs h i zero = h
one_more_lem v vs h i (suc g) = i g

limits_from_lem : (n : ℕ) (p : Place) → Holds (λ vs q. Small-limits vs) (limits_from n p)
unfolding limits_from keys
limits_from_lem zero p = λ g. omega arith
limits_from_lem (suc n) p =
    then_holds _ _ (number_line Keys.limit p) _ (number_line_holds Keys.limit p) (λ v q h.
    then_holds _ _ (limits_from n q) _ (limits_from_lem n q) (λ vs r i. one_more_lem v vs (within_limits Limits.limit v h.0).1 i))

limits_of_lem : (n : ℕ) (s : List ℕ) → Holds (λ vs q. Small-limits vs) (limits_of n s)
unfolding limits_of
limits_of_lem n s =
    by_test (leb (length s) (Limits.limit_bytes).to)
    (λ e. rw e (then_holds _ _ (limits_from n start) _ (limits_from_lem n start) (λ vs p h. last vs p p.bytes h))) (λ e. rw e tt)
  where
    start : Place
    start = record { line = 1; bytes = s }

    last : (vs : List ℕ) (p : Place) (b : List ℕ) → Small-limits vs → Holds (λ vs q. Small-limits vs) (ended vs p b)
    last vs p [] h = h
    last vs p (c ∷ b) h = tt

margin_short : (limit response : ℕ) → Small limit → Small response → length (margin_line limit response) ≤ longest_margin
margin_short limit response a b =
    by_lt limit response
    (λ h. omega (
      arith,
      ap length (over_line limit response h),
      length-append (bytes "margin=-") (ended_by (response - limit) line_feed),
      length-append (decimal (response - limit)) (line_feed ∷ []),
      digits_most (most_digits - 1) (response - limit) (omega arith),
    ))
    (λ h. omega (
      arith,
      ap length (kept_line limit response h),
      length-append (bytes "margin=") (ended_by (limit - response) line_feed),
      length-append (decimal (limit - response)) (line_feed ∷ []),
      digits_most (most_digits - 1) (limit - response) (omega arith),
    ))

tail_small : (vs : List ℕ) → Small-limits vs → Small-limits (tail vs)
tail_small [] h g = h g
tail_small (v ∷ vs) h g = h (suc g)

lines_short : (fs vs : List ℕ) → ((g : ℕ) → g < length fs → Small (get_or fs g 0)) → Small-limits vs → length (margin_lines fs vs) ≤ length fs * longest_lines
unfolding margin_lines
lines_short [] vs h i = omega arith
lines_short (f ∷ fs) vs h i =
    let m : List ℕ = margin_line (get_or vs 0 0) f in
    let more : List ℕ = margin_lines fs (tail vs) in
    omega (
      arith,
      length-append (answer_line "response" f) (m ++ more),
      length-append m more,
      line_short "response" f (h 0 (omega arith)),
      margin_short (get_or vs 0 0) f (omega (arith, i 0)) (h 0 (omega arith)),
      lines_short fs (tail vs) (λ g l. h (suc g) (omega arith)) (tail_small vs i),
    )

margins_short : (k t : ℕ) (fs vs : List ℕ) → Small k → Small t → length fs ≤ (Limits.graphs).to → ((g : ℕ) → g < length fs → Small (get_or fs g 0))
    → Small-limits vs → length (margin_text k t fs vs) ≤ longest_margins
unfolding margin_text
margins_short k t fs vs a b few h i =
    let ticks : List ℕ = answer_line "ticks" t ++ margin_lines fs vs in
    let round : List ℕ = answer_line "round" k ++ ticks in
    omega (
      arith,
      length-append (answer_line "answer" 0) round,
      length-append (answer_line "round" k) ticks,
      length-append (answer_line "ticks" t) (margin_lines fs vs),
      line_short "answer" 0 (omega arith),
      line_short "round" k a,
      line_short "ticks" t b,
      lines_short fs vs h i,
    )

module _ (bytes limits : List ℕ) (U : Table) (e : admission_of bytes ≡ admitted U) where
  abbrev X : Box
  X = box_of U

  abbrev t : ℕ
  t = (stop X).ticks

  abbrev fs : List ℕ
  fs = figures X (whole X.servers) t

  of_limits : (k : ℕ) → (stop X).how ≡ settled k → (x : Outcome (List ℕ)) → limits_of (length U.graphs) limits ≡ x
      → (s : List ℕ) → (on_limits k t fs x).reply ≡ says s → length s ≤ longest_margins
  of_limits k h (refused f) q s r = let z : ◌≡◌ {A = ℕ} 0 1 = cc in absurd (let x : ⊥ = omega arith in x)
  of_limits k h (done vs p) q s r =
      let is : margin_text k t fs vs ≡ s = ap text_in r in
      rw (sym is)
      (margins_short k t fs vs (omega (arith, in_time bytes U e, round_early bytes U e k h)) (omega (arith, in_time bytes U e))
      (omega (arith, many_figures bytes U e, few U (ok bytes U e)))
      (λ g l. omega (arith, in_time bytes U e, figures_small bytes U e k h g (omega (arith, many_figures bytes U e))))
      (told _ q (limits_of_lem (length U.graphs) limits)))

  of_how : (how : Stop) → (stop X).how ≡ how → (s : List ℕ) → (margin_on how t fs (limits_of (length U.graphs) limits)).reply ≡ says s → length s ≤ longest_margins
  of_how (settled k) h s r = of_limits k h (limits_of (length U.graphs) limits) refl s r
  of_how unsettled h s r = let z : ◌≡◌ {A = ℕ} 0 1 = cc in absurd (let x : ⊥ = omega arith in x)
  of_how backlog h s r = let z : ◌≡◌ {A = ℕ} 0 1 = cc in absurd (let x : ⊥ = omega arith in x)

  margin_of_lem : margin_of bytes limits ≡ margin_on (stop X).how t fs (limits_of (length U.graphs) limits)
  unfolding margin_of walked
  margin_of_lem = rw e

of_admission : (bytes limits s : List ℕ) (a : Admission) → admission_of bytes ≡ a → (margin_of bytes limits).reply ≡ says s → length s ≤ longest_margins
of_admission bytes limits s (admitted U) e r =
    of_how bytes limits U e (stop (box_of U)).how refl s (ap (λ (m : Margin). m.reply) (sym (margin_of_lem bytes limits U e)) ∙ r)
of_admission bytes limits s (Admission.refused f) e r =
    let q : refuses f ≡ says s = ap (λ (m : Margin). m.reply) (sym (refused_margin bytes limits f e)) ∙ r in
    let z : ◌≡◌ {A = ℕ} 0 1 = cc in
    absurd (let x : ⊥ = omega arith in x)

pub every_margin_fits : (bytes limits s : List ℕ) → (margin_of bytes limits).reply ≡ says s → length s ≤ longest_margins
every_margin_fits bytes limits s r = of_admission bytes limits s (admission_of bytes) refl r

-- as include/phalandrix.h says
pub margin_bytes : longest_margins ≡ 364
margin_bytes = refl
