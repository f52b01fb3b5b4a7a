-- Margins that are given are true: from the bytes of a table and of its limits to the text, a margin is zero or more exactly when no
-- invocation within budgets can ever break the limit (document 02, R-12; by demand 3).
use mathlib.Core.Path.{◌≡◌, refl, sym, ap, ◌∙◌, subst}
use mathlib.Core.Bool.{Bool, true, false, cond}
use mathlib.Core.List.{List, [], ◌∷◌}
use Prim.Native.Nat.{ℕ, zero, suc, ◌+◌, ◌≤◌, ◌<◌}
use native.Mathlib.Omega.{arith}
use lib.Dec.{T, leb}
use lib.ListN.{length, get_or, length-map}
use Rattle.schedule.specs.Limits as Limits
use Rattle.schedule.specs.Table.{Table}
use Rattle.schedule.specs.WellFormed.{well_formed}
use Rattle.schedule.specs.Servers.{Server, srv, Box, box_of, whole}
use Rattle.schedule.specs.ServerJobs.{release_of}
use Rattle.schedule.specs.Walk.{Stop, settled, unsettled, backlog, figures, walked, whole_walk}
use Rattle.schedule.specs.LeastTrue.{Needs, LeastTrue, Takes}
use Rattle.schedule.proofs.Tests.{by_test}
use Rattle.theorems.proofs.TableBox.{server_fits, length_sinks}
use Rattle.theorems.proofs.Finishing.{finished_is, is_finished, finished_stays}
use Rattle.theorems.proofs.LeastTrue.{figures_are_least_true}
use Rattle.format.specs.declared.Refusal.{Refusal}
use Rattle.format.specs.declared.Refusal.TheVariants.{TooLong}
use Rattle.format.specs.Keys as Keys
use Rattle.format.specs.Reading.{Place, Outcome, refused, done, ◌and_then◌, number_line, ended}
use Rattle.rules.specs.AnswerNumbers.{answer_number}
use Rattle.rules.specs.Admission as Admission
use Rattle.rules.specs.Admission.{Admission, admitted, admission_of}
use Rattle.rules.specs.Answers.{Reply, says, refuses, fitted, left, call_of}
use Rattle.rules.proofs.ReadWellFormed.{admitted_well_formed}
use Rattle.rules.proofs.TrueReports.{number_some}
use Rattle.margins.specs.Margins.{limits_from, limits_of, Margin, on_limits, margin_on, margin_admitted, margin_text, margin_of}
use Rattle.margins.specs.Kept.{Keeps, TrueMargins}
use Rattle.margins.proofs.Printed.{margin_text_tells}

-- the least true figure is within a limit exactly when the graph keeps it
module _ (X : Box) (i u f limit : ℕ) (least : LeastTrue X i u f) where
  abbrev S : List Server
  S = X.servers

  pub keeps : f ≤ limit → Keeps X i limit
  keeps l need n j a =
      let t = release_of (srv S i) j in
      is_finished S X.cap need (t + limit) i j
      (finished_stays S X.cap need (t + f) (t + limit) i j (omega arith) (finished_is S X.cap need (t + f) i j (least.true_for_all need n j a)))

  pub only_then : Needs S (whole S) → Keeps X i limit → f ≤ limit
  only_then n k =
      let (j, t) = least.attained in
      omega (arith, t.no_earlier (release_of (srv S i) j + limit) (k (whole S) n j t.from))

-- whole budgets are from 1 to the budgets
whole_needs : (X : Table) → T (well_formed X) → Needs (box_of X).servers (whole (box_of X).servers)
unfolding whole
whole_needs X ok = record { some = λ i j l a. (server_fits X ok i l).budget_some; most = λ i j l a. omega arith }

-- as many limits as graphs
Many : ℕ → Outcome (List ℕ) → Type 0
Many n (refused r) = Unit {0}
Many n (done vs p) = length vs ≡ n

many_from : (n : ℕ) (p : Place) → Many n (limits_from n p)
unfolding limits_from Many
many_from zero p = refl
many_from (suc n) p = first (λ q. many_from n q) (number_line Keys.limit p)
  where
    rest : (v : ℕ) (x : Outcome (List ℕ)) → Many n x → Many (suc n) (x and_then λ vs p. done (v ∷ vs) p)
    rest v (refused r) m = tt
    rest v (done vs q) m = ap suc m

    first : ((q : Place) → Many n (limits_from n q)) → (x : Outcome ℕ)
        → Many (suc n) (x and_then λ v p. limits_from n p and_then λ vs p. done (v ∷ vs) p)
    first more (refused r) = tt
    first more (done v q) = rest v (limits_from n q) (more q)

many_limits : (n : ℕ) (s : List ℕ) → Many n (limits_of n s)
unfolding limits_of Many
many_limits n s =
    by_test (leb (length s) (Limits.limit_bytes).to) (λ e. rw e (last (limits_from n start) (many_from n start))) (λ e. rw e tt)
  where
    start : Place
    start = record { line = 1; bytes = s }

    at_end_lem : (vs : List ℕ) (p : Place) (b : List ℕ) → length vs ≡ n → Many n (ended vs p b)
    at_end_lem vs p [] m = m
    at_end_lem vs p (c ∷ b) m = tt

    last : (x : Outcome (List ℕ)) → Many n x → Many n (x and_then λ vs p. ended vs p p.bytes)
    last (refused r) m = tt
    last (done vs p) m = at_end_lem vs p p.bytes m

-- the numbers of a text are told by it
numbers_told : (x : Reply) (k l t u : ℕ) (fs gs ls ms : List ℕ) → length ls ≡ length fs → length ms ≡ length gs
    → x ≡ says (margin_text k t fs ls) → x ≡ says (margin_text l u gs ms) → (l ≡ k) × (u ≡ t) × (gs ≡ fs) × (ms ≡ ls)
numbers_told x k l t u fs gs ls ms a b p q = margin_text_tells l k u t gs fs ms ls b a (let e : margin_text l u gs ms ≡ margin_text k t fs ls = cc in e)

no_text : {r : Refusal} {s : List ℕ} → refuses r ≡ says s → ⊥
no_text q = let z : ◌≡◌ {A = ℕ} 0 1 = cc in omega arith

module _ (bytes limits : List ℕ) where
  abbrev limits_read : Table → Outcome (List ℕ)
  limits_read U = limits_of (length U.graphs) limits

  margin_is : (U : Table) → admission_of bytes ≡ admitted U → (how : Stop) → (whole_walk (box_of U)).how ≡ how
      → margin_of bytes limits ≡ margin_on how (whole_walk (box_of U)).ticks (whole_walk (box_of U)).figures (limits_read U)
  unfolding margin_of
  margin_is U e how h = rw (e, h)

  settled_margins : (U : Table) (k : ℕ) → admission_of bytes ≡ admitted U → (whole_walk (box_of U)).how ≡ settled k → (vs : List ℕ) (p : Place)
      → limits_read U ≡ done vs p → TrueMargins bytes limits
  unfolding walked figures Many
  settled_margins U k e h vs p r =
      let w = whole_walk (box_of U) in
      let ok = (admitted_well_formed bytes U e).0 in
      let least = figures_are_least_true U ok k h in
      let says_so : (margin_of bytes limits).reply ≡ says (margin_text k w.ticks w.figures vs) =
      ap (λ (m : Margin). m.reply) (margin_is U e (settled k) h) ∙ ap (λ (x : Outcome (List ℕ)). (on_limits k w.ticks w.figures x).reply) r in
      let as_many : length w.figures ≡ length U.graphs = length-map (box_of U).sinks _ ∙ length_sinks 0 U.graphs in
      let as-many-limits : length vs ≡ length U.graphs = subst (Many (length U.graphs)) r (many_limits (length U.graphs) limits) in
      record {
        table = U;
        is_admitted = e;
        round = k;
        ticks = w.ticks;
        figures = w.figures;
        limits = vs;
        end = p;
        are_limits = r;
        text = says_so;
        no_others = λ l u gs ms a q. numbers_told _ k l w.ticks u w.figures gs vs ms (as-many-limits ∙ sym as_many) a says_so q;
        many = as_many;
        many_limits = as-many-limits;
        least_true = least;
        kept = λ g l. keeps (box_of U) (get_or (box_of U).sinks g 0) w.ticks (get_or w.figures g 0) (get_or vs g 0) (least g l);
        only_kept = λ g l. only_then (box_of U) (get_or (box_of U).sinks g 0) w.ticks (get_or w.figures g 0) (get_or vs g 0) (least g l) (whole_needs U ok);
      }

  of_limits : (U : Table) (k : ℕ) → admission_of bytes ≡ admitted U → (whole_walk (box_of U)).how ≡ settled k → (x : Outcome (List ℕ)) → limits_read U ≡ x
      → (s : List ℕ) → (margin_of bytes limits).reply ≡ says s → TrueMargins bytes limits
  of_limits U k e h (done vs p) r s q = settled_margins U k e h vs p r
  of_limits U k e h (refused f) r s q =
      let w = whole_walk (box_of U) in
      absurd (no_text (sym (ap (λ (m : Margin). m.reply) (margin_is U e (settled k) h) ∙ ap (λ (x : Outcome (List ℕ)). (on_limits k w.ticks w.figures x).reply) r) ∙ q))

  of_walk : (U : Table) → admission_of bytes ≡ admitted U → (how : Stop) → (whole_walk (box_of U)).how ≡ how
      → (s : List ℕ) → (margin_of bytes limits).reply ≡ says s → TrueMargins bytes limits
  of_walk U e (settled k) h s q = of_limits U k e h (limits_read U) refl s q
  of_walk U e unsettled h s q = absurd (no_text (sym (ap (λ (m : Margin). m.reply) (margin_is U e unsettled h)) ∙ q))
  of_walk U e backlog h s q = absurd (no_text (sym (ap (λ (m : Margin). m.reply) (margin_is U e backlog h)) ∙ q))

  of_admission : (a : Admission) → admission_of bytes ≡ a → (s : List ℕ) → (margin_of bytes limits).reply ≡ says s → TrueMargins bytes limits
  unfolding margin_of
  of_admission (admitted U) e s q = of_walk U e (whole_walk (box_of U)).how refl s q
  of_admission (Admission.refused f) e s q =
      absurd (no_text (ap (λ (a : Admission). (margin_admitted whole_walk limits a).reply) (sym e) ∙ q))

  pub margins_are_true : (s : List ℕ) → (margin_of bytes limits).reply ≡ says s → TrueMargins bytes limits
  margins_are_true s q = of_admission (admission_of bytes) refl s q

  of_reply : (buffer : List ℕ) (r : Reply) → (margin_of bytes limits).reply ≡ r → answer_number (call_of buffer r).answer ≡ 0 → TrueMargins bytes limits
  unfolding call_of fitted left
  of_reply buffer (says s) e z = margins_are_true s e
  of_reply buffer (refuses f) e z = absurd (number_some f z)

  -- of what a call returns
  pub answered_margins_are_true : (buffer : List ℕ) → answer_number (call_of buffer (margin_of bytes limits).reply).answer ≡ 0 → TrueMargins bytes limits
  answered_margins_are_true buffer z = of_reply buffer (margin_of bytes limits).reply refl z
