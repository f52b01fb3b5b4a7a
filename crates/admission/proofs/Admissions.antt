-- A well-formed table in memory is admitted as the rules admit it: once a least common multiple is past the limit, so is the hyperperiod.
use mathlib.Core.Path.{◌≡◌, refl, ◌∙◌, ap}
use mathlib.Core.Bool.{true}
use mathlib.Core.List.{List, [], ◌∷◌}
use Prim.Native.Nat.{ℕ, ◌*◌, ◌<◌, ◌≤◌}
use native.Mathlib.Nat.{le_refl, le_trans, lt_of_lt_of_le}
use native.Mathlib.Omega.{arith}
use lib.Dec.{leb}
use borrow.Author.Tests.{le-leb, lt-leb, leb-true, leb-false}
use Rattle.schedule.specs.Limits as Limits
use Rattle.schedule.specs.Lists.{all?}
use Rattle.schedule.specs.Table.{Graph, Table, lcm, lcm_from, hyperperiod, load, loadable, keeps_up}
use Rattle.schedule.specs.WellFormed.{graph_formed, well_formed}
use Rattle.rules.specs.Admission.{admit}
use Rattle.theorems.proofs.Formed.{first_of_lem, second_of, within_limits, graph_formed_lem, table_formed}
use Rattle.schedule.proofs.Tests.{by_test}
use Rattle.numbers.specs.Multiples.{multiple_within}
use Rattle.numbers.proofs.Euclid.{lcm_grows}
use Rattle.table.specs.declared.Table.{Table as Memory}
use Rattle.reading.specs.Memory.{memory_of, table_of}
use Rattle.admission.specs.Admission.{coded_admission, by_pace, by_load, by_hyperperiod, admitted_memory}
use Rattle.admission.specs.Loads.{hyperperiod_within, graphs_load, room_after}
use Rattle.reading.proofs.MemoryLaws.{table_of_memory}

period_positive : (G : Graph) → graph_formed G ≡ true → 0 < G.period
period_positive G e = (within_limits Limits.period G.period (graph_formed_lem G e).period).0

multiple_grows : (Gs : List Graph) (h : ℕ) → all? graph_formed Gs ≡ true → h ≤ lcm_from h Gs
unfolding lcm_from
multiple_grows [] h e = le_refl h
multiple_grows (G ∷ Gs) h e =
    le_trans (lcm_grows h G.period (period_positive G (first_of_lem (graph_formed G) (all? graph_formed Gs) e)))
    (multiple_grows Gs (lcm h G.period) (second_of (graph_formed G) (all? graph_formed Gs) e))

hyperperiod_within_lem : (most h : ℕ) (Gs : List Graph) → h ≤ most → all? graph_formed Gs ≡ true → hyperperiod_within most h Gs ≡ multiple_within most (lcm_from h Gs)
unfolding hyperperiod_within lcm_from
hyperperiod_within_lem most h [] l e = rw (le-leb h most l)
hyperperiod_within_lem most h (G ∷ Gs) l e =
    let m = lcm h G.period in
    let others = second_of (graph_formed G) (all? graph_formed Gs) e in
    by_test (leb m most)
    (λ t. rw t (hyperperiod_within_lem most m Gs (leb-true m most t) others))
    (λ t. rw (t, lt-leb (lcm_from m Gs) most (lt_of_lt_of_le (leb-false m most t) (multiple_grows Gs m others))))

-- a table in memory that stands for T
admitted_alike : (t : Memory) (T : Table) → t ≡ memory_of T → table_of t ≡ T → all? graph_formed T.graphs ≡ true
    → admitted_memory t ≡ coded_admission (admit T)
unfolding admit hyperperiod loadable load
admitted_alike t T e f formed =
    let most = (Limits.hyperperiod).to in
    let H = lcm_from 1 T.graphs in
    let room = room_after (T.processors * H) (graphs_load H T.graphs) in
    ap (λ (U : Table). by_hyperperiod t (hyperperiod_within most 1 U.graphs)) f
    ∙ ap (by_hyperperiod t) (hyperperiod_within_lem most 1 T.graphs (omega arith) formed)
    ∙ by_test (leb H most)
    (λ h. rw h
    (ap (λ (U : Table). by_load t H (room_after (U.processors * H) (graphs_load H U.graphs))) f
    ∙ by_test (leb (graphs_load H T.graphs) (T.processors * H))
    (λ g. rw g
    (ap (λ (U : Table). by_pace t H (keeps_up U)) f
    ∙ by_test (keeps_up T) (λ k. rw (k, e)) (λ k. rw k)))
    (λ g. rw g)))
    (λ h. rw h)

pub admitted_memory_lem : (T : Table) → well_formed T ≡ true → admitted_memory (memory_of T) ≡ coded_admission (admit T)
admitted_memory_lem T e = admitted_alike (memory_of T) T refl (table_of_memory T e) (table_formed T e).graphs
