-- What is kept of a boundary's state holds its first places; so the engine's comparison of a state with it says that the two states have
-- the same at each of those places, where the next release lies as much later as the boundary.
use mathlib.Core.Path.{◌≡◌, refl, sym, ◌∙◌}
use mathlib.Core.Bool.{Bool, ◌&&◌}
use mathlib.Core.List.{List}
use Prim.Native.Nat.{ℕ, ◌+◌, ◌*◌, ◌≤◌, ◌<◌, min}
use native.Mathlib.Omega.{arith}
use lib.Dec.{T, eqb, eqb→eq}
use lib.ListN.{length, get_or}
use Rattle.schedule.proofs.Tests.{and_l, and_r, and_i, eq→eqb}
use Rattle.table.specs.declared.State.{State}
use Rattle.table.specs.declared.Kept.{Kept}
use Rattle.window.specs.Entries.{places, window, slots, no_server, further, slot_of, server_at, count_at, unfinished_at, unlinked_at, next_at, left_at}
use Rattle.window.specs.Comparing.{same_pending, same_window, same_windows, same_counts, same_phases, same_slots, same_left, same_states, keep}
use Rattle.window.proofs.Loops.{each_below, all_below_lem, replaced_length, replaced_in}

-- the lists that are filled place by place have their lengths
pub record KeptSized (kept : Kept) : Type 0 where
  pub servers : length kept.servers ≡ places
  pub left : length kept.left ≡ slots

-- the first n places are those of b
pub record Holds (b : State) (n : ℕ) (kept : Kept) : Type 0 where
  pub server : (i : ℕ) → i < n → get_or kept.servers i no_server ≡ server_at b i
  pub left : (i d : ℕ) → i < n → d < window → get_or kept.left (i * window + d) 0 ≡ left_at b i d
  pub count : (i : ℕ) → i < n → get_or kept.count i 0 ≡ count_at b i
  pub unfinished : (i : ℕ) → i < n → get_or kept.unfinished i 0 ≡ unfinished_at b i
  pub unlinked : (i : ℕ) → i < n → get_or kept.unlinked i 0 ≡ unlinked_at b i
  pub next : (i : ℕ) → i < n → get_or kept.next i 0 ≡ next_at b i

module _ (b : State) (old : Kept) (n : ℕ) (sized : KeptSized old) where
  pub keep_sized : KeptSized (keep b old n)
  keep_sized =
      record {
        servers = replaced_length (server_at b) old.servers n ∙ sized.servers;
        left = replaced_length _ old.left _ ∙ sized.left;
      }

  pub keep_holds : n ≤ places → Holds b n (keep b old n)
  keep_holds most =
      record {
        server = λ i h. replaced_in (server_at b) old.servers n i no_server h (omega (arith, sized.servers));
        left = λ i d h l.
            replaced_in _ old.left _ (i * window + d) 0 (omega arith) (omega (arith, sized.left));
        count = λ i h. refl;
        unfinished = λ i h. refl;
        unlinked = λ i h. refl;
        next = λ i h. refl;
      }

-- what the engine's test says of one place, where b lies `hyper` ticks before a
pub record SamePlace (a b : State) (hyper i : ℕ) : Type 0 where
  pub count : count_at a i ≡ count_at b i
  pub unfinished : unfinished_at a i ≡ unfinished_at b i
  pub unlinked : unlinked_at a i ≡ unlinked_at b i
  pub next : next_at a i ≡ further (next_at b i) hyper
  pub left : (d : ℕ) → d < min (count_at a i) window → left_at a i d ≡ left_at b i d
  pub jobs : (d : ℕ) → d < min (count_at a i) window → T (same_pending (slot_of (server_at a i) d) (slot_of (server_at b i) d))

module _ (a b : State) (kept : Kept) (hyper n : ℕ) (holds : Holds b n kept) where
  -- the parts of that test
  abbrev A : Bool
  A = same_counts a.count kept.count n

  abbrev B : Bool
  B = same_counts a.unfinished kept.unfinished n

  abbrev C : Bool
  C = same_counts a.unlinked kept.unlinked n

  abbrev D : Bool
  D = same_phases a.next kept.next hyper n

  abbrev E : Bool
  E = same_left a.left kept.left a.count n

  abbrev F : Bool
  F = same_windows a.servers kept.servers a.count n

  abbrev eq_at : List ℕ → List ℕ → ℕ → Bool
  eq_at x y i = eqb (get_or x i 0) (get_or y i 0)

  -- where two numbers are listed alike at each place below n
  counts_at : (x y : List ℕ) (i : ℕ) → i < n → T (same_counts x y n) → get_or x i 0 ≡ get_or y i 0
  counts_at x y i h t = eqb→eq (get_or x i 0) (get_or y i 0) (each_below (eq_at x y) n i h t)

  at_counts : (x y : List ℕ) → ((i : ℕ) → i < n → get_or x i 0 ≡ get_or y i 0) → T (same_counts x y n)
  at_counts x y h = all_below_lem (eq_at x y) n (λ i l. eq→eqb (get_or x i 0) (get_or y i 0) (h i l))

  abbrev phase : ℕ → Bool
  phase i = eqb (next_at a i) (further (get_or kept.next i 0) hyper)

  abbrev lefts : ℕ → Bool
  lefts i = same_slots a.left kept.left (i * window) (count_at a i)

  abbrev left? : ℕ → ℕ → Bool
  left? i d = eqb (left_at a i d) (get_or kept.left (i * window + d) 0)

  abbrev jobs : ℕ → Bool
  jobs i = same_window (server_at a i) (get_or kept.servers i no_server) (count_at a i)

  abbrev job? : ℕ → ℕ → Bool
  job? i d = same_pending (slot_of (server_at a i) d) (slot_of (get_or kept.servers i no_server) d)

  pub same_place : T (same_states a kept hyper n) → (i : ℕ) → i < n → SamePlace a b hyper i
  same_place t i h =
      let t1 = and_r A (B && (C && (D && (E && F)))) t in
      let t2 = and_r B (C && (D && (E && F))) t1 in
      let t3 = and_r C (D && (E && F)) t2 in
      let t4 = and_r D (E && F) t3 in
      record {
        count = counts_at a.count kept.count i h (and_l A (B && (C && (D && (E && F)))) t) ∙ holds.count i h;
        unfinished = counts_at a.unfinished kept.unfinished i h (and_l B (C && (D && (E && F))) t1) ∙ holds.unfinished i h;
        unlinked = counts_at a.unlinked kept.unlinked i h (and_l C (D && (E && F)) t2) ∙ holds.unlinked i h;
        next =
            eqb→eq (next_at a i) (further (get_or kept.next i 0) hyper) (each_below phase n i h (and_l D (E && F) t3)) ∙ rw (holds.next i h);
        left = λ d l.
            eqb→eq (left_at a i d) (get_or kept.left (i * window + d) 0)
            (each_below (left? i) (min (count_at a i) window) d l (each_below lefts n i h (and_l E F t4)))
            ∙ holds.left i d h (omega arith);
        jobs = λ d l. rw (holds.server i h) at (each_below (job? i) (min (count_at a i) window) d l (each_below jobs n i h (and_r E F t4)));
      }

  pub place_same : ((i : ℕ) → i < n → SamePlace a b hyper i) → T (same_states a kept hyper n)
  place_same s =
      and_i A (B && (C && (D && (E && F)))) (at_counts a.count kept.count (λ i h. (s i h).count ∙ sym (holds.count i h)))
      (and_i B (C && (D && (E && F))) (at_counts a.unfinished kept.unfinished (λ i h. (s i h).unfinished ∙ sym (holds.unfinished i h)))
      (and_i C (D && (E && F)) (at_counts a.unlinked kept.unlinked (λ i h. (s i h).unlinked ∙ sym (holds.unlinked i h)))
      (and_i D (E && F)
      (all_below_lem phase n (λ i h. rw (holds.next i h) (eq→eqb (next_at a i) (further (next_at b i) hyper) (s i h).next)))
      (and_i E F
      (all_below_lem lefts n
      (λ i h. all_below_lem (left? i) (min (count_at a i) window)
      (λ d l. rw (holds.left i d h (omega arith)) (eq→eqb (left_at a i d) (left_at b i d) ((s i h).left d l)))))
      (all_below_lem jobs n
      (λ i h. all_below_lem (job? i) (min (count_at a i) window) (λ d l. rw (holds.server i h) ((s i h).jobs d l))))))))
