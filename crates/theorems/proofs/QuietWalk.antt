-- What a quiet span leaves as it is: the links, the rows, which jobs are finished, the figures, and whether there is a backlog. So a walk that
-- need not stop at its first instant passes over the span in one step.
use mathlib.Core.Path.{◌≡◌, refl, sym, ap, ◌∙◌}
use mathlib.Core.Bool.{Bool, true, false, ◌&&◌, cond}
use mathlib.Core.List.{List, [], ◌∷◌, map}
use mathlib.Core.Option.{none, some}
use Prim.Native.Nat.{ℕ, zero, suc, ◌+◌, ◌*◌, ◌-◌, ◌≤◌, ◌<◌, max}
use native.Mathlib.Nat.{le_refl, add-zero, add-suc, mul-zero, mul-one}
use native.Mathlib.Omega.{arith}
use lib.Dec.{T, leb, ltb, eqb, leb→le, ltb→lt, lt→ltb}
use lib.ListN.{length, get_or}
use borrow.Author.Tests.{ne_eqb}
use Rattle.schedule.specs.Lists.{one?, count, any?, keep, joined, largest, numbers, up_to, cell}
use Rattle.schedule.specs.Servers.{Server, srv, Box, whole}
use Rattle.schedule.specs.ServerJobs.{ServerJob, release_of, released, released_before, pending, ready_jobs, rank, used}
use Rattle.schedule.specs.Links.{link, links, finished_by}
use Rattle.schedule.specs.State.{same_state, finished_count, state, state_at}
use Rattle.schedule.specs.Walk.{crowded, overdue, backlogged, boundary, at_boundary, stop_with, stop_at, first_stop, response_at, finishing, figure}
use Rattle.schedule.specs.Walk.{Stop, settled, unsettled, backlog, round_at, running_at, row_at}
use Rattle.schedule.proofs.Tests.{by_lt, either_way, dec, true_T, bool_ext, none_of}
use Rattle.theorems.proofs.Counts.{up_to_last}
use Rattle.schedule.proofs.Cells.{cell_in}
use Rattle.theorems.proofs.Releases.{released_before_le}
use Rattle.theorems.proofs.InTurn.{budget_of, used_by, running, used_out}
use Rattle.theorems.proofs.Linking.{link_of, new_link, links_old, links_stay}
use Rattle.theorems.proofs.Finishing.{Finished, finished_is, is_finished, finished_stays, finished_number}
use Rattle.theorems.proofs.QuietSpans.{keep_same, joined_same, written_same, pending_same, rank_same}
use Rattle.theorems.proofs.QuietSpans.{Quiet, grown, same_left_lem, same_ready}

map_same : {A B : Type 0} (f g : A → B) → ((x : A) → f x ≡ g x) → (l : List A) → map f l ≡ map g l
map_same f g h [] = refl
map_same f g h (x ∷ xs) = rw (h x, map_same f g h xs)

count_same : (p q : ℕ → Bool) (a n : ℕ) → ((k : ℕ) → a ≤ k → p k ≡ q k) → count p (numbers a n) ≡ count q (numbers a n)
count_same p q a zero h = refl
count_same p q a (suc n) h = rw (h a (le_refl a), count_same p q (suc a) n (λ k b. h k (omega arith)))

-- none of those from n + 1 to n + m counts
count_more : (p : ℕ → Bool) (n m : ℕ) → ((k : ℕ) → n < k → T (p k) → ⊥) → count p (up_to (n + m)) ≡ count p (up_to n)
count_more p n zero h = rw (add-zero n)
count_more p n (suc m) h =
    rw (add-suc n m, up_to_last p (n + m), count_more p n m h) (omega (arith, none_of (p (suc (n + m))) (h (suc (n + m)) (omega arith))))

largest_none : (f : ℕ → ℕ) (a n : ℕ) → ((k : ℕ) → a ≤ k → k < a + n → f k ≡ 0) → largest f (numbers a n) ≡ 0
largest_none f a zero h = refl
largest_none f a (suc n) h = omega (arith, h a (le_refl a) (omega arith), largest_none f (suc a) n (λ k b c. h k (omega arith) (omega arith)))

any_same : (p q : ℕ → Bool) (a n : ℕ) → ((k : ℕ) → k < a + n → p k ≡ q k) → any? p (numbers a n) ≡ any? q (numbers a n)
any_same p q a zero h = refl
any_same p q a (suc n) h = rw (h a (omega arith), any_same p q (suc a) n (λ k b. h k (omega arith)))

any_at : (p q : ℕ → Bool) (l : List ℕ) → ((g : ℕ) → g < length l → p (get_or l g 0) ≡ q (get_or l g 0)) → any? p l ≡ any? q l
any_at p q [] h = refl
any_at p q (x ∷ xs) h = rw (h 0 (omega arith), any_at p q xs (λ g l. h (suc g) (omega arith)))

module _ (S : List Server) (cap : ℕ → ℕ) (need : ℕ → ℕ → ℕ) (t d : ℕ) (q : Quiet S cap t d) where
  -- no link is made after t
  pub links_within : (e : ℕ) → e < d → links S cap need (suc (t + e)) ≡ links S cap need (suc t)
  unfolding links link released_before
  links_within e l =
      written_same (length S) (width (t + e)) (width t) (next (t + e)) (next t) (λ i h. q.none_released i e h l)
      (λ i k h a b.
      sym (cell_in (length S) (width (t + e)) (next (t + e)) i k h a (omega (arith, q.none_released i e h l)))
      ∙ links_stay S cap need (suc t) (suc (t + e)) i k (omega arith) a b
      ∙ cell_in (length S) (width t) (next t) i k h a b)
    where
      width : ℕ → ℕ → ℕ
      width t i = released (srv S i) t

      next : ℕ → ℕ → ℕ → ℕ
      next t i k = cond (leb k (released_before (srv S i) t)) (link_of S cap need t i k) (new_link S cap need t i)

module _ (X : Box) (need : ℕ → ℕ → ℕ) (t d : ℕ) (q : Quiet X.servers X.cap t d) where
  abbrev S : List Server
  S = X.servers

  abbrev used_at : ℕ → List (List ℕ)
  used_at t = used S X.cap t

  running_within : (e : ℕ) → e < d → (x : ServerJob) → running_at X need (t + e) x ≡ running_at X need t x
  unfolding running_at
  running_within e l x = rw (links_within S X.cap need t d q e l)

  -- each tick has the same row
  pub row_within : (e : ℕ) → e < d → row_at X need (t + e) ≡ row_at X need t
  unfolding row_at
  row_within e l =
      map_same (running_at X need (t + e)) (running_at X need t) (running_within e l) (joined (ranked (t + e)) 0 (X.cap (t + e)))
      ∙ ap (map (running_at X need t)) (joined_same (ranked (t + e)) (ranked t) 0 (X.cap (t + e)) (λ r h. same r)
      ∙ ap (joined (ranked t) 0) (q.same_cap e l))
    where
      ranked : ℕ → ℕ → List ServerJob
      ranked t r = keep (λ (x : ServerJob). eqb (rank S (used_at t) t x) r) (ready_jobs S (used_at t) t)

      same : (r : ℕ) → ranked (t + e) r ≡ ranked t r
      same r =
          rw (same_ready S X.cap t d q e l)
          (keep_same (λ (x : ServerJob). eqb (rank S (used_at (t + e)) (t + e) x) r) (λ (x : ServerJob). eqb (rank S (used_at t) t x) r)
          (λ x. rw (rank_same S (used_at t) t (used_at (t + e)) (t + e) (same_left_lem S X.cap t d q e l) x)) (ready_jobs S (used_at t) t))

-- the jobs of node i need a tick at least; and where one that runs at t lacks ticks it lacks d of them
pub record Ahead (S : List Server) (cap : ℕ → ℕ) (need : ℕ → ℕ → ℕ) (t d i : ℕ) : Type 0 where
  pub inside : i < length S
  pub some : (j : ℕ) → 1 ≤ j → 1 ≤ need i j
  pub lacks : (k : ℕ) → T (running S cap t i k) → used_by S cap t i k < need i (link_of S cap need (suc t) i k)
      → used_by S cap t i k + d ≤ need i (link_of S cap need (suc t) i k)

-- with whole budgets that is so in every quiet span
pub whole_ahead : (S : List Server) (cap : ℕ → ℕ) (t d : ℕ) → Quiet S cap t d → (i : ℕ) → i < length S → 0 < budget_of S i
    → Ahead S cap (whole S) t d i
unfolding whole
whole_ahead S cap t d q i l b = record { inside = l; some = λ j a. b; lacks = λ k r h. q.enough i k r }

module _ (S : List Server) (cap : ℕ → ℕ) (need : ℕ → ℕ → ℕ) (t d : ℕ) (q : Quiet S cap t d) (i : ℕ) (w : Ahead S cap need t d i) where
  had : (e : ℕ) → e < d → (k : ℕ) → need i (link_of S cap need (suc t) i k) ≤ used_by S cap (t + e) i k
      → need i (link_of S cap need (suc t) i k) ≤ used_by S cap t i k
  had e l k h =
      either_way (dec (running S cap t i k))
      (λ r.
      let m : e * one? (running S cap t i k) ≡ e = rw (r, mul-one e) in
      by_lt (used_by S cap t i k) (need i (link_of S cap need (suc t) i k))
      (λ z. absurd (let x : ⊥ = omega (arith, grown S cap t d q e (omega arith) i k, w.lacks k (true_T (running S cap t i k) r) z) in x)) (λ z. z))
      (λ r.
      let m : e * one? (running S cap t i k) ≡ 0 = rw (r, mul-zero e) in
      omega (arith, grown S cap t d q e (omega arith) i k))

  -- what is finished within the span was so at its start
  pub finished_within : (e : ℕ) → e < d → (j : ℕ) → 1 ≤ j → Finished S cap need (t + e) i j → Finished S cap need t i j
  unfolding released_before
  finished_within e l j a f =
      let k = f.k in
      let early : k ≤ released (srv S i) t = omega (arith, f.to, released_before_le (srv S i) (t + e), q.none_released i e w.inside l) in
      let is : link_of S cap need (suc t) i k ≡ j =
      sym (links_stay S cap need (suc t) (suc (t + e)) i k (omega arith) f.from early) ∙ links_old S cap need (t + e) i k f.from f.to ∙ f.is in
      let has : need i j ≤ used_by S cap t i k = rw is at (had e l k (rw is f.has)) in
      let old : k ≤ released_before (srv S i) t =
      by_lt (released_before (srv S i) t) k (λ z. absurd (let x : ⊥ = omega (arith, w.some j a, used_out S cap t i k z) in x)) (λ z. z) in
      record { k = k; from = f.from; to = old; is = sym (links_old S cap need t i k f.from old) ∙ is; has = has }

  pub same_finished : (e : ℕ) → e < d → (j : ℕ) → 1 ≤ j → finished_by S cap need (t + e) i j ≡ finished_by S cap need t i j
  same_finished e l j a =
      bool_ext (finished_by S cap need (t + e) i j) (finished_by S cap need t i j)
      (λ f. is_finished S cap need t i j (finished_within e l j a (finished_is S cap need (t + e) i j f)))
      (λ f. is_finished S cap need (t + e) i j (finished_stays S cap need t (t + e) i j (omega arith) (finished_is S cap need t i j f)))

-- with whole budgets no job finishes strictly within a quiet span
pub none_finishes : (S : List Server) (cap : ℕ → ℕ) (t d : ℕ) → Quiet S cap t d → (i : ℕ) → i < length S → 0 < budget_of S i → (e : ℕ) → e < d → (j : ℕ)
    → 1 ≤ j → finished_by S cap (whole S) (t + e) i j ≡ finished_by S cap (whole S) t i j
none_finishes S cap t d q i h b e l j a = same_finished S cap (whole S) t d q i (whole_ahead S cap t d q i h b) e l j a

largest_same : (f g : ℕ → ℕ) (a n : ℕ) → ((k : ℕ) → a ≤ k → k < a + n → f k ≡ g k) → largest f (numbers a n) ≡ largest g (numbers a n)
largest_same f g a zero h = refl
largest_same f g a (suc n) h =
    rw (h a (le_refl a) (omega arith), largest_same f g (suc a) n (λ k b c. h k (omega arith) (omega arith)))

none_passes : (a b c : Bool) (x : ℕ) → (T b → T c → ⊥) → cond (a && (b && c)) x 0 ≡ 0
none_passes true true true x h = absurd (h tt tt)
none_passes true true false x h = refl
none_passes true false c x h = refl
none_passes false b c x h = refl

module _ (X : Box) (need : ℕ → ℕ → ℕ) (t d : ℕ) (q : Quiet X.servers X.cap t d) (i : ℕ) (w : Ahead X.servers X.cap need t d i) where
  abbrev ticks : ℕ → List (List ℕ)
  ticks t = used X.servers X.cap t

  abbrev links' : List (List ℕ)
  links' = links X.servers X.cap need (suc t)

  response_none : (e : ℕ) → suc e < d → (k : ℕ) → response_at X need (ticks (t + e)) (ticks (suc (t + e))) links' (suc (t + e)) i k ≡ 0
  unfolding response_at
  response_none e l k =
      let j = cell links' i k in
      none_passes (ltb 0 j) (leb (need i j) (cell (ticks (suc (t + e))) i k)) (ltb (cell (ticks (t + e)) i k) (need i j))
      (suc (t + e) - release_of (srv X.servers i) j)
      (λ b c.
      let has : need i j ≤ cell (ticks (suc (t + e))) i k = leb→le (need i j) (cell (ticks (suc (t + e))) i k) b in
      let lacks : cell (ticks (t + e)) i k < need i j = ltb→lt (cell (ticks (t + e)) i k) (need i j) c in
      omega (
        arith,
        had X.servers X.cap need t d q i w (suc e) l k (rw (add-suc t e) has),
        grown X.servers X.cap t d q e (omega arith) i k,
      ))

  finishing_none : (e : ℕ) → suc e < d → finishing X need (ticks (t + e)) (ticks (suc (t + e))) links' (t + e) i ≡ 0
  unfolding finishing
  finishing_none e l =
      largest_none (response_at X need (ticks (t + e)) (ticks (suc (t + e))) links' (suc (t + e)) i) 1 (released (srv X.servers i) (t + e))
      (λ k a b. response_none e l k)

  figure_next : (e : ℕ) → e < d
      → figure X need i (suc (t + e)) ≡ max (finishing X need (ticks (t + e)) (ticks (suc (t + e))) links' (t + e) i) (figure X need i (t + e))
  unfolding figure
  figure_next e l = rw (links_within X.servers X.cap need t d q e l)

  -- the figure stays as it is within the span
  pub figure_within : (e : ℕ) → e < d → figure X need i (t + e) ≡ figure X need i t
  figure_within zero l = rw (add-zero t)
  figure_within (suc e) l = rw (add-suc t e, figure_next e (omega arith), finishing_none e l, figure_within e (omega arith)) (omega arith)

  same_lacking : (e : ℕ) → e < d → (k : ℕ) → ltb (cell (ticks (t + e)) i k) (need i (cell links' i k)) ≡ ltb (cell (ticks t) i k) (need i (cell links' i k))
  same_lacking e l k =
      let n = need i (cell links' i k) in
      bool_ext (ltb (cell (ticks (t + e)) i k) n) (ltb (cell (ticks t) i k) n)
      (λ b. lt→ltb (cell (ticks t) i k) n
      (omega (arith, ltb→lt (cell (ticks (t + e)) i k) n b, grown X.servers X.cap t d q e (omega arith) i k)))
      (λ b. by_lt (cell (ticks (t + e)) i k) n (λ z. lt→ltb (cell (ticks (t + e)) i k) n z)
      (λ z. absurd (let x : ⊥ = omega (arith, ltb→lt (cell (ticks t) i k) n b, had X.servers X.cap need t d q i w e l k z) in x)))

  finishing_from : (e : ℕ) → e < d → (σ : List (List ℕ)) → finishing X need (ticks (t + e)) σ links' (t + e) i ≡ finishing X need (ticks t) σ links' (t + e) i
  unfolding finishing response_at
  finishing_from e l σ =
      largest_same (response_at X need (ticks (t + e)) σ links' (suc (t + e)) i) (response_at X need (ticks t) σ links' (suc (t + e)) i) 1
      (released (srv X.servers i) (t + e)) (λ k a b. rw (same_lacking e l k))

  -- and at its end it counts the jobs that have their ticks there and lacked some at its start
  pub figure_after : (e : ℕ) → suc e ≡ d
      → figure X need i (suc (t + e)) ≡ max (finishing X need (ticks t) (ticks (suc (t + e))) links' (t + e) i) (figure X need i t)
  figure_after e z =
      let l : e < d = omega arith in
      figure_next e l ∙ rw (finishing_from e l (ticks (suc (t + e))), figure_within e l)

module _ (S : List Server) (cap : ℕ → ℕ) (need : ℕ → ℕ → ℕ) (t d : ℕ) (q : Quiet S cap t d) where
  crowded_within : (e : ℕ) → e < d → (i : ℕ) → i < length S
      → crowded S need (used S cap (t + e)) (links S cap need (t + e)) (t + e) i ≡ crowded S need (used S cap t) (links S cap need t) t i
  unfolding crowded
  crowded_within e l i h =
      rw (
        q.none_released i e h l,
        count_same (pending S (used S cap (t + e)) (t + e) i) (pending S (used S cap t) t i) 1 (released (srv S i) t)
            (λ k a. pending_same S (used S cap t) t (used S cap (t + e)) (t + e) (same_left_lem S cap t d q e l) i k),
      )

  -- as many were released before, or one fewer
  before_within : (e : ℕ) → e < d → (i : ℕ) → i < length S → released_before (srv S i) t ≤ released_before (srv S i) (t + e)
  unfolding released_before
  before_within zero l i h = rw (add-zero t) (le_refl (released_before (srv S i) t))
  before_within (suc e) l i h = rw (add-suc t e) (omega (arith, q.none_released i e h (omega arith), released_before_le (srv S i) t))

  finished_count_within : (e : ℕ) → e < d → (i : ℕ) → Ahead S cap need t d i
      → finished_count S need (used S cap (t + e)) (links S cap need (t + e)) (t + e) i ≡ finished_count S need (used S cap t) (links S cap need t) t i
  unfolding finished_count finished_by
  finished_count_within e l i w =
      let n = released_before (srv S i) t in
      let m = released_before (srv S i) (t + e) in
      let z : m ≡ n + (m - n) = omega (arith, before_within e l i w.inside) in
      count_same (finished_by S cap need (t + e) i) (finished_by S cap need t i) 1 m (same_finished S cap need t d q i w e l)
      ∙ ap (λ (m : ℕ). count (finished_by S cap need t i) (up_to m)) z
      ∙ count_more (finished_by S cap need t i) n (m - n)
      (λ k a f. let x = finished_number S cap need t i k (finished_is S cap need t i k f) in omega arith)

  overdue_within : (e : ℕ) → e < d → (i : ℕ) → Ahead S cap need t d i
      → overdue S need (used S cap (t + e)) (links S cap need (t + e)) (t + e) i ≡ overdue S need (used S cap t) (links S cap need t) t i
  unfolding overdue
  overdue_within e l i w = rw (q.none_released i e w.inside l, finished_count_within e l i w)

  -- there is a backlog at each instant of the span or at none
  pub backlogged_within : ((i : ℕ) → i < length S → Ahead S cap need t d i) → (sinks : List ℕ) → ((g : ℕ) → g < length sinks → get_or sinks g 0 < length S)
      → (e : ℕ) → e < d
      → backlogged S need (used S cap (t + e)) (links S cap need (t + e)) (t + e) sinks
      ≡ backlogged S need (used S cap t) (links S cap need t) t sinks
  unfolding backlogged
  backlogged_within w sinks in_S e l =
      rw (
        any_same (crowded S need (used S cap (t + e)) (links S cap need (t + e)) (t + e)) (crowded S need (used S cap t) (links S cap need t) t) 0
            (length S) (λ i h. crowded_within e l i (omega arith)),
        any_at (overdue S need (used S cap (t + e)) (links S cap need (t + e)) (t + e)) (overdue S need (used S cap t) (links S cap need t) t) sinks
            (λ g h. overdue_within e l (get_or sinks g 0) (w (get_or sinks g 0) (in_S g h))),
      )

-- a walk that does not stop has no backlog; and without a boundary or a backlog it does not stop
no_backlog : (a b c : Bool) (x y z : Stop) → cond a (some x) (cond b (some y) (cond c (some z) none)) ≡ none → c ≡ false
no_backlog a b false x y z e = refl
no_backlog true b true x y z e = absurd (let w : ◌≡◌ {A = ℕ} 0 1 = cc in omega arith)
no_backlog false true true x y z e = absurd (let w : ◌≡◌ {A = ℕ} 0 1 = cc in omega arith)
no_backlog false false true x y z e = absurd (let w : ◌≡◌ {A = ℕ} 0 1 = cc in omega arith)

module _ (X : Box) (need : ℕ → ℕ → ℕ) where
  abbrev behind : ℕ → Bool
  behind t = backlogged X.servers need (used X.servers X.cap t) (links X.servers X.cap need t) t X.sinks

  not_behind : (t : ℕ) → stop_at X need t ≡ none → behind t ≡ false
  unfolding stop_at stop_with
  not_behind t h =
      let σ = used X.servers X.cap t in
      let ls = links X.servers X.cap need t in
      no_backlog (at_boundary X need t && same_state (state X.servers need σ ls t X.sinks) (state_at X need (t - X.hyper)))
      (eqb t (boundary X need X.rounds)) (behind t) (settled (round_at X need t)) unsettled backlog h

  goes_on : (t : ℕ) → at_boundary X need t ≡ false → t < boundary X need X.rounds → behind t ≡ false → stop_at X need t ≡ none
  unfolding stop_at stop_with
  goes_on t a b c = rw (a, ne_eqb t (boundary X need X.rounds) (λ z. omega arith), c)

  -- n instants at which the walk does not stop
  pub passed_over : (n left t : ℕ) → ((e : ℕ) → e < n → stop_at X need (t + e) ≡ none) → first_stop X need (n + left) t ≡ first_stop X need left (t + n)
  unfolding first_stop
  passed_over zero left t h = let e : 0 + left ≡ left = omega arith in rw (e, add-zero t)
  passed_over (suc n) left t h =
      let e : suc n + left ≡ suc (n + left) = omega arith in
      let z : stop_at X need t ≡ none = rw (add-zero t) at (h 0 (omega arith)) in
      let m : suc t + n ≡ t + suc n = omega arith in
      rw (e, first_stop, z) (rw m at (passed_over n left (suc t) (λ e l. let p : suc t + e ≡ t + suc e = omega arith in rw p (h (suc e) (omega arith)))))

-- a walk that does not stop at t does not stop within a quiet span from t on that no boundary lies in
module _ (X : Box) (need : ℕ → ℕ → ℕ) (t d : ℕ) (q : Quiet X.servers X.cap t d)
    (w : (i : ℕ) → i < length X.servers → Ahead X.servers X.cap need t d i)
    (sinks : (g : ℕ) → g < length X.sinks → get_or X.sinks g 0 < length X.servers) (between : (e : ℕ) → 1 ≤ e → e < d → at_boundary X need (t + e) ≡ false)
    (in_time : t + d ≤ boundary X need X.rounds) (now : stop_at X need t ≡ none) where
  pub goes_on_within : (e : ℕ) → e < d → stop_at X need (t + e) ≡ none
  goes_on_within zero l = rw (add-zero t) now
  goes_on_within (suc e) l =
      goes_on X need (t + suc e) (between (suc e) (omega arith) l) (omega arith)
      (backlogged_within X.servers X.cap need t d q w X.sinks sinks (suc e) l ∙ not_behind X need t now)

  pub quiet_span_passed : (left : ℕ) → first_stop X need (d + left) t ≡ first_stop X need left (t + d)
  quiet_span_passed left = passed_over X need d left t goes_on_within
