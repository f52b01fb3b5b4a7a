-- What the choice of a state comes to: its r-th entry is the ready server job of rank r, by its key and by the place of its budget left; and
-- the server jobs that run in the tick are those entries.
use mathlib.Core.Path.{◌≡◌, sym, ap, ◌∙◌}
use mathlib.Core.List.{List}
use Prim.Native.Nat.{ℕ, suc, ◌+◌, ◌*◌, ◌≤◌, ◌<◌}
use native.Mathlib.Omega.{arith}
use lib.Dec.{T, ltb, ltb→lt, lt→ltb}
use lib.ListN.{length, get_or, length-replicate}
use Rattle.schedule.specs.Limits as Limits
use Rattle.schedule.specs.Servers.{Server, Box}
use Rattle.schedule.specs.ServerJobs.{ServerJob, runs}
use Rattle.schedule.proofs.Tests.{and_l, and_r, and_i, by_lt}
use Rattle.theorems.proofs.Counts.{server_job}
use Rattle.theorems.proofs.InTurn.{running, completed}
use Rattle.table.specs.declared.State.{State}
use Rattle.window.specs.declared.Plan.{Plan}
use Rattle.window.specs.Entries.{window, last_key, nodes_of}
use Rattle.window.specs.Choosing.{chosen, no_run, no_at}
use Rattle.window.proofs.Relation.{last_instant, Fits, Released}
use Rattle.window.proofs.Places.{nodes_are}
use Rattle.window.proofs.Keys.{key_of, slot_job, slot_key, ready_slots, key_small, keys_rise, next_key, standing, slot_ready}
use Rattle.window.proofs.Ranks.{ready_at, rank_at, below, below_grows, below_same, below_none, below_next, rank_is, same_key}
use Rattle.window.proofs.Picking.{Laid, Picked, picked}

-- entry r of the choice: the server job in a slot that is ready, of rank r
pub record ChosenAt (X : Box) (plan : Plan) (t : ℕ) (st : State) (r : ℕ) : Type 0 where
  pub place : ℕ
  pub slot : ℕ
  pub inside : place < length X.servers
  pub within : slot < ready_slots plan st place
  pub run : get_or (chosen plan st).run r 0 ≡ slot_key X t place slot
  pub at : get_or (chosen plan st).at r 0 ≡ place * window + slot
  pub ready_slot : T (ready_at X t (slot_job X t place slot))
  pub ranked : rank_at X t (slot_job X t place slot) ≡ r

-- the choice has an entry for each rank below the number of processors that a ready server job has
pub record ChosenIs (X : Box) (plan : Plan) (t : ℕ) (st : State) : Type 0 where
  pub most : (chosen plan st).count ≤ plan.processors
  pub entry : (r : ℕ) → r < (chosen plan st).count → ChosenAt X plan t st r
  pub among : (x : ServerJob) → T (ready_at X t x) → rank_at X t x < plan.processors → rank_at X t x < (chosen plan st).count
  -- no two ready server jobs have one rank, and of one server they rank by number
  pub one_rank : (x y : ServerJob) → T (ready_at X t x) → T (ready_at X t y) → rank_at X t x ≡ rank_at X t y
      → (x.server ≡ y.server) × (x.number ≡ y.number)
  pub rising : (i j k : ℕ) → T (ready_at X t (server_job i j)) → T (ready_at X t (server_job i k)) → j < k
      → rank_at X t (server_job i j) < rank_at X t (server_job i k)

module _ (X : Box) (plan : Plan) (t : ℕ) (st : State) (fits : Fits X plan) (rel : Released X t st) (near : t ≤ last_instant) where
  abbrev S : List Server
  S = X.servers

  abbrev c : ℕ → ℕ
  c i = completed S X.cap t i

  laid : Laid st.first st.count plan.level plan.step (nodes_of plan) (slot_key X t) (below X t)
  laid =
      record {
        few = omega arith;
        long = rel.sized.first;
        slots = λ i h. omega (arith, (rel.row i (in_S i h)).room);
        head = λ i h s. let e : c i + 1 + 0 ≡ c i + 1 = omega arith in rw e ((rel.row i (in_S i h)).first (omega arith));
        none = λ i h s.
            (rel.row i (in_S i h)).idle (omega (arith, (fits.at i (in_S i h)).level, (fits.at i (in_S i h)).level_some));
        small = λ i e h l. key_small X plan t st fits rel near i (c i + 1 + e) (in_S i h) (omega arith) (omega (arith, (rel.row i (in_S i h)).count));
        place = λ i e h l. omega arith;
        next = λ i e h l.
            let z : suc (c i + 1 + e) ≡ c i + 1 + (e + 1) = omega arith in
            rw z at
            (next_key X plan t st fits rel near i (c i + 1 + e) (in_S i h) (omega arith) (omega (arith, (rel.row i (in_S i h)).count)));
        rises = λ i d e h l g. keys_rise X plan t st fits rel near i (c i + 1 + d) (c i + 1 + e) (in_S i h) (omega arith) (omega arith);
        start = below_none X t;
        skip = λ a b l none.
            below_same X t a b l
            (λ y r.
            let s = standing X plan t st fits rel near y r in
            let same : key_of S y ≡ slot_key X t y.server s.slot = ap (λ k. key_of S (server_job y.server k)) s.number in
            rw same (none y.server s.slot (in_plan y.server s.inside) s.ready_slot));
        hit = λ i e h l. below_next X t plan st fits rel near (slot_job X t i e) (slot_ready X plan t st fits rel near i e (in_S i h) l);
      }
    where
      in_S : (i : ℕ) → i < nodes_of plan → i < length S
      in_S i h = omega (arith, nodes_are X plan fits)

      in_plan : (i : ℕ) → i < length S → i < nodes_of plan
      in_plan i h = omega (arith, nodes_are X plan fits)

  last_of : Picked st.first st.count plan.level plan.step (nodes_of plan) (slot_key X t) (below X t) (Limits.processors).to
      plan.processors (chosen plan st)
  last_of =
      picked st.first st.count plan.level plan.step (nodes_of plan) (slot_key X t) (below X t) laid (Limits.processors).to no_run no_at
      (length-replicate (Limits.processors).to last_key) (let none : ℕ = 0 in length-replicate (Limits.processors).to none) plan.processors
      fits.processors_most

  pub chosen_is : ChosenIs X plan t st
  chosen_is =
      record {
        most = last_of.within;
        entry = λ r l.
            let e = last_of.entries r l in
            let h : e.place < length S = omega (arith, nodes_are X plan fits, e.inside) in
            record {
              place = e.place;
              slot = e.slot;
              inside = h;
              within = e.within;
              run = e.key;
              at = e.at_slot;
              ready_slot = slot_ready X plan t st fits rel near e.place e.slot h e.within;
              ranked = rank_is X t plan st fits rel near (slot_job X t e.place e.slot) h ∙ e.ranked;
            };
        among = λ x r l.
            by_lt (rank_at X t x) count (λ z. z)
            (λ z.
            let s = standing X plan t st fits rel near x r in
            let same : key_of S x ≡ slot_key X t x.server s.slot = ap (λ k. key_of S (server_job x.server k)) s.number in
            let under : key_of S x < (chosen plan st).from =
            rw same
            (last_of.all (omega arith) x.server s.slot (omega (arith, nodes_are X plan fits, s.inside)) s.ready_slot) in
            omega (
              arith,
              rank_is X t plan st fits rel near x s.inside,
              below_next X t plan st fits rel near x r,
              below_grows X t (key_of S x + 1) (chosen plan st).from (omega arith),
              last_of.counted,
            ));
        one_rank = λ x y r s e. let k = one_key x y r s e in (place_of x y r s k, number_of_lem x y r s k);
        rising = λ i j k r s l.
            let h = (standing X plan t st fits rel near (server_job i j) r).inside in
            omega (
              arith,
              rank_is X t plan st fits rel near (server_job i j) h,
              rank_is X t plan st fits rel near (server_job i k) h,
              below_next X t plan st fits rel near (server_job i j) r,
              below_grows X t (key_of S (server_job i j) + 1) (key_of S (server_job i k))
                  (omega (arith, keys_rise X plan t st fits rel near i j k h (first_number (server_job i j) r) l)),
            );
      }
    where
      count : ℕ
      count = (chosen plan st).count

      first_number : (x : ServerJob) → T (ready_at X t x) → 1 ≤ x.number
      first_number x r = omega (arith, (standing X plan t st fits rel near x r).number)

      one_key : (x y : ServerJob) → T (ready_at X t x) → T (ready_at X t y) → rank_at X t x ≡ rank_at X t y → key_of S x ≡ key_of S y
      one_key x y r s e =
          same_key X t plan st fits rel near x y r s
          (sym (rank_is X t plan st fits rel near x (standing X plan t st fits rel near x r).inside)
          ∙ e
          ∙ rank_is X t plan st fits rel near y (standing X plan t st fits rel near y s).inside)

      place_of : (x y : ServerJob) → T (ready_at X t x) → T (ready_at X t y) → key_of S x ≡ key_of S y → x.server ≡ y.server
      place_of x y r s k =
          omega (
            arith,
            (standing X plan t st fits rel near x r).inside,
            (standing X plan t st fits rel near y s).inside,
            fits.small,
          )

      number_of_lem : (x y : ServerJob) → T (ready_at X t x) → T (ready_at X t y) → key_of S x ≡ key_of S y → x.number ≡ y.number
      number_of_lem x y r s k =
          let i = x.server in
          let h = (standing X plan t st fits rel near x r).inside in
          let p = place_of x y r s k in
          let other : key_of S (server_job i y.number) ≡ key_of S y = rw p in
          by_lt x.number y.number
          (λ l. absurd (let z : ⊥ = omega (arith, keys_rise X plan t st fits rel near i x.number y.number h (first_number x r) l) in z))
          (λ l. by_lt y.number x.number
          (λ g. absurd (let z : ⊥ = omega (arith, keys_rise X plan t st fits rel near i y.number x.number h (first_number y s) g) in z))
          (λ g. omega arith))

  -- rule 5: each entry runs in the tick at t, and what runs is an entry
  pub entry_runs : (r : ℕ) → (r < (chosen plan st).count) → (e : ChosenAt X plan t st r) → T (running S X.cap t e.place (c e.place + 1 + e.slot))
  unfolding runs
  entry_runs r l e =
      let x = slot_job X t e.place e.slot in
      and_i (ready_at X t x) (ltb (rank_at X t x) (X.cap t)) e.ready_slot
      (lt→ltb (rank_at X t x) (X.cap t) (omega (arith, e.ranked, fits.cap t, chosen_is.most)))

  pub running_ready : (i k : ℕ) → T (running S X.cap t i k) → T (ready_at X t (server_job i k))
  unfolding runs
  running_ready i k r = and_l (ready_at X t (server_job i k)) (ltb (rank_at X t (server_job i k)) (X.cap t)) r

  pub running_among : (i k : ℕ) → T (running S X.cap t i k) → rank_at X t (server_job i k) < (chosen plan st).count
  unfolding runs
  running_among i k r =
      let x = server_job i k in
      chosen_is.among x (running_ready i k r)
      (omega (arith, fits.cap t, ltb→lt (rank_at X t x) (X.cap t) (and_r (ready_at X t x) (ltb (rank_at X t x) (X.cap t)) r)))

  -- the entry of a server job that runs
  pub record RunsAt (i k : ℕ) : Type 0 where
    pub at : ℕ
    pub below_count : at < (chosen plan st).count
    pub entry : ChosenAt X plan t st at
    pub place : entry.place ≡ i
    pub number : c i + 1 + entry.slot ≡ k

  pub runs_at : (i k : ℕ) → T (running S X.cap t i k) → RunsAt i k
  runs_at i k r =
      let l = running_among i k r in
      let e = chosen_is.entry (rank_at X t (server_job i k)) l in
      let (p, n) = chosen_is.one_rank (slot_job X t e.place e.slot) (server_job i k) e.ready_slot (running_ready i k r) e.ranked in
      record { at = rank_at X t (server_job i k); below_count = l; entry = e; place = p; number = rw p at n }
