-- The keys of the window's slots: slot e of server i is server job e + 1 after the complete ones, and its key is its priority and place in one
-- number. The ready ones are the first slots, and rule 5's order of them is that of their keys.
use mathlib.Core.Path.{◌≡◌}
use mathlib.Core.Bool.{◌&&◌}
use mathlib.Core.List.{List}
use Prim.Native.Nat.{ℕ, suc, ◌+◌, ◌*◌, ◌-◌, ◌≤◌, ◌<◌}
use native.Mathlib.Omega.{arith}
use lib.Dec.{T, leb, ltb, leb→le, ltb→lt, le→leb, lt→ltb}
use lib.ListN.{length}
use Rattle.schedule.specs.Servers.{Server, srv, Box}
use Rattle.schedule.specs.ServerJobs.{ServerJob, released, priority_of, before, ready, used}
use Rattle.schedule.proofs.Tests.{and_l, and_r, and_i, by_lt, either_way, bool_ext}
use Rattle.theorems.proofs.Counts.{server_job}
use Rattle.theorems.proofs.Releases.{priority_grows}
use Rattle.theorems.proofs.Ready.{priority, before_is, is_before_lt, is_before_eq, ready_is}
use Rattle.theorems.proofs.InTurn.{no_budget, completed, ready_are_first}
use Rattle.table.specs.declared.State.{State}
use Rattle.window.specs.declared.Plan.{Plan}
use Rattle.window.specs.Entries.{places, last_key, further, count_at, level_at, step_at}
use Rattle.window.specs.Choosing.{ready_of}
use Rattle.window.proofs.Relation.{last_instant, Fits, Released}
use Rattle.window.proofs.Instants.{next_priority, released_by_lem}

-- priority and place of a server job in one number
abbrev pub key_of : List Server → ServerJob → ℕ
key_of S x = priority_of (srv S x.server) x.number * places + x.server

-- rule 5's order is that of the keys
pub key_order : (S : List Server) (x y : ServerJob) → x.server < places → y.server < places → before S x y ≡ ltb (key_of S x) (key_of S y)
key_order S x y h g =
    bool_ext (before S x y) (ltb (key_of S x) (key_of S y))
    (λ b. lt→ltb (key_of S x) (key_of S y) (either_way (before_is S x y b) (λ z. omega arith) (λ z. omega (arith, z.0, z.1))))
    (λ b.
    let l : key_of S x < key_of S y = ltb→lt (key_of S x) (key_of S y) b in
    by_lt (priority S x) (priority S y) (λ z. is_before_lt S x y z) (λ z. is_before_eq S x y (omega arith) (omega arith)))

-- of the plan and a state: how many slots of server i are ready
abbrev pub ready_slots : Plan → State → ℕ → ℕ
ready_slots plan st i = ready_of (count_at st i) (level_at plan i)

-- slot e of server i: the server job, and its key
module _ (X : Box) (t : ℕ) where
  abbrev pub slot_job : ℕ → ℕ → ServerJob
  slot_job i e = server_job i (completed X.servers X.cap t i + 1 + e)

  abbrev pub slot_key : ℕ → ℕ → ℕ
  slot_key i e = key_of X.servers (slot_job i e)

module _ (X : Box) (plan : Plan) (t : ℕ) (st : State) (fits : Fits X plan) (rel : Released X t st) (near : t ≤ last_instant) where
  abbrev S : List Server
  S = X.servers

  abbrev σ : List (List ℕ)
  σ = used S X.cap t

  abbrev c : ℕ → ℕ
  c i = completed S X.cap t i

  abbrev m : ℕ → ℕ
  m i = ready_slots plan st i

  -- a released server job's priority is at most a point away, so its key is far below the last one
  pub key_small : (i k : ℕ) → i < length S → 1 ≤ k → k ≤ released (srv S i) t → key_of S (server_job i k) < last_key
  unfolding priority_of
  key_small i k h f g =
      let P = fits.at i h in omega (arith, released_by_lem (srv S i) P.period_some t k f g, P.point_most, fits.small)

  -- a server's keys rise with the number
  pub keys_rise : (i j k : ℕ) → i < length S → 1 ≤ j → j < k → key_of S (server_job i j) < key_of S (server_job i k)
  keys_rise i j k h u v =
      omega (arith, next_priority (srv S i) j u, priority_grows (srv S i) (suc j) k v, (fits.at i h).period_some)

  -- and the next one is a step further
  pub next_key : (i k : ℕ) → i < length S → 1 ≤ k → suc k ≤ released (srv S i) t
      → further (key_of S (server_job i k)) (step_at plan i) ≡ key_of S (server_job i (suc k))
  next_key i k h u v =
      omega (arith, next_priority (srv S i) k u, (fits.at i h).step, key_small i (suc k) h (omega arith) v)

  -- rule 4: the ready ones are the first m after the complete ones
  ready_in : (i k : ℕ) → i < length S → c i < k → k ≤ c i + m i → T (ready S σ t (server_job i k))
  ready_in i k h l g =
      let P = fits.at i h in
      let n = released (srv S i) t in
      let v = (srv S i).level in
      rw (ready_are_first S X.cap t i k P.level_some P.budget_some)
      (and_i (ltb (c i) k) (leb k n && leb k (c i + v)) (lt→ltb (c i) k l)
      (and_i (leb k n) (leb k (c i + v)) (le→leb k n (omega (arith, (rel.row i h).count)))
      (le→leb k (c i + v) (omega (arith, P.level)))))

  ready_only : (i k : ℕ) → i < length S → T (ready S σ t (server_job i k)) → (c i < k) × (k ≤ c i + m i)
  ready_only i k h r =
      let P = fits.at i h in
      let n = released (srv S i) t in
      let v = (srv S i).level in
      let A = leb k n in
      let B = leb k (c i + v) in
      let w : T (ltb (c i) k && (A && B)) = rw (ready_are_first S X.cap t i k P.level_some P.budget_some) at r in
      let in-n : k ≤ n = leb→le k n (and_l A B (and_r (ltb (c i) k) (A && B) w)) in
      let in-v : k ≤ c i + v = leb→le k (c i + v) (and_r A B (and_r (ltb (c i) k) (A && B) w)) in
      (ltb→lt (c i) k (and_l (ltb (c i) k) (A && B) w), omega (arith, (rel.row i h).count, P.level, P.level_most))

  -- where a ready server job stands in the windows
  pub record Standing (x : ServerJob) : Type 0 where
    pub inside : x.server < length S
    pub slot : ℕ
    pub ready_slot : slot < m x.server
    pub number : x.number ≡ c x.server + 1 + slot

  pub standing : (x : ServerJob) → T (ready S σ t x) → Standing x
  standing x r =
      let i = x.server in
      let k = x.number in
      let h : i < length S =
      by_lt i (length S) (λ l. l)
      (λ l. absurd (let z : ⊥ = omega (arith, (ready_is S σ t i k r).pends.left, no_budget S i l) in z)) in
      let (u, v) = ready_only i k h r in
      record { inside = h; slot = k - (c i + 1); ready_slot = omega arith; number = omega arith }

  pub slot_ready : (i e : ℕ) → i < length S → e < m i → T (ready S σ t (slot_job X t i e))
  slot_ready i e h l = ready_in i (c i + 1 + e) h (omega arith) (omega arith)
