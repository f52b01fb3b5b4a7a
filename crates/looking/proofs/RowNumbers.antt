-- The numbers of a row: graph and node are those of a server, a server job's number is at most that of the instants so far, and its job's
-- number is no larger.
use mathlib.Core.Bool.{Bool}
use mathlib.Core.List.{List, [], ◌∷◌, ◌++◌, map}
use Prim.Native.Nat.{ℕ, zero, suc, ◌+◌, ◌-◌, ◌≤◌}
use native.Mathlib.Nat.{div-le_self}
use native.Mathlib.Omega.{arith}
use lib.Dec.{ltb, eqb}
use lib.ListN.{length, get_or}
use Rattle.schedule.specs.Lists.{keep, joined}
use Rattle.schedule.specs.Table.{Graph, Node}
use Rattle.schedule.specs.Servers.{Server, no_server, of_nodes, of_graphs, srv, Box}
use Rattle.schedule.specs.ServerJobs.{ServerJob, released, released_before, jobs_from, ready, ready_jobs, rank, used}
use Rattle.schedule.specs.Walk.{Running, running_at, row_at}
use Rattle.schedule.proofs.Tests.{either_way, dec}
use Rattle.theorems.proofs.LinkRows.{InOrder, linked_le}
use Rattle.theorems.proofs.Linking.{link_of, links_in_order}
use Rattle.rules.proofs.ReadWellFormed.{nodes_in}

-- each entry of a list
abbrev pub Each : {A : Type 0} → (A → Type 0) → List A → Type 0
Each P [] = Unit {0}
Each P (x ∷ xs) = P x × Each P xs

-- each entry of a list made of others
each_append : {A : Type 0} (P : A → Type 0) (l r : List A) → Each P l → Each P r → Each P (l ++ r)
each_append P [] r a b = b
each_append P (x ∷ l) r (p, a) b = (p, each_append P l r a b)

each_keep : {A : Type 0} (P : A → Type 0) (q : A → Bool) (l : List A) → Each P l → Each P (keep q l)
each_keep P q [] a = tt
each_keep P q (x ∷ l) (p, a) = either_way (dec (q x)) (λ e. rw e (p, each_keep P q l a)) (λ e. rw e (each_keep P q l a))

each_joined : {A : Type 0} (P : A → Type 0) (f : ℕ → List A) (a n : ℕ) → ((i : ℕ) → Each P (f i)) → Each P (joined f a n)
each_joined P f a zero h = tt
each_joined P f a (suc n) h = each_append P (f a) (joined f (suc a) n) (h a) (each_joined P f (suc a) n h)

each_map : {A B : Type 0} (P : B → Type 0) (f : A → B) (l : List A) → Each (λ (x : A). P (f x)) l → Each P (map f l)
each_map P f [] a = tt
each_map P f (x ∷ l) (p, a) = (p, each_map P f l a)

pub each_read : {A B : Type 0} (P : B → Type 0) (f : A → B) (l : List A) → Each P (map f l) → Each (λ (x : A). P (f x)) l
each_read P f [] a = tt
each_read P f (x ∷ l) (p, a) = (p, each_read P f l a)

pub each_under : {A : Type 0} (P Q : A → Type 0) → ((x : A) → P x → Q x) → (l : List A) → Each P l → Each Q l
each_under P Q h [] a = tt
each_under P Q h (x ∷ l) (p, a) = (h x p, each_under P Q h l a)

each_at : {A : Type 0} (P : A → Type 0) (d : A) → P d → (l : List A) (i : ℕ) → Each P l → P (get_or l i d)
each_at P d p [] i a = p
each_at P d p (x ∷ l) zero (q, a) = q
each_at P d p (x ∷ l) (suc i) (q, a) = each_at P d p l i a

-- a server's graph and node number
module _ (most many : ℕ) where
  abbrev pub Numbered : Server → Type 0
  Numbered s = (s.graph ≤ most) × (s.node ≤ many)

  nodes_numbered : (base g v : ℕ) (G : Graph) (xs : List Node) → g ≤ most → v + length xs ≤ suc many → Each Numbered (of_nodes base g v G xs)
  unfolding of_nodes
  nodes_numbered base g v G [] a b = tt
  nodes_numbered base g v G (x ∷ xs) a b = ((a, omega arith), nodes_numbered base g (suc v) G xs a (omega arith))

  pub graphs_numbered : (base g : ℕ) (Gs : List Graph) → g + length Gs ≤ suc most → nodes_in Gs ≤ many → Each Numbered (of_graphs base g Gs)
  unfolding of_graphs
  graphs_numbered base g [] a b = tt
  graphs_numbered base g (G ∷ Gs) a b =
      each_append Numbered (of_nodes base g 1 G G.nodes) (of_graphs (base + length G.nodes) (suc g) Gs)
      (nodes_numbered base g 1 G G.nodes (omega arith) (omega arith)) (graphs_numbered (base + length G.nodes) (suc g) Gs (omega arith) (omega arith))

released_most : (s : Server) (t : ℕ) → released s t ≤ t + 1
unfolding released
released_most s t =
    either_way (dec (ltb t s.offset)) (λ e. rw e (omega arith)) (λ e. rw e (omega (arith, div-le_self (t - s.offset) s.period)))

-- the server jobs that are ready are released
module _ (S : List Server) (t : ℕ) where
  abbrev Known : ServerJob → Type 0
  Known x = (1 ≤ x.number) × (x.number ≤ released (srv S x.server) t)

  jobs_known : (i k n : ℕ) → 1 ≤ k → k + n ≤ suc (released (srv S i) t) → Each Known (jobs_from i k n)
  jobs_known i k zero a b = tt
  jobs_known i k (suc n) a b = ((a, omega arith), jobs_known i (suc k) n (omega arith) (omega arith))

  ready_known : (σ : List (List ℕ)) → Each Known (ready_jobs S σ t)
  unfolding ready_jobs
  ready_known σ =
      each_keep Known (ready S σ t) (joined (λ (i : ℕ). jobs_from i 1 (released (srv S i) t)) 0 (length S))
      (each_joined Known (λ (i : ℕ). jobs_from i 1 (released (srv S i) t)) 0 (length S) (λ i. jobs_known i 1 (released (srv S i) t) (omega arith) (omega arith)))

link_most : (S : List Server) (cap : ℕ → ℕ) (need : ℕ → ℕ → ℕ) (t i k : ℕ) → 1 ≤ k → k ≤ released (srv S i) t → link_of S cap need (suc t) i k ≤ k
unfolding InOrder released_before
link_most S cap need t i zero a b = absurd (let x : ⊥ = omega arith in x)
link_most S cap need t i (suc k) a b =
    either_way (links_in_order S cap need (suc t) i k b) (λ z. omega arith) (λ z. omega (arith, z, linked_le (link_of S cap need (suc t) i) k))

-- what is known of an entry of the row at t
pub record Entry (most many t : ℕ) (x : Running) : Type 0 where
  pub graph : x.graph ≤ most
  pub node : x.node ≤ many
  pub server_job : x.server_job ≤ t + 1
  pub invocation : x.invocation ≤ t + 1

module _ (X : Box) (need : ℕ → ℕ → ℕ) (t most many : ℕ) (numbered : Each (Numbered most many) X.servers) where
  abbrev S : List Server
  S = X.servers

  run_entry : (x : ServerJob) → Known S t x → Entry most many t (running_at X need t x)
  unfolding running_at
  run_entry x (a, b) =
      let n : Numbered most many (srv S x.server) = each_at (Numbered most many) no_server (omega arith, omega arith) S x.server numbered in
      let r = released_most (srv S x.server) t in
      record {
        graph = n.0;
        node = n.1;
        server_job = omega (arith, b, r);
        invocation = omega (arith, b, r, link_most S X.cap need t x.server x.number a b);
      }

  pub row_entries : Each (Entry most many t) (row_at X need t)
  unfolding row_at
  row_entries =
      let σ : List (List ℕ) = used S X.cap t in
      let ready : List ServerJob = ready_jobs S σ t in
      let ranked : ℕ → List ServerJob = λ (r : ℕ). keep (λ (x : ServerJob). eqb (rank S σ t x) r) ready in
      let all : List ServerJob = joined ranked 0 (X.cap t) in
      each_map (Entry most many t) (running_at X need t) all
      (each_under (Known S t) (λ (x : ServerJob). Entry most many t (running_at X need t x)) run_entry all
      (each_joined (Known S t) ranked 0 (X.cap t) (λ r. each_keep (Known S t) (λ (x : ServerJob). eqb (rank S σ t x) r) ready (ready_known S t σ))))
