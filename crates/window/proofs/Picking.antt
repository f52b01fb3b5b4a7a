-- The choice goes best after best: where each server's keys rise and no key stands twice, the r-th that is picked is the slot with r keys below
-- its own, and as many are picked as there are, up to the number asked for.
use mathlib.Core.Path.{◌≡◌, refl, sym, ap, ◌∙◌}
use mathlib.Core.List.{List}
use mathlib.Core.Logic.{◌⊎◌, inl, inr}
use Prim.Native.Nat.{ℕ, zero, suc, ◌+◌, ◌*◌, ◌%◌, ◌≤◌, ◌<◌, zero-le}
use native.Mathlib.Nat.{le_refl, not-suc-le-zero}
use native.Mathlib.Omega.{arith}
use lib.ListN.{length, get_or, set, replicate, length-set, length-replicate, get_or-replicate}
use lib.Seq.{get_or-set_same, get_or-set_other}
use borrow.Author.Tests.{lt-ltb, le-ltb, eq-eqb, ne_eqb}
use Rattle.schedule.proofs.Tests.{by_lt, either_way}
use Rattle.window.specs.Entries.{places, window, last_key, further}
use Rattle.window.specs.Choosing.{Picks, ready_of, head_from, best_from, pick_key, pick_next, picks}

-- two places are the same, or not
pub by_same : {C : Type 0} (j i : ℕ) → (j ≡ i → C) → ((j ≡ i → ⊥) → C) → C
by_same j i f g = by_lt j i (λ l. g (λ e. omega arith)) (λ l. by_lt i j (λ k. g (λ e. omega arith)) (λ k. f (omega arith)))

module _ (heads : List ℕ) (from : ℕ) where
  abbrev best : ℕ → ℕ
  best n = best_from heads from n

  best_most : (n : ℕ) → best n ≤ last_key
  unfolding best_from
  best_most zero = le_refl last_key
  best_most (suc n) = omega (arith, best_most n)

  -- it is at most each head that is not below `from`, and one of them unless it is the largest key
  best_least : (n i : ℕ) → i < n → from ≤ get_or heads i 0 → best n ≤ get_or heads i 0
  unfolding best_from
  best_least zero i h g = absurd (not-suc-le-zero h)
  best_least (suc n) i h g =
      by_lt i n (λ l. omega (arith, best_least n i l g))
      (λ l.
      let e : i ≡ n = omega arith in
      let g' : from ≤ get_or heads n 0 = rw e at g in
      let z : head_from heads from n ≡ get_or heads n 0 = rw (le-ltb (get_or heads n 0) from g') in
      rw e (omega arith))

  best_is : (n : ℕ) → best n < last_key → (i : ℕ) × (i < n) × (from ≤ get_or heads i 0) × (get_or heads i 0 ≡ best n)
  unfolding best_from
  best_is zero h = absurd (let z : ⊥ = omega arith in z)
  best_is (suc n) h =
      by_lt (best n) (head_from heads from n)
      (λ l. let (i, a, b, e) = best_is n (omega arith) in (i, omega arith, b, omega arith))
      (λ l. by_lt (get_or heads n 0) from
      (λ k. absurd (let z : head_from heads from n ≡ last_key = rw (lt-ltb (get_or heads n 0) from k) in let w : ⊥ = omega arith in w))
      (λ k. let z : head_from heads from n ≡ get_or heads n 0 = rw (le-ltb (get_or heads n 0) from k) in (n, omega arith, k, omega arith)))

module _ (first count level step : List ℕ) (n : ℕ) (K : ℕ → ℕ → ℕ) (B : ℕ → ℕ) where
  abbrev m : ℕ → ℕ
  m i = ready_of (get_or count i 0) (get_or level i 0)

  -- K i e is the key of ready slot e of server i: what the lists have of it. B x is how many of them are below x
  pub record Laid : Type 0 where
    pub few : n ≤ places
    pub long : length first ≡ places
    pub slots : (i : ℕ) → i < n → m i ≤ window
    pub head : (i : ℕ) → i < n → 0 < m i → get_or first i 0 ≡ K i 0
    pub none : (i : ℕ) → i < n → m i ≡ 0 → get_or first i 0 ≡ last_key
    pub small : (i e : ℕ) → i < n → e < m i → K i e < last_key
    pub place : (i e : ℕ) → i < n → e < m i → K i e % places ≡ i
    pub next : (i e : ℕ) → i < n → e + 1 < m i → further (K i e) (get_or step i 0) ≡ K i (e + 1)
    pub rises : (i d e : ℕ) → i < n → d < e → e < m i → K i d < K i e
    pub start : B 0 ≡ 0
    pub skip : (a b : ℕ) → a ≤ b → ((i e : ℕ) → i < n → e < m i → (K i e < a) ⊎ (b ≤ K i e)) → B b ≡ B a
    pub hit : (i e : ℕ) → i < n → e < m i → B (K i e + 1) ≡ suc (B (K i e))

  -- entry r of what is picked: a ready slot with r keys below its own
  pub record Entry (run at : List ℕ) (r : ℕ) : Type 0 where
    pub place : ℕ
    pub slot : ℕ
    pub inside : place < n
    pub within : slot < m place
    pub key : get_or run r 0 ≡ K place slot
    pub at_slot : get_or at r 0 ≡ place * window + slot
    pub ranked : B (K place slot) ≡ r

  -- after k picks: each head is the key of the slot that is to be picked next of its server, or of its last one, below `from`; all slots
  -- before it are picked; and once a pick finds none, all are
  pub record Picked (most k : ℕ) (c : Picks) : Type 0 where
    pub run_long : length c.run ≡ most
    pub at_long : length c.at ≡ most
    pub heads_long : length c.heads ≡ places
    pub taken_long : length c.taken ≡ places
    pub taken_in : (i : ℕ) → i < n → 0 < m i → get_or c.taken i 0 < m i
    pub head : (i : ℕ) → i < n → 0 < m i → get_or c.heads i 0 ≡ K i (get_or c.taken i 0)
    pub none : (i : ℕ) → i < n → m i ≡ 0 → get_or c.heads i 0 ≡ last_key
    pub last : (i : ℕ) → i < n → 0 < m i → K i (get_or c.taken i 0) < c.from → m i ≡ get_or c.taken i 0 + 1
    pub early : (i e : ℕ) → i < n → e < get_or c.taken i 0 → e < m i → K i e < c.from
    pub counted : B c.from ≡ c.count
    pub within : c.count ≤ k
    pub all : c.count < k → (i e : ℕ) → i < n → e < m i → K i e < c.from
    pub entries : (r : ℕ) → r < c.count → Entry c.run c.at r

  module _ (laid : Laid) (most k : ℕ) (room : k < most) (c : Picks) (q : Picked most k c) where
    abbrev b : ℕ
    b = best_from c.heads c.from n

    abbrev taken : ℕ → ℕ
    taken i = get_or c.taken i 0

    -- a slot that is not picked yet has a key of at least the best
    not_better : (i e : ℕ) → i < n → e < m i → (K i e < c.from) ⊎ (b ≤ K i e)
    not_better i e h l =
        by_lt (K i e) c.from (λ z. inl z)
        (λ z. inr
        (by_lt e (taken i) (λ u. absurd (let x : ⊥ = omega (arith, q.early i e h u l) in x))
        (λ u.
        by_lt (K i (taken i)) c.from
        (λ w.
        let y = q.last i h (omega arith) w in
        let e' : e ≡ taken i = omega arith in
        absurd (let v : K i (taken i) < c.from = w in let g : c.from ≤ K i (taken i) = rw e' at z in let x : ⊥ = omega arith in x))
        (λ w.
        let at_head : b ≤ K i (taken i) =
        omega (arith, q.head i h (omega arith), best_least c.heads c.from n i h (omega (arith, q.head i h (omega arith)))) in
        by_lt (taken i) e (λ v. omega (arith, laid.rises i (taken i) e h v l))
        (λ v. let e' : e ≡ taken i = omega arith in rw e' at_head)))))

    -- no better one is left: all are picked
    none_left : b ≡ last_key → Picked most (suc k) c
    none_left z =
        record {
          run_long = q.run_long;
          at_long = q.at_long;
          heads_long = q.heads_long;
          taken_long = q.taken_long;
          taken_in = q.taken_in;
          head = q.head;
          none = q.none;
          last = q.last;
          early = q.early;
          counted = q.counted;
          within = omega (arith, q.within);
          all = λ l i e h g.
              either_way (not_better i e h g) (λ x. x) (λ x. absurd (let y : ⊥ = omega (arith, laid.small i e h g) in y));
          entries = q.entries;
        }

    -- slot `taken` of server i is the best: it is picked
    module _ (i : ℕ) (h : i < n) (some : 0 < m i) (new : c.from ≤ b) (is : b ≡ K i (taken i)) where
      abbrev here : taken i < m i
      here = q.taken_in i h some

      same_rank : B (K i (taken i)) ≡ c.count
      same_rank = ap B (sym is) ∙ laid.skip c.from b new not_better ∙ q.counted

      -- with other heads and numbers taken, which differ at i alone
      with_lists : (heads' taken' : List ℕ) → length heads' ≡ places → length taken' ≡ places
          → ((j : ℕ) → (j ≡ i → ⊥) → get_or heads' j 0 ≡ get_or c.heads j 0) → ((j : ℕ) → (j ≡ i → ⊥) → get_or taken' j 0 ≡ taken j)
          → get_or taken' i 0 < m i → get_or heads' i 0 ≡ K i (get_or taken' i 0) → (K i (get_or taken' i 0) < b + 1 → m i ≡ get_or taken' i 0 + 1)
          → get_or taken' i 0 ≤ taken i + 1
          → Picked most (suc k)
          (record {
            run = set c.run c.count b;
            at = set c.at c.count (i * window + taken i);
            heads = heads';
            taken = taken';
            from = b + 1;
            count = c.count + 1;
          })
      with_lists heads' taken' hl tl oh ot ti hi li few =
          record {
            run_long = length-set c.run c.count b ∙ q.run_long;
            at_long = length-set c.at c.count (i * window + taken i) ∙ q.at_long;
            heads_long = hl;
            taken_long = tl;
            taken_in = λ j g s. by_same j i (λ e. rw e ti) (λ z. rw (ot j z) (q.taken_in j g s));
            head = λ j g s. by_same j i (λ e. rw e hi) (λ z. rw (oh j z, ot j z) (q.head j g s));
            none = λ j g s. by_same j i (λ e. absurd (let s' : m i ≡ 0 = rw e at s in let x : ⊥ = omega arith in x)) (λ z. rw (oh j z) (q.none j g s));
            last = λ j g s l.
                by_same j i (λ e. rw e (let l' : K i (get_or taken' i 0) < b + 1 = rw e at l in li l'))
                (λ z.
                let l' : K j (taken j) < b + 1 = rw (ot j z) at l in
                rw (ot j z) (other_last j g s z l'));
            early = λ j e g l u.
                by_same j i (λ z. rw z (let l' : e < get_or taken' i 0 = rw z at l in let u' : e < m i = rw z at u in own_early e (omega arith) u'))
                (λ z. let l' : e < taken j = rw (ot j z) at l in omega (arith, q.early j e g l' u));
            counted = rw is (omega (arith, laid.hit i (taken i) h here, same_rank));
            within = omega (arith, q.within);
            all = λ l j e g u. omega (arith, q.all (omega arith) j e g u);
            entries = λ r l.
                by_lt r c.count
                (λ z. let o = q.entries r z in
                record {
                  place = o.place;
                  slot = o.slot;
                  inside = o.inside;
                  within = o.within;
                  key = get_or-set_other c.run c.count r b 0 (λ e. omega arith) ∙ o.key;
                  at_slot = get_or-set_other c.at c.count r (i * window + taken i) 0 (λ e. omega arith) ∙ o.at_slot;
                  ranked = o.ranked;
                })
                (λ z. let e : r ≡ c.count = omega arith in
                rw e
                (record {
                  place = i;
                  slot = taken i;
                  inside = h;
                  within = here;
                  key = get_or-set_same c.run c.count b 0 (omega (arith, q.run_long, q.within)) ∙ is;
                  at_slot = get_or-set_same c.at c.count (i * window + taken i) 0 (omega (arith, q.at_long, q.within));
                  ranked = same_rank;
                }));
          }
        where
          own_early : (e : ℕ) → e < taken i + 1 → e < m i → K i e < b + 1
          own_early e l u =
              by_lt e (taken i) (λ z. omega (arith, q.early i e h z u)) (λ z. let e' : e ≡ taken i = omega arith in rw e' (omega (arith, is)))

          other_last : (j : ℕ) → j < n → 0 < m j → (j ≡ i → ⊥) → K j (taken j) < b + 1 → m j ≡ taken j + 1
          other_last j g s z l =
              either_way (not_better j (taken j) g (q.taken_in j g s)) (λ w. q.last j g s w)
              (λ w.
              let same : K j (taken j) ≡ K i (taken i) = omega (arith, is) in
              absurd (z (sym (laid.place j (taken j) g (q.taken_in j g s)) ∙ ap (λ x. x % places) same ∙ laid.place i (taken i) h here)))

      take : Picked most (suc k) (pick_key first count level step n c b)
      take =
          let place : b % places ≡ i = ap (λ x. x % places) is ∙ laid.place i (taken i) h here in
          let slot : taken i % window ≡ taken i = omega (arith, here, laid.slots i h) in
          rw (place, slot)
          (by_lt (taken i + 1) (m i) (λ l. rw (lt-ltb (taken i + 1) (m i) l) (more l)) (λ l. rw (le-ltb (taken i + 1) (m i) l) (no_more l)))
        where
          more : (l : taken i + 1 < m i)
              → Picked most (suc k)
              (record {
                run = set c.run c.count b;
                at = set c.at c.count (i * window + taken i);
                heads = set c.heads i (further b (get_or step i 0));
                taken = set c.taken i (taken i + 1);
                from = b + 1;
                count = c.count + 1;
              })
          more l =
              let own : get_or (set c.taken i (taken i + 1)) i 0 ≡ taken i + 1 =
              get_or-set_same c.taken i (taken i + 1) 0 (omega (arith, q.taken_long, laid.few)) in
              with_lists (set c.heads i (further b (get_or step i 0))) (set c.taken i (taken i + 1))
              (length-set c.heads i (further b (get_or step i 0)) ∙ q.heads_long) (length-set c.taken i (taken i + 1) ∙ q.taken_long)
              (λ j z. get_or-set_other c.heads i j (further b (get_or step i 0)) 0 z) (λ j z. get_or-set_other c.taken i j (taken i + 1) 0 z)
              (rw own l)
              (rw own
              (get_or-set_same c.heads i (further b (get_or step i 0)) 0 (omega (arith, q.heads_long, laid.few))
              ∙ ap (λ x. further x (get_or step i 0)) is
              ∙ laid.next i (taken i) h l))
              (rw own (λ z. absurd (let x : ⊥ = omega (arith, is, laid.rises i (taken i) (taken i + 1) h (omega arith) l) in x)))
              (omega arith)

          no_more : (l : m i ≤ taken i + 1)
              → Picked most (suc k)
              (record {
                run = set c.run c.count b;
                at = set c.at c.count (i * window + taken i);
                heads = c.heads;
                taken = c.taken;
                from = b + 1;
                count = c.count + 1;
              })
          no_more l =
              with_lists c.heads c.taken q.heads_long q.taken_long (λ j z. refl) (λ j z. refl) here (q.head i h some)
              (λ z. omega (arith, here)) (omega arith)

    pick_next_lem : Picked most (suc k) (pick_next first count level step n c)
    pick_next_lem =
        by_lt b last_key (λ l. rw (ne_eqb b last_key (λ e. omega arith)) (found l))
        (λ l.
        let z : b ≡ last_key = omega (arith, best_most c.heads c.from n) in
        rw (eq-eqb b last_key z) (none_left z))
      where
        found : b < last_key → Picked most (suc k) (pick_key first count level step n c b)
        found l =
            let (i, h, new, is) = best_is c.heads c.from n l in
            let some : 0 < m i =
            by_lt 0 (m i) (λ z. z) (λ z. absurd (let x : ⊥ = omega (arith, q.none i h (omega arith)) in x)) in
            take i h some (omega arith) (sym is ∙ q.head i h some)

  module _ (laid : Laid) (most : ℕ) where
    start_picks : (run at heads taken : List ℕ) → length run ≡ most → length at ≡ most → heads ≡ first → length taken ≡ places
        → ((i : ℕ) → i < places → get_or taken i 0 ≡ 0)
        → Picked most 0 (record { run = run; at = at; heads = heads; taken = taken; from = 0; count = 0 })
    start_picks run at heads taken u v e l zeros =
        record {
          run_long = u;
          at_long = v;
          heads_long = ap length e ∙ laid.long;
          taken_long = l;
          taken_in = λ i h s. rw (zeros i (omega (arith, laid.few))) s;
          head = λ i h s. rw (zeros i (omega (arith, laid.few)), e) (laid.head i h s);
          none = λ i h s. rw e (laid.none i h s);
          last = λ i h s l. absurd (not-suc-le-zero l);
          early = λ i e h l u. absurd (let z : e < 0 = rw (zeros i (omega (arith, laid.few))) at l in not-suc-le-zero z);
          counted = laid.start;
          within = zero-le;
          all = λ l. absurd (not-suc-le-zero l);
          entries = λ r l. absurd (not-suc-le-zero l);
        }

    -- the first k picks
    pub picked : (run at : List ℕ) → length run ≡ most → length at ≡ most → (k : ℕ) → k ≤ most
        → Picked most k (picks first count level step n run at k)
    unfolding picks
    picked run at u v zero l =
        let none : ℕ = 0 in
        start_picks run at first (replicate places none) u v refl (length-replicate places none) (λ i h. get_or-replicate places i none none h)
    picked run at u v (suc k) l = pick_next_lem laid most k l (picks first count level step n run at k) (picked run at u v k (omega arith))
