-- The flood's steps, over the two lists.
use mathlib.Core.Path.{◌≡◌, refl, sym, ◌∙◌, ap, subst}
use mathlib.Core.Bool.{true, false}
use mathlib.Core.Logic.{◌⊎◌, inl, inr, ⊎_elim}
use mathlib.Core.List.{List}
use Prim.Native.Nat.{ℕ, ◌+◌, ◌≤◌, ◌<◌}
use native.Mathlib.Omega.{arith}
use borrow.Author.Count.{below_more}
use native.Mathlib.Decide.{ℕ_discrete, dec_lt}
use lib.ListN.{length, get_or, set, length-set}
use lib.Seq.{get_or-set_same, get_or-set_other}
use Rattle.grid.specs.declared.Grid.{Grid}
use Rattle.grid.specs.Sheet.{size, neighbour, Touch}
use Rattle.grid.specs.Outlet.{is_open}
use Rattle.grid_laws.proofs.Tests.{true_false}
use Rattle.grid_laws.proofs.Neighbours.{touch_back}
use Rattle.key_sort.specs.Order.{Ahead, Sorted}
use Rattle.flood_laws.specs.Flood.{CellOf, NextTo, OutletOf, FloodOf, Between, During, Spread, Wanted}
use Rattle.flood_laws.specs.Flood.{Touched, Room, ReachedAreData, OutsideOrReached, Opens, Opening}
use Rattle.flood_laws.proofs.Marks.{room, no_marks, at_most}
use Rattle.flood_laws.proofs.Reach as Reach

module _ (g : Grid) (f : List ℕ) where
  pub next_back : (c m : ℕ) → NextTo g f c m → NextTo g f m c
  next_back c m b = (b.1, b.0, touch_back g c m b.0.0 b.1.0 b.2)

-- ---- reaching a cell, in the lists
module _ (n : ℕ) (b : List ℕ) (v len m : ℕ) (hm : m < n) (hl : len < n) (lb : n + n ≤ length b) where
  after : List ℕ
  after = set (set b (n + m) v) len m

  after_level : get_or after (n + m) 0 ≡ v
  unfolding after
  after_level = get_or-set_other (set b (n + m) v) len (n + m) m 0 (λ e. omega arith) ∙ get_or-set_same b (n + m) v 0 (omega arith)

  after_level_other : (y : ℕ) → (y ≡ m → ⊥) → get_or after (n + y) 0 ≡ get_or b (n + y) 0
  unfolding after
  after_level_other y x =
      get_or-set_other (set b (n + m) v) len (n + y) m 0 (λ e. omega arith) ∙ get_or-set_other b (n + m) (n + y) v 0 (λ e. x (omega arith))

  after_queue : get_or after len 0 ≡ m
  unfolding after
  after_queue = get_or-set_same (set b (n + m) v) len m 0 (rw length-set (omega arith))

  after_queue_other : (i : ℕ) → i < len → get_or after i 0 ≡ get_or b i 0
  unfolding after
  after_queue_other i h = get_or-set_other (set b (n + m) v) len i m 0 (λ e. omega arith) ∙ get_or-set_other b (n + m) i v 0 (λ e. omega arith)

  after_length : length after ≡ length b
  unfolding after
  after_length = length-set (set b (n + m) v) len m ∙ length-set b (n + m) v

  -- a reached cell stays reached
  after_kept : 0 < v → (y : ℕ) → 0 < get_or b (n + y) 0 → 0 < get_or after (n + y) 0
  after_kept pv y h = go (ℕ_discrete y m)
    where
      go : Dec (y ≡ m) → 0 < get_or after (n + y) 0
      go (yes e) = rw e (rw after_level pv)
      go (no x) = rw (after_level_other y x) h

module _ (g : Grid) (f b : List ℕ) (k v head len : ℕ) (D : During g f b k v head len) where
  pub during_room : Room (size g) b len
  during_room m h e = let y = D.flood.count in omega (arith, room (size g) (λ c. get_or b (size g + c) 0) m h e)

  pub during_most : len ≤ size g
  during_most = let y = D.flood.count in omega (arith, at_most (size g) (λ c. get_or b (size g + c) 0))

  pub during_first : head < len → CellOf (size g) f (get_or b head 0)
  during_first h = (D.flood.queued head h).0

  -- one cell is reached
  module _ (lb : size g + size g ≤ length b) (m : ℕ) (W : Wanted (size g) f b v m)
      (why : OutletOf g f m ⊎ ((j : ℕ) × (j < len) × NextTo g f m (get_or b j 0))) where
    full : len < size g
    full = during_room m W.0.0 W.2

    pub during_reached : During g f (set (set b (size g + m) v) len m) k v head (len + 1)
    unfolding after
    during_reached =
        record {
          flood =
              Reach.reached (λ c t. t.0) (λ c o. o.0) (λ c x n. n.0) (next_back g f) D.low D.flood m W.0 W.2 W.1
              D.some why (λ i. get_or (after (size g) b v len m W.0.0 full lb) i 0)
              (λ c. get_or (after (size g) b v len m W.0.0 full lb) (size g + c) 0)
              (after_level (size g) b v len m W.0.0 full lb)
              (after_level_other (size g) b v len m W.0.0 full lb)
              (after_queue (size g) b v len m W.0.0 full lb)
              (after_queue_other (size g) b v len m W.0.0 full lb);
          low = D.low;
          high = D.high;
          some = D.some;
          here = after_kept (size g) b v len m W.0.0 full lb D.some (get_or f (size g + k) 0) D.here;
        }

-- ---- the eight steps from the queue's first
module _ (g : Grid) (f b : List ℕ) (k v head len x p : ℕ) where
  pub spread_none : During g f b k v head len → head < len → get_or b head 0 ≡ x → size g + size g ≤ length b → Spread g f b k v head len x 0
  spread_none D h e l = record { during = D; more = h; first = e; room = l; done = λ q y. let z : ⊥ = omega arith in absurd z }

  module _ (S : Spread g f b k v head len x p) (hp : p < 8) where
    passed : (CellOf (size g) f (neighbour g x p) → (0 < get_or b (size g + neighbour g x p) 0) ⊎ (v < get_or f (neighbour g x p) 0)) →
        Spread g f b k v head len x (p + 1)
    passed h =
        record {
          during = S.during;
          more = S.more;
          first = S.first;
          room = S.room;
          done = below_more _ p S.done (λ t. ⊎_elim inl (λ u. inr (S.during.high (neighbour g x p) t u)) (h t));
        }

    touched : Wanted (size g) f b v (neighbour g x p) →
        Spread g f (set (set b (size g + neighbour g x p) v) len (neighbour g x p)) k v head (len + 1) x (p + 1)
    unfolding after
    touched W =
        record {
          during =
              during_reached g f b k v head len S.during S.room m W
              (inr (head, S.more, rw S.first (next_back g f x m (cell, W.0, (p, hp, refl)))));
          more = (let y = S.more in omega arith);
          first = after_queue_other (size g) b v len m W.0.0 less S.room head S.more ∙ S.first;
          room = (let y = S.room in omega (arith, after_length (size g) b v len m W.0.0 less S.room));
          done =
              below_more _ p (λ q y t. ⊎_elim (λ r. inl (keep (neighbour g x q) r)) inr (S.done q y t))
              (λ t. inl (rw (after_level (size g) b v len m W.0.0 less S.room) S.during.some));
        }
      where
        m : ℕ
        m = neighbour g x p

        less : len < size g
        less = during_room g f b k v head len S.during m W.0.0 W.2

        cell : CellOf (size g) f x
        cell = rw S.first at (during_first g f b k v head len S.during S.more)

        keep : (y : ℕ) → 0 < get_or b (size g + y) 0 → 0 < get_or (set (set b (size g + m) v) len m) (size g + y) 0
        keep y h = after_kept (size g) b v len m W.0.0 less S.room S.during.some y h

    pub spread_more : {b' : List ℕ} {m r : ℕ} → m ≡ neighbour g x p → Touched (size g) f b b' v len m r →
        Spread g f b' k v head r x (p + 1)
    spread_more {b'} {m} {r} e (inl (q, s, h)) = rw (q, s) (passed (rw e at h))
    spread_more {b'} {m} {r} e (inr (q, s, w)) = rw (q, s, e) (touched (rw e at w))

  pub spread_end : Spread g f b k v head len x p → 8 ≤ p → During g f b k v (head + 1) len
  spread_end S h =
      record {
        flood =
            Reach.popped (λ c t. t.0) (λ c o. o.0) (λ c y n. n.0) (next_back g f) S.during.low S.during.flood S.more
            (λ m n. go m n n.2);
        low = S.during.low;
        high = S.during.high;
        some = S.during.some;
        here = S.during.here;
      }
    where
      go : (m : ℕ) → NextTo g f (get_or b head 0) m → Touch g (get_or b head 0) m → (0 < get_or b (size g + m) 0) ⊎ Ahead (size g) f k m
      go m n (q, l, e) = let e' : m ≡ neighbour g x q = (rw S.first at (sym e)) in rw e' (S.done q (omega arith) (rw e' at n.1))

-- ---- what opens a cell
module _ (g : Grid) (f b : List ℕ) (c : ℕ) where
  -- a step that opens makes c an outlet, or leads to a reached cell beside it
  pub opening_of : ReachedAreData (size g) f b → CellOf (size g) f c → (p : ℕ) → p < 8 → Opens g f b p (neighbour g c p) →
      Opening g f b c
  opening_of d t p hp (inl x) = inl (t, (p, hp, x))
  opening_of d t p hp (inr (y, r)) = inr (neighbour g c p, (t, (y, d (neighbour g c p) y r), (p, hp, refl)), r)

  pub none_opens : ((p : ℕ) → p < 8 → Opens g f b p (neighbour g c p) → ⊥) → Opening g f b c → ⊥
  none_opens n (inl (t, (p, hp, x))) = n p hp (inl x)
  none_opens n (inr (m, (t, u, (p, hp, e)), r)) =
      n p hp (inr (subst (λ (x : ℕ). (x < size g) × (0 < get_or b (size g + x) 0)) (sym e) (u.0, r)))

-- a step that stays on the sheet opens where it leads to a void outside or a reached cell, and only there
module _ (g : Grid) (f b : List ℕ) (p : ℕ) {m k : ℕ} (e : m ≡ k) (h : m < size g) where
  pub opens_on : OutsideOrReached (size g) f b m → Opens g f b p k
  opens_on (inl (z, o)) = inl (inr (rw e at h, rw e at z, rw e at o))
  opens_on (inr r) = inr (rw e at h, rw e at r)

  pub opens_not_on : (OutsideOrReached (size g) f b m → ⊥) → Opens g f b p k → ⊥
  opens_not_on n (inl (inl (q, o))) = omega arith
  opens_not_on n (inl (inr (y, z, o))) = n (inl (rw e z, rw e o))
  opens_not_on n (inr (y, r)) = n (inr (rw e r))

-- one off the sheet opens through an open side, and only there
module _ (g : Grid) (f b : List ℕ) (p m : ℕ) (h : m ≡ size g) where
  pub opens_off : is_open g p ≡ true → Opens g f b p m
  opens_off o = inl (inl (h, o))

  pub opens_not_off : is_open g p ≡ false → Opens g f b p m → ⊥
  opens_not_off n (inl (inl (e, o))) = true_false o n
  opens_not_off n (inl (inr (y, z, o))) = omega arith
  opens_not_off n (inr (y, r)) = omega arith

-- ---- from one cell of the order to the next
pub between_data : (g : Grid) (f b : List ℕ) (k len : ℕ) → Between g f b k len → ReachedAreData (size g) f b
between_data g f b k len B m h r =
    let p = B.flood.placed m h r in
    rw p.2 at (B.flood.queued p.0 p.1).0.1

module _ (g : Grid) (f b : List ℕ) (S : Sorted (size g) f) where
  pub between_none : ((c : ℕ) → c < size g → get_or b (size g + c) 0 ≡ 0) → Between g f b 0 0
  between_none e =
      record {
        v = 0;
        flood =
            record {
              queued = λ i h. let z : ⊥ = omega arith in absurd z;
              placed = λ c l h. let z : ⊥ = omega (arith, e c l) in absurd z;
              under = λ c l h. let z : ⊥ = omega (arith, e c l) in absurd z;
              front = λ i h. let z : ⊥ = omega arith in absurd z;
              parents = λ i h. let z : ⊥ = omega arith in absurd z;
              outs = λ c o h. let z : ⊥ = omega (arith, e c o.0.0) in absurd z;
              outs_later = λ c o h. S.all c o.0.0;
              spread = λ i m h. let z : ⊥ = omega arith in absurd z;
              flat = λ c m n h. let z : ⊥ = omega (arith, e c n.0.0) in absurd z;
              count = sym (no_marks (size g) (λ c. get_or b (size g + c) 0) e);
              order = omega arith;
            };
        low = λ m h. omega arith;
      }

  module _ (k len : ℕ) (hk : k < size g) where
    -- what was ahead is ahead, but for the cell at k
    later : (m : ℕ) → Ahead (size g) f k m → (m ≡ get_or f (size g + k) 0) ⊎ Ahead (size g) f (k + 1) m
    later m (j, h, l, e) = go (ℕ_discrete j k)
      where
        go : Dec (j ≡ k) → (m ≡ get_or f (size g + k) 0) ⊎ Ahead (size g) f (k + 1) m
        go (yes q) = inl (sym e ∙ ap (λ (y : ℕ). get_or f (size g + y) 0) q)
        go (no n) = inr (j, omega arith, l, e)

    sooner : (m : ℕ) → Ahead (size g) f (k + 1) m → Ahead (size g) f k m
    sooner m (j, h, l, e) = (j, omega arith, l, e)

    module _ (c : ℕ) (ec : get_or f (size g + k) 0 ≡ c) where
      onward : (v : ℕ) → FloodOf g f b k v len len → (OutletOf g f c → get_or b (size g + c) 0 ≡ 0 → ⊥) →
          ((i : ℕ) → i < len → NextTo g f (get_or b i 0) c → 0 < get_or b (size g + c) 0) → FloodOf g f b (k + 1) v len len
      onward v F no-out no-nb =
          Reach.moved F (omega arith)
          (λ x o e a. ⊎_elim (λ q. let q' : x ≡ c = q ∙ ec in
          absurd (no-out (subst (OutletOf g f) q' o) (subst (λ (y : ℕ). get_or b (size g + y) 0 ≡ 0) q' e))) (λ l. l) (later x a))
          (λ i m h n a. ⊎_elim (λ q. let q' : m ≡ c = q ∙ ec in
          inl (subst (λ (y : ℕ). 0 < get_or b (size g + y) 0) (sym q') (no-nb i h (subst (NextTo g f (get_or b i 0)) q' n)))) (λ l. inr l)
          (later m a))

      module _ (B : Between g f b k len) where
        pub skip_void : get_or f c 0 ≡ 0 → Between g f b (k + 1) len
        skip_void e =
            record {
              v = B.v;
              flood = onward B.v B.flood (λ o h. let y = o.0.1 in omega arith)
                  (λ i h n. let y = n.1.1 in let z : ⊥ = omega arith in absurd z);
              low = λ m a. B.low m (sooner m a);
            }

        pub skip_reached : 0 < get_or b (size g + c) 0 → Between g f b (k + 1) len
        skip_reached r = record {
          v = B.v;
          flood = onward B.v B.flood (λ o h. omega arith) (λ i h n. r);
          low = λ m a. B.low m (sooner m a);
        }

        pub skip_closed : (Opening g f b c → ⊥) → Between g f b (k + 1) len
        skip_closed n =
            record {
              v = B.v;
              flood =
                  onward B.v B.flood
                  (λ o h. n (inl o))
                  (λ i h x. absurd (n (inr (get_or b i 0, next_back g f (get_or b i 0) c x, (B.flood.queued i h).1))));
              low = λ m a. B.low m (sooner m a);
            }

        -- the cell is reached, at its own key
        module _ (lb : size g + size g ≤ length b) (t : 0 < get_or f c 0) (new : get_or b (size g + c) 0 ≡ 0) (o : Opening g f b c) where
          on : c < size g
          on = rw ec at (S.on k hk)

          low' : (m : ℕ) → Ahead (size g) f k m → get_or f c 0 ≤ get_or f m 0
          low' m (j, h, l, e) = rw (ec, e) at (S.rising k j h l)

          high' : (m : ℕ) → CellOf (size g) f m → get_or f c 0 < get_or f m 0 → Ahead (size g) f k m
          high' m x u = go (S.all m x.0)
            where
              go : Ahead (size g) f 0 m → Ahead (size g) f k m
              go (j, h, l, e) = go' (dec_lt j k)
                where
                  go' : Dec (j < k) → Ahead (size g) f k m
                  go' (yes y) =
                      let z : get_or f m 0 ≤ get_or f c 0 = (rw (ec, e) at (S.rising j k (omega arith) hk)) in
                      let z' : ⊥ = omega arith in
                      absurd z'
                  go' (no y) = (j, omega arith, l, e)

          raised : FloodOf g f b k (get_or f c 0) len len
          raised = Reach.moved B.flood (B.low c (k, omega arith, hk, ec)) (λ x q e a. a) (λ i m h n a. inr a)

          why : OutletOf g f c ⊎ ((j : ℕ) × (j < len) × NextTo g f c (get_or b j 0))
          why = go o
            where
              go : Opening g f b c → OutletOf g f c ⊎ ((j : ℕ) × (j < len) × NextTo g f c (get_or b j 0))
              go (inl q) = inl q
              go (inr (m, x, r)) = let w = B.flood.placed m x.1.0 r in inr (w.0, w.1, rw w.2 x)

          less : len < size g
          less = let y = B.flood.count in omega (arith, room (size g) (λ x. get_or b (size g + x) 0) c on new)

          pub reach_first : During g f (set (set b (size g + c) (get_or f c 0)) len c) k (get_or f c 0) len (len + 1)
          unfolding after
          reach_first =
              record {
                flood =
                    Reach.reached (λ x y. y.0) (λ x y. y.0) (λ x y n. n.0) (next_back g f) low' raised c (on, t) new (omega arith) t why
                    (λ i. get_or (after (size g) b (get_or f c 0) len c on less lb) i 0)
                    (λ x. get_or (after (size g) b (get_or f c 0) len c on less lb) (size g + x) 0)
                    (after_level (size g) b (get_or f c 0) len c on less lb)
                    (after_level_other (size g) b (get_or f c 0) len c on less lb)
                    (after_queue (size g) b (get_or f c 0) len c on less lb)
                    (after_queue_other (size g) b (get_or f c 0) len c on less lb);
                low = low';
                high = high';
                some = t;
                here = rw ec (rw (after_level (size g) b (get_or f c 0) len c on less lb) t);
              }

    pub between_room : Between g f b k len → Room (size g) b len
    between_room B m h e = let y = B.flood.count in omega (arith, room (size g) (λ c. get_or b (size g + c) 0) m h e)

    -- the queue is empty again
    pub drained : (v : ℕ) → During g f b k v len len → Between g f b (k + 1) len
    drained v D =
        record {
          v = v;
          flood = onward (get_or f (size g + k) 0) refl v D.flood (λ o h. let y = D.here in omega arith)
              (λ i h n. D.here);
          low = λ m a. D.low m (sooner m a);
        }
