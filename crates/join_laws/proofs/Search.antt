-- What the steps of a search make of its state: a cell of mark 1 beside a joined one is joined itself, which leaves what is joined in the
-- end as it was; and where the queue is empty, no cell of mark 1 is beside a joined one, so that the marks are what the search comes to.
use mathlib.Core.Path.{◌≡◌, refl, sym, ◌∙◌, ap, subst}
use mathlib.Core.Bool.{true, false, cond, ◌||◌}
use mathlib.Core.Logic.{◌⊎◌, inl, inr, ⊎_elim}
use mathlib.Core.List.{List}
use Prim.Native.Nat.{ℕ, ◌+◌, ◌/◌, ◌%◌, ◌≤◌, ◌<◌, ◌^◌}
use native.Mathlib.Nat.{div-le_self, mod-le}
use native.Mathlib.Omega.{arith}
use native.Mathlib.Decide.{ℕ_discrete, dec_lt}
use lib.Dec.{eqb}
use lib.ListN.{length, get_or, set, length-set, get_or-eq_default}
use lib.Seq.{get_or-set_same, get_or-set_other}
use borrow.Author.Count.{below_more}
use borrow.Author.Tests.{eqb-true, eq-eqb, ne_eqb}
use Rattle.grid.specs.declared.Grid.{Grid}
use Rattle.grid.specs.Below.{count_below}
use Rattle.grid.specs.Sheet.{size, neighbour, Touch}
use Rattle.grid.specs.Joined.{joined}
use Rattle.grid_laws.proofs.Tests.{test, true_false, cond_true, cond_false, or_left, or_right, or_cases, same_test}
use Rattle.grid_laws.proofs.Below.{at_table, length_table, is_table, table_ext, count_≤, count_less, count_change}
use Rattle.grid_laws.proofs.Neighbours.{touch_back, cols_positive}
use Rattle.join_laws.specs.Ways.{stop, step, Joins}
use Rattle.join_laws.specs.Search.{part_of, Parts, in_set, is_joined, joined_marks, Searching, Spreading, GoesOn, Touched}
use Rattle.join_laws.proofs.Joined.{joined_way, way_joined}

-- ---- the parts of a work buffer

module _ (n start : ℕ) (w : List ℕ) where
  pub at_part : (i : ℕ) → i < n → get_or (part_of n start w) i 0 ≡ get_or w (start + i) 0
  unfolding part_of
  at_part i h = at_table n (λ i. get_or w (start + i) 0) i 0 h

  pub length_part : length (part_of n start w) ≡ n
  unfolding part_of
  length_part = length_table n (λ i. get_or w (start + i) 0)

  part_is : (p : List ℕ) → length p ≡ n → ((i : ℕ) → i < n → get_or p i 0 ≡ get_or w (start + i) 0) → p ≡ part_of n start w
  unfolding part_of
  part_is p q f = is_table n (λ i. get_or w (start + i) 0) p 0 q f

-- a store into the part, and one beside it
module _ (n start : ℕ) (w : List ℕ) where
  pub part_set : (i v : ℕ) → i < n → start + i < length w → part_of n start (set w (start + i) v) ≡ set (part_of n start w) i v
  part_set i v h l =
      sym (part_is n start (set w (start + i) v) (set (part_of n start w) i v)
      (length-set (part_of n start w) i v ∙ length_part n start w) (λ j k. go j k (ℕ_discrete j i)))
    where
      go : (j : ℕ) → j < n → Dec (j ≡ i) → get_or (set (part_of n start w) i v) j 0 ≡ get_or (set w (start + i) v) (start + j) 0
      go j k (yes e) =
          rw e (get_or-set_same (part_of n start w) i v 0 (let q = length_part n start w in omega arith)
          ∙ sym (get_or-set_same w (start + i) v 0 l))
      go j k (no f) =
          get_or-set_other (part_of n start w) i j v 0 f
          ∙ at_part n start w j k
          ∙ sym (get_or-set_other w (start + i) (start + j) v 0 (λ e. f (omega arith)))

  pub part_beside : (x v : ℕ) → ((i : ℕ) → i < n → start + i ≡ x → ⊥) → part_of n start (set w x v) ≡ part_of n start w
  unfolding part_of
  part_beside x v f =
      table_ext n (λ i. get_or (set w x v) (start + i) 0) (λ i. get_or w (start + i) 0) (λ i h. get_or-set_other w x (start + i) v 0 (f i h))

-- ---- marks

eq_or : (value x : ℕ) → (eqb x 1 || eqb x value) ≡ true → (x ≡ 1) ⊎ (x ≡ value)
eq_or value x t = ⊎_elim (λ e. inl (eqb-true x 1 e)) (λ e. inr (eqb-true x value e)) (or_cases (eqb x 1) (eqb x value) t)

-- equal marks, equal tests
set_of : (value : ℕ) (l l' : List ℕ) (c : ℕ) → get_or l c 0 ≡ get_or l' c 0 → in_set value l c ≡ in_set value l' c
unfolding in_set
set_of value l l' c e = ap (λ (x : ℕ). eqb x 1 || eqb x value) e

joined_of : (value : ℕ) (l l' : List ℕ) (c : ℕ) → get_or l c 0 ≡ get_or l' c 0 → is_joined value l c ≡ is_joined value l' c
unfolding is_joined
joined_of value l l' c e = ap (λ (x : ℕ). eqb x value) e

module _ (g : Grid) (value : ℕ) (big : 2 ≤ value) (l : List ℕ) where
  pub of_set : (c : ℕ) → in_set value l c ≡ true → (get_or l c 0 ≡ 1) ⊎ (get_or l c 0 ≡ value)
  unfolding in_set
  of_set c t = eq_or value (get_or l c 0) t

  pub one_set : (c : ℕ) → get_or l c 0 ≡ 1 → in_set value l c ≡ true
  unfolding in_set
  one_set c e = or_left (eqb (get_or l c 0) value) (eq-eqb (get_or l c 0) 1 e)

  pub value_set : (c : ℕ) → get_or l c 0 ≡ value → in_set value l c ≡ true
  unfolding in_set
  value_set c e = or_right (eqb (get_or l c 0) 1) (eq-eqb (get_or l c 0) value e)

  pub of_joined : (c : ℕ) → is_joined value l c ≡ true → get_or l c 0 ≡ value
  unfolding is_joined
  of_joined c t = eqb-true (get_or l c 0) value t

  pub value_joined : (c : ℕ) → get_or l c 0 ≡ value → is_joined value l c ≡ true
  unfolding is_joined
  value_joined c e = eq-eqb (get_or l c 0) value e

  one_unjoined : (c : ℕ) → get_or l c 0 ≡ 1 → is_joined value l c ≡ false
  unfolding is_joined
  one_unjoined c e = ne_eqb (get_or l c 0) value (λ q. omega arith)

  module _ (long : length l ≡ size g) where
    on_sheet : (c : ℕ) → in_set value l c ≡ true → c < size g
    on_sheet c t = go (dec_lt c (size g))
      where
        go : Dec (c < size g) → c < size g
        go (yes h) = h
        go (no f) =
            let e = get_or-eq_default l 0 (let q : length l ≤ c = omega arith in q) in
            ⊎_elim (λ q. let z : ⊥ = omega arith in absurd z) (λ q. let z : ⊥ = omega arith in absurd z) (of_set c t)

    pub ends_way : (c : ℕ) → get_or (joined g (in_set value l) (is_joined value l)) c false ≡ true →
        Joins g (in_set value l) (is_joined value l) c
    ends_way c t = joined_way g (in_set value l) (is_joined value l) on_sheet c t

    pub way_ends : {c : ℕ} → Joins g (in_set value l) (is_joined value l) c →
        get_or (joined g (in_set value l) (is_joined value l)) c false ≡ true
    way_ends w = way_joined g (in_set value l) (is_joined value l) on_sheet w

-- ---- the end: the queue is empty

module _ (g : Grid) (value : ℕ) (big : 2 ≤ value) (l q : List ℕ) (long : length l ≡ size g) (len : ℕ)
    (S : Searching g value l q len len) where
  way_value : {c : ℕ} → Joins g (in_set value l) (is_joined value l) c → get_or l c 0 ≡ value
  way_value (stop {c = c} o) = of_joined g value big l c o.1
  way_value (step {c = c} {n = n} b w) = ⊎_elim (λ e. absurd (near (way_value w) e)) (λ e. e) (of_set g value big l c b.0)
    where
      near : get_or l n 0 ≡ value → get_or l c 0 ≡ 1 → ⊥
      near v e =
          let h = on_sheet g value big l long n b.1 in
          let t = touch_back g c n (on_sheet g value big l long c b.0) h b.2 in
          let i = S.placed n h v in
          S.spread i.0 t.0 i.1 t.1 (rw i.2 (rw t.2 e))

  pub settled : joined_marks g value l ≡ l
  unfolding joined_marks
  settled = sym (is_table (size g) _ l 0 long (λ c h. go c (test (get_or (joined g (in_set value l) (is_joined value l)) c false))))
    where
      go : (c : ℕ) → (get_or (joined g (in_set value l) (is_joined value l)) c false ≡ true)
          ⊎ (get_or (joined g (in_set value l) (is_joined value l)) c false ≡ false)
          → get_or l c 0 ≡ cond (get_or (joined g (in_set value l) (is_joined value l)) c false) value (get_or l c 0)
      go c (inl t) = way_value (ends_way g value big l long c t) ∙ sym (cond_true value (get_or l c 0) t)
      go c (inr t) = sym (cond_false value (get_or l c 0) t)

-- ---- a step: m, of mark 1, is joined

module _ (g : Grid) (value : ℕ) (big : 2 ≤ value) (l : List ℕ) (long : length l ≡ size g) (m : ℕ) (on : m < size g) (one : get_or l m 0 ≡ 1)
  where
    abbrev l' : List ℕ
    l' = set l m value

    at_m : get_or l' m 0 ≡ value
    at_m = get_or-set_same l m value 0 (omega arith)

    at_other : (c : ℕ) → (c ≡ m → ⊥) → get_or l' c 0 ≡ get_or l c 0
    at_other c f = get_or-set_other l m c value 0 f

    long' : length l' ≡ size g
    long' = length-set l m value ∙ long

    -- what has the mark was joined, and is not m
    not_m : (c : ℕ) → get_or l c 0 ≡ value → c ≡ m → ⊥
    not_m c e q = let o : get_or l c 0 ≡ 1 = rw q one in omega arith

    same_set : (c : ℕ) → in_set value l' c ≡ in_set value l c
    same_set c = go (ℕ_discrete c m)
      where
        go : Dec (c ≡ m) → in_set value l' c ≡ in_set value l c
        go (yes e) = rw e (value_set g value big l' m at_m ∙ sym (one_set g value big l m one))
        go (no f) = set_of value l' l c (at_other c f)

    -- m is beside a joined cell
    module _ (x : ℕ) (is : get_or l x 0 ≡ value) (t : Touch g m x) where
      more_ways : {c : ℕ} → Joins g (in_set value l) (is_joined value l) c → Joins g (in_set value l') (is_joined value l') c
      more_ways (stop {c = c} o) =
          let e = of_joined g value big l c o.1 in
          stop (same_set c ∙ o.0, value_joined g value big l' c (at_other c (not_m c e) ∙ e))
      more_ways (step {c = c} {n = n} b w) = step (same_set c ∙ b.0, same_set n ∙ b.1, b.2) (more_ways w)

      m_way : Joins g (in_set value l) (is_joined value l) m
      m_way =
          step (one_set g value big l m one, value_set g value big l x is, t)
          (stop (value_set g value big l x is, value_joined g value big l x is))

      no_more : {c : ℕ} → Joins g (in_set value l') (is_joined value l') c → Joins g (in_set value l) (is_joined value l) c
      no_more (stop {c = c} o) = go (ℕ_discrete c m)
        where
          go : Dec (c ≡ m) → Joins g (in_set value l) (is_joined value l) c
          go (yes e) = subst (Joins g (in_set value l) (is_joined value l)) (sym e) m_way
          go (no f) =
              stop (sym (same_set c) ∙ o.0, value_joined g value big l c (sym (at_other c f) ∙ of_joined g value big l' c o.1))
      no_more (step {c = c} {n = n} b w) = step (sym (same_set c) ∙ b.0, sym (same_set n) ∙ b.1, b.2) (no_more w)

      same_ends : (c : ℕ) → get_or (joined g (in_set value l') (is_joined value l')) c false
          ≡ get_or (joined g (in_set value l) (is_joined value l)) c false
      same_ends c =
          same_test _ _ (λ a. way_ends g value big l long (no_more (ends_way g value big l' long' c a)))
          (λ a. way_ends g value big l' long' (more_ways (ends_way g value big l long c a)))

      pub same_marks : joined_marks g value l' ≡ joined_marks g value l
      unfolding joined_marks
      same_marks = table_ext (size g) _ _ (λ c h. go c (test (get_or (joined g (in_set value l) (is_joined value l)) c false)))
        where
          go : (c : ℕ) → (get_or (joined g (in_set value l) (is_joined value l)) c false ≡ true)
              ⊎ (get_or (joined g (in_set value l) (is_joined value l)) c false ≡ false)
              → cond (get_or (joined g (in_set value l') (is_joined value l')) c false) value (get_or l' c 0)
              ≡ cond (get_or (joined g (in_set value l) (is_joined value l)) c false) value (get_or l c 0)
          go c (inl a) = cond_true value (get_or l' c 0) (same_ends c ∙ a) ∙ sym (cond_true value (get_or l c 0) a)
          go c (inr a) =
              cond_false value (get_or l' c 0) (same_ends c ∙ a)
              ∙ at_other c (λ e. true_false (way_ends g value big l long m_way) (rw e at a))
              ∙ sym (cond_false value (get_or l c 0) a)

    module _ (q : List ℕ) (qlong : length q ≡ size g) (head len : ℕ) (S : Searching g value l q head len) where
      pub room : len < size g
      room = let c = S.count in let k = count_less (size g) (is_joined value l) m on (one_unjoined g value big l m one) in omega arith

      abbrev q' : List ℕ
      q' = set q len m

      q_len : get_or q' len 0 ≡ m
      q_len = get_or-set_same q len m 0 (let r = room in omega arith)

      q_before : (i : ℕ) → i < len → get_or q' i 0 ≡ get_or q i 0
      q_before i h = get_or-set_other q len i m 0 (λ e. omega arith)

      old : (i : ℕ) → i < len → (get_or q' i 0 < size g) × (get_or l' (get_or q' i 0) 0 ≡ value)
      old i h =
          let s = S.queued i h in
          rw (q_before i h) (s.0, at_other (get_or q i 0) (not_m (get_or q i 0) s.1) ∙ s.1)

      pub taken : Searching g value l' q' head (len + 1)
      taken =
          record {
            queued = below_more _ len old (rw q_len (on, at_m));
            placed = λ c h e. place c h e (ℕ_discrete c m);
            spread = λ i p h k e. S.spread i p h k (still i p h e (ℕ_discrete (neighbour g (get_or q i 0) p) m));
            count = (let c = S.count in let k = one_more in omega arith);
            order = (let o = S.order in omega arith);
          }
        where
          place : (c : ℕ) → c < size g → get_or l' c 0 ≡ value → Dec (c ≡ m) → (i : ℕ) × (i < len + 1) × (get_or q' i 0 ≡ c)
          place c h e (yes r) = (len, omega arith, q_len ∙ sym r)
          place c h e (no f) =
              let w = S.placed c h (sym (at_other c f) ∙ e) in
              let b = w.1 in
              (w.0, omega arith, q_before w.0 w.1 ∙ w.2)

          still : (i p : ℕ) → i < head → get_or l' (neighbour g (get_or q' i 0) p) 0 ≡ 1 → Dec (neighbour g (get_or q i 0) p ≡ m) →
              get_or l (neighbour g (get_or q i 0) p) 0 ≡ 1
          still i p h e d = go (rw (q_before i (let o = S.order in omega arith)) at e) d
            where
              go : get_or l' (neighbour g (get_or q i 0) p) 0 ≡ 1 → Dec (neighbour g (get_or q i 0) p ≡ m) →
                  get_or l (neighbour g (get_or q i 0) p) 0 ≡ 1
              go e (yes r) = let k : get_or l' m 0 ≡ 1 = rw r at e in let v = at_m in let z : ⊥ = omega arith in absurd z
              go e (no f) = sym (at_other (neighbour g (get_or q i 0) p) f) ∙ e

          one_more : count_below (size g) (is_joined value l') ≡ count_below (size g) (is_joined value l) + 1
          one_more =
              count_change (size g) (is_joined value l) (is_joined value l') m on (one_unjoined g value big l m one)
              (value_joined g value big l' m at_m) (λ c f. joined_of value l' l c (at_other c f))

-- ---- the steps over a work buffer

pub parts_same : {n base half l l' : ℕ} → Parts n base half l → l' ≡ l → Parts n base half l'
parts_same {n} {base} {half} P e = subst (Parts n base half) (sym e) P

module _ (g : Grid) (base half value : ℕ) where
  pub goes_same : (w : List ℕ) → GoesOn g base half value w w
  goes_same w = record { same = refl; kept = λ x a b. refl }

  pub goes_on : (w₀ w₁ w₂ : List ℕ) → GoesOn g base half value w₀ w₁ → GoesOn g base half value w₁ w₂ → GoesOn g base half value w₀ w₂
  goes_on w₀ w₁ w₂ a b = record { same = b.same ∙ a.same; kept = λ x f h. b.kept x f h ∙ a.kept x f h }

  module _ (big : 2 ≤ value) (w : List ℕ) (P : Parts (size g) base half (length w)) where
    abbrev marks : List ℕ
    marks = part_of (size g) base w

    abbrev queue : List ℕ
    queue = part_of (size g) half w

    -- what stands after a cell is taken
    module _ (m len : ℕ) (on : m < size g) (less : len < size g) where
      abbrev after : List ℕ
      after = set (set w (base + m) value) (half + len) m

      pub take_marks : part_of (size g) base after ≡ set marks m value
      take_marks =
          part_beside (size g) base (set w (base + m) value) (half + len) m (λ i h e. P.apart i len h less e)
          ∙ part_set (size g) base w m value on (let h = P.marks_in in omega arith)

      pub take_queue : part_of (size g) half after ≡ set queue len m
      take_queue =
          part_set (size g) half (set w (base + m) value) len m less
          (let h = P.queue_in in let l = length-set w (base + m) value in omega arith)
          ∙ ap (λ (l : List ℕ). set l len m)
          (part_beside (size g) half w (base + m) value (λ i h e. P.apart m i on h (sym e)))

      pub take_kept : (x : ℕ) → ((i : ℕ) → i < size g → x ≡ base + i → ⊥) → ((i : ℕ) → i < size g → x ≡ half + i → ⊥) →
          get_or after x 0 ≡ get_or w x 0
      take_kept x a b =
          get_or-set_other (set w (base + m) value) (half + len) x m 0 (b len less) ∙ get_or-set_other w (base + m) x value 0 (a m on)

    module _ (head len : ℕ) where
      pub queue_room : Searching g value marks queue head len → (m : ℕ) → m < size g → get_or w (base + m) 0 ≡ 1 → len < size g
      queue_room S m on e =
          room g value big marks (length_part (size g) base w) m on (at_part (size g) base w m on ∙ e) queue
          (length_part (size g) half w) head len
          S

      pub queue_cell : Searching g value marks queue head len → head < len → (head < size g) × (get_or w (half + head) 0 < size g)
      queue_cell S h = let k : head < size g = (let c = S.count in omega (arith, count_≤ (size g) (is_joined value marks))) in
          (k, rw (at_part (size g) half w head k) at (S.queued head h).0)

      pub spread_none : Searching g value marks queue head len → head < len →
          Spreading g value marks queue head len (get_or w (half + head) 0) 0
      spread_none S h =
          record {
            searching = S;
            more = h;
            here = at_part (size g) half w head (queue_cell S h).0;
            done = λ k l. let z : ⊥ = omega arith in absurd z;
          }

      -- the queue's cell at head, as the program reads it: where it stands, and its row and column
      pub queue_here : Searching g value marks queue head len → head < len →
          (half + head < length w) × (get_or w (half + head) 0 < size g) × (0 < g.cols) × (get_or w (half + head) 0 / g.cols < 2 ^ 24)
          × (get_or w (half + head) 0 % g.cols < 2 ^ 24)
      queue_here S h =
          let c = queue_cell S h in
          let x = get_or w (half + head) 0 in
          let few = P.few in
          let room = P.queue_in in (
            omega arith,
            c.1,
            cols_positive g x c.1,
            omega (arith, div-le_self x g.cols),
            omega (arith, mod-le x g.cols),
          )

      pub spread_all : (x : ℕ) → Spreading g value marks queue head len x 8 → Searching g value marks queue (head + 1) len
      spread_all x S =
          record {
            queued = S.searching.queued;
            placed = S.searching.placed;
            spread =
                λ i p h k. below_more (λ j. get_or marks (neighbour g (get_or queue j 0) p) 0 ≡ 1 → ⊥) head
                (λ j l. S.searching.spread j p l k)
                (rw S.here (S.done p k)) i h;
            count = S.searching.count;
            order = (let o = S.more in omega arith);
          }

      -- one step more
      module _ (x p : ℕ) (low : p < 8) (S : Spreading g value marks queue head len x p) where
        here_on : x < size g
        here_on = rw S.here at (S.searching.queued head S.more).0

        here_joined : get_or marks x 0 ≡ value
        here_joined = rw S.here at (S.searching.queued head S.more).1

        unmarked : (neighbour g x p < size g → get_or w (base + neighbour g x p) 0 ≡ 1 → ⊥) → get_or marks (neighbour g x p) 0 ≡ 1 → ⊥
        unmarked f e = go (dec_lt (neighbour g x p) (size g))
          where
            go : Dec (neighbour g x p < size g) → ⊥
            go (yes h) = f h (sym (at_part (size g) base w (neighbour g x p) h) ∙ e)
            go (no h) =
                let l = length_part (size g) base w in
                let d = get_or-eq_default marks 0 (let q : length marks ≤ neighbour g x p = omega arith in q) in
                omega arith

        module _ (on : neighbour g x p < size g) (one : get_or w (base + neighbour g x p) 0 ≡ 1) where
          abbrev m : ℕ
          m = neighbour g x p

          abbrev w' : List ℕ
          w' = set (set w (base + m) value) (half + len) m

          less : len < size g
          less = queue_room S.searching m on one

          is_one : get_or marks m 0 ≡ 1
          is_one = at_part (size g) base w m on ∙ one

          took : Searching g value (part_of (size g) base w') (part_of (size g) half w') head (len + 1)
          took =
              rw (take_marks m len on less) (rw (take_queue m len on less)
              (taken g value big marks (length_part (size g) base w) m on is_one queue (length_part (size g) half w) head len
              S.searching))

          no_one : (k : ℕ) → k < p + 1 → get_or (part_of (size g) base w') (neighbour g x k) 0 ≡ 1 → ⊥
          no_one = rw (take_marks m len on less) (below_more _ p (λ k h e. S.done k h (old k e (ℕ_discrete (neighbour g x k) m))) last)
            where
              new : get_or (set marks m value) m 0 ≡ value
              new = get_or-set_same marks m value 0 (let l = length_part (size g) base w in omega arith)

              last : get_or (set marks m value) m 0 ≡ 1 → ⊥
              last e = let n = new in omega arith

              old : (k : ℕ) → get_or (set marks m value) (neighbour g x k) 0 ≡ 1 → Dec (neighbour g x k ≡ m) →
                  get_or marks (neighbour g x k) 0 ≡ 1
              old k e (yes q) = absurd (last (rw q at e))
              old k e (no f) = sym (get_or-set_other marks m (neighbour g x k) value 0 f) ∙ e

          pub took_step : Spreading g value (part_of (size g) base w') (part_of (size g) half w') head (len + 1) x (p + 1)
          took_step =
              record {
                searching = took;
                more = (let o = S.more in omega arith);
                here =
                    rw (take_queue m len on less) (get_or-set_other queue len head m 0 (λ e. let o = S.more in omega arith) ∙ S.here);
                done = no_one;
              }

          pub took_on : GoesOn g base half value w w'
          took_on =
              record {
                same =
                    ap (joined_marks g value) (take_marks m len on less)
                    ∙ same_marks g value big marks (length_part (size g) base w) m on is_one x here_joined
                    (touch_back g x m here_on on (p, low, refl));
                kept = take_kept m len on less;
              }

        pub touch_step : (w' : List ℕ) (r : ℕ) → Touched (size g) base half value w w' len (neighbour g x p) r →
            Spreading g value (part_of (size g) base w') (part_of (size g) half w') head r x (p + 1) × GoesOn g base half value w w'
        touch_step w' r (inl (e, q, f)) =
            rw e (rw q (
              record {
                searching = S.searching;
                more = S.more;
                here = S.here;
                done = below_more _ p S.done (unmarked f);
              },
              goes_same w,
            ))
        touch_step w' r (inr (e, q, on, one)) = rw e (rw q (took_step on one, took_on on one))

    -- the queue is empty
    pub searched : (w₁ : List ℕ) (len : ℕ) → GoesOn g base half value w w₁ →
        Searching g value (part_of (size g) base w₁) (part_of (size g) half w₁) len len → part_of (size g) base w₁ ≡ joined_marks g value marks
    searched w₁ len G S =
        sym (settled g value big (part_of (size g) base w₁) (part_of (size g) half w₁) (length_part (size g) base w₁) len S) ∙ G.same
