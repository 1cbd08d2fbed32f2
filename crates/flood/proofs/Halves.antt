-- The packed work buffer: what is read of it, and what comes back.
use mathlib.Core.Path.{◌≡◌, sym, ◌∙◌}
use mathlib.Core.Bool.{Bool, true, false, true≢false}
use mathlib.Core.Logic.{◌⊎◌, inl, inr, ⊎_elim}
use mathlib.Core.List.{List}
use Prim.Native.Nat.{ℕ, ◌+◌, ◌*◌, ◌/◌, ◌%◌, ◌^◌, ◌≤◌, ◌<◌}
use native.Mathlib.Nat.{div-le_self, mod-le}
use native.Mathlib.Omega.{arith}
use lib.ListN.{length, get_or, set}
use lib.Dec.{eqb}
use borrow.Author.Tests.{eqb-true, eqb-false}
use Rattle.grid.specs.declared.Grid.{Grid}
use Rattle.grid.specs.Sheet.{size}
use Rattle.grid_laws.proofs.Neighbours.{cols_positive}
use Rattle.key_sort.specs.Order.{Sorted}
use Rattle.flood_laws.specs.Flood.{CellOf, Wanted, Touched, OutsideOrReached, Opening, During, Spread, Between}
use Rattle.flood_laws.specs.Packed.{front_of, back_of}
use Rattle.flood_laws.proofs.Steps.{spread_none, during_first, during_most, skip_void, skip_reached, skip_closed, between_room}
use Rattle.flood_laws.proofs.Steps.{reach_first, drained}
use Rattle.flood_laws.proofs.Packed.{front_key, front_order, front_mark, back_queue, back_level, back_length, front_same, back_set}

-- the row and the column of a cell, as the test for the border asks for them
pub row_column : (g : Grid) (c : ℕ) → size g < 2 ^ 24 → c < size g → (0 < g.cols) × (c / g.cols < 2 ^ 24) × (c % g.cols < 2 ^ 24)
row_column g c few h = (cols_positive g c h, omega (arith, div-le_self c g.cols), omega (arith, mod-le c g.cols))

module _ (n half v m : ℕ) (w : List ℕ) where
  abbrev pub NoWanted : Type 0
  NoWanted =
      (false ≡ true → Wanted n (front_of n half w) (back_of n half w) v m)
      × (false ≡ false → CellOf n (front_of n half w) m → (0 < get_or (back_of n half w) (n + m) 0) ⊎ (v < get_or (front_of n half w) m 0))

  deny : (CellOf n (front_of n half w) m → (0 < get_or (back_of n half w) (n + m) 0) ⊎ (v < get_or (front_of n half w) m 0)) → NoWanted
  deny h = (λ e. absurd (true≢false (sym e)), λ e. h)

  pub void_there : get_or w m 0 ≡ 0 → NoWanted
  void_there e = deny (λ t. let y = t.1 in let q = front_key n half w m t.0 in let z : ⊥ = omega arith in absurd z)

  pub too_high : v < get_or w m 0 → NoWanted
  too_high h = deny (λ t. go t (front_key n half w m t.0) (back_level n half w m t.0))
    where
      go : CellOf n (front_of n half w) m → get_or (front_of n half w) m 0 ≡ get_or w m 0 % 65536 →
          get_or (back_of n half w) (n + m) 0 ≡ get_or w m 0 / 65536 → (0 < get_or (back_of n half w) (n + m) 0) ⊎ (v < get_or (front_of n half w) m 0)
      go t q r = split (native.Mathlib.Decide.dec_lt (get_or w m 0) 65536)
        where
          split : Dec (get_or w m 0 < 65536) → (0 < get_or (back_of n half w) (n + m) 0) ⊎ (v < get_or (front_of n half w) m 0)
          split (yes l) = inr (omega arith)
          split (no l) = inl (omega arith)

  pub is_wanted : m < n → v < 65536 → (get_or w m 0 ≡ 0 → ⊥) → get_or w m 0 ≤ v →
      (true ≡ true → Wanted n (front_of n half w) (back_of n half w) v m)
      × (true ≡ false → CellOf n (front_of n half w) m → (0 < get_or (back_of n half w) (n + m) 0) ⊎ (v < get_or (front_of n half w) m 0))
  is_wanted h u f l =
      let q = front_key n half w m h in
      let r = back_level n half w m h in
      ((λ e. ((h, omega arith), omega arith, omega arith)), λ e. absurd (true≢false e))

  pub wanted_low : Wanted n (front_of n half w) (back_of n half w) v m → get_or w m 0 < 65536
  wanted_low W = let y = W.2 in omega (arith, back_level n half w m W.0.0)

-- what opens says of the cell m
module _ (n half m : ℕ) (w : List ℕ) (h : m < n) where
  abbrev pub Opened : Type 0
  Opened = OutsideOrReached n (front_of n half w) (back_of n half w) m

  abbrev pub OpenedBy : Bool → Type 0
  OpenedBy r = (r ≡ true → Opened) × (r ≡ false → Opened → ⊥)

  pub opens_void : get_or w m 0 ≡ 0 → OpenedBy (eqb (get_or w (half + n + m) 0) 2)
  opens_void e =
      let k = front_key n half w m h in
      let o = front_mark n half w m h in (
        λ q. inl (omega arith, o ∙ eqb-true _ _ q),
        λ q. ⊎_elim (λ z. eqb-false _ _ q (sym o ∙ z.1)) (λ r. let l = back_level n half w m h in omega arith),
      )

  pub opens_reached : 65536 ≤ get_or w m 0 → OpenedBy true
  opens_reached l = (λ q. inr (let k = back_level n half w m h in omega arith), λ q. absurd (true≢false q))

  pub opens_not : (get_or w m 0 ≡ 0 → ⊥) → get_or w m 0 < 65536 → OpenedBy false
  opens_not f l = (
    λ q. absurd (true≢false (sym q)),
    λ q. ⊎_elim (λ z. let e = z.0 in let k = front_key n half w m h in omega arith)
        (λ r. let k = back_level n half w m h in omega arith),
  )

-- a touch that reaches
module _ (n half v len m : ℕ) (w w' : List ℕ) (hn : n + n ≤ half) (hl : half + n ≤ length w) (hq : len < n) {r : ℕ} where
  pub touch_yes : r ≡ len + 1 → w' ≡ set (set w m (get_or w m 0 + v * 65536)) (half + len) m →
      Wanted n (front_of n half w) (back_of n half w) v m →
      (front_of n half w' ≡ front_of n half w) × Touched n (front_of n half w) (back_of n half w) (back_of n half w') v len m r
  touch_yes q e W =
      let l = wanted_low n half v m w W in
      rw e (front_same n half v len m w hn hl W.0.0 hq l, inr (q, back_set n half v len m w hn hl W.0.0 hq l, W))

-- the queue's first, as the program reads it
module _ (g : Grid) (half k v head len : ℕ) (f w : List ℕ) (D : During g f (back_of (size g) half w) k v head len) where
  pub first_less : len ≤ size g
  first_less = during_most g f (back_of (size g) half w) k v head len D

  first_is : head < len → get_or (back_of (size g) half w) head 0 ≡ get_or w (half + head) 0
  first_is h = back_queue (size g) half w head (let y = first_less in omega arith)

  first_on : head < len → get_or w (half + head) 0 < size g
  first_on h = let t = during_first g f (back_of (size g) half w) k v head len D h in rw (first_is h) at t.0

  -- with its row and column
  pub first_here : size g < 2 ^ 24 → head < len → (get_or w (half + head) 0 < size g) × (0 < g.cols)
      × (get_or w (half + head) 0 / g.cols < 2 ^ 24) × (get_or w (half + head) 0 % g.cols < 2 ^ 24)
  first_here few h = let r = row_column g (get_or w (half + head) 0) few (first_on h) in (first_on h, r.0, r.1, r.2)

  pub spread_start : head < len → Spread g f (back_of (size g) half w) k v head len (get_or w (half + head) 0) 0
  spread_start h =
      spread_none g f (back_of (size g) half w) k v head len (get_or w (half + head) 0) 0 D h (first_is h)
      (rw (back_length (size g) half w) (omega arith))

-- the visit of the cell at the place k of the order
module _ (g : Grid) (half k len : ℕ) (w : List ℕ) (hn : size g + size g ≤ half) (hl : half + size g + size g ≤ length w)
    (hk : k < size g) (S : Sorted (size g) (front_of (size g) half w)) where
  cell_is : get_or (front_of (size g) half w) (size g + k) 0 ≡ get_or w (size g + k) 0
  cell_is = front_order (size g) half w k hk

  queue_on : half + size g ≤ length w
  queue_on = omega arith

  pub cell_on : get_or w (size g + k) 0 < size g
  cell_on = rw cell_is at (S.on k hk)

  key_is : get_or (front_of (size g) half w) (get_or w (size g + k) 0) 0 ≡ get_or w (get_or w (size g + k) 0) 0 % 65536
  key_is = front_key (size g) half w (get_or w (size g + k) 0) cell_on

  level_is : get_or (back_of (size g) half w) (size g + get_or w (size g + k) 0) 0 ≡ get_or w (get_or w (size g + k) 0) 0 / 65536
  level_is = back_level (size g) half w (get_or w (size g + k) 0) cell_on

  module _ (B : Between g (front_of (size g) half w) (back_of (size g) half w) k len) where
    pub visit_void : get_or w (get_or w (size g + k) 0) 0 ≡ 0 → Between g (front_of (size g) half w) (back_of (size g) half w) (k + 1) len
    visit_void e =
        skip_void g (front_of (size g) half w) (back_of (size g) half w) S k len hk (get_or w (size g + k) 0) cell_is B
        (let y = key_is in omega arith)

    pub visit_reached : 65536 ≤ get_or w (get_or w (size g + k) 0) 0 → Between g (front_of (size g) half w) (back_of (size g) half w) (k + 1) len
    visit_reached h =
        skip_reached g (front_of (size g) half w) (back_of (size g) half w) S k len hk (get_or w (size g + k) 0) cell_is B
        (let e = level_is in omega arith)

    pub visit_closed : (Opening g (front_of (size g) half w) (back_of (size g) half w) (get_or w (size g + k) 0) → ⊥) →
        Between g (front_of (size g) half w) (back_of (size g) half w) (k + 1) len
    visit_closed f = skip_closed g (front_of (size g) half w) (back_of (size g) half w) S k len hk (get_or w (size g + k) 0) cell_is B f

    module _ (t : get_or w (get_or w (size g + k) 0) 0 ≡ 0 → ⊥) (low : get_or w (get_or w (size g + k) 0) 0 < 65536) where
      new : get_or (back_of (size g) half w) (size g + get_or w (size g + k) 0) 0 ≡ 0
      new = let e = level_is in omega arith

      same_key : get_or (front_of (size g) half w) (get_or w (size g + k) 0) 0 ≡ get_or w (get_or w (size g + k) 0) 0
      same_key = let e = key_is in omega arith

      pub visit_cell : CellOf (size g) (front_of (size g) half w) (get_or w (size g + k) 0)
      visit_cell = (cell_on, let y = same_key in omega arith)

      pub visit_room : len < size g
      visit_room = between_room g (front_of (size g) half w) (back_of (size g) half w) S k len hk B (get_or w (size g + k) 0) cell_on new

      module _ (o : Opening g (front_of (size g) half w) (back_of (size g) half w) (get_or w (size g + k) 0)) (w' : List ℕ)
          (e : w' ≡ set (set w (get_or w (size g + k) 0) (get_or w (get_or w (size g + k) 0) 0 + get_or w (get_or w (size g + k) 0) 0 * 65536))
          (half + len) (get_or w (size g + k) 0)) where
        front_kept : front_of (size g) half w' ≡ front_of (size g) half w
        front_kept =
            rw e
            (front_same (size g) half (get_or w (get_or w (size g + k) 0) 0) len (get_or w (size g + k) 0) w hn queue_on cell_on visit_room low)

        back_is : back_of (size g) half w'
            ≡ set (set (back_of (size g) half w) (size g + get_or w (size g + k) 0) (get_or w (get_or w (size g + k) 0) 0)) len
            (get_or w (size g + k) 0)
        back_is =
            rw e
            (back_set (size g) half (get_or w (get_or w (size g + k) 0) 0) len (get_or w (size g + k) 0) w hn queue_on cell_on visit_room low)

        pub visit_first : {more : ℕ} → more ≡ len + 1 →
            During g (front_of (size g) half w') (back_of (size g) half w') k (get_or w (get_or w (size g + k) 0) 0) len more
        visit_first {more} q =
            rw (front_kept, back_is, q)
            (rw same_key at (reach_first g (front_of (size g) half w) (back_of (size g) half w) S k len hk (get_or w (size g + k) 0) cell_is B
            (rw (back_length (size g) half w) (omega arith)) (let y = same_key in omega arith) new o))

        pub visit_end : (x : List ℕ) (v r : ℕ) → front_of (size g) half x ≡ front_of (size g) half w' →
            During g (front_of (size g) half w') (back_of (size g) half x) k v r r →
            (front_of (size g) half x ≡ front_of (size g) half w) × Between g (front_of (size g) half w) (back_of (size g) half x) (k + 1) r
        visit_end x v r q D = (q ∙ front_kept, drained g (front_of (size g) half w) (back_of (size g) half x) S k r hk v (rw front_kept at D))
