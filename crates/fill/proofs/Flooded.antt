-- What the flood leaves is the filled sheet: the data cells, neighbours and outlets that it sees by keys and marks are those of the sheet, so
-- its state at the end is the certificate of fill_laws.
use mathlib.Core.Path.{◌≡◌, sym, ◌∙◌, ap, ap₂, subst}
use mathlib.Core.Bool.{true, false, not, ◌&&◌}
use mathlib.Core.Logic.{◌⊎◌, inl, inr, ⊎_elim}
use mathlib.Core.List.{List}
use Prim.Native.Nat.{ℕ, zero, suc, ◌+◌, ◌≤◌, ◌<◌}
use native.Mathlib.Omega.{arith}
use native.Mathlib.Decide.{ℕ_discrete, dec_lt}
use lib.Dec.{eqb, ltb}
use lib.ListN.{length, get_or}
use lib.IntN.{ℤ}
use lib.Signed.{◌≤ℤ◌}
use borrow.Author.Tests.{lt-ltb, ltb-true, eq-eqb, ne_eqb}
use Rattle.grid.specs.declared.Grid.{Grid}
use Rattle.grid.specs.Sheet.{size, higher, at, is_data, DataCell, neighbour, SixteenBits}
use Rattle.grid.specs.Outlet.{is_outside, is_outlet, leaves_at, Outlet, drained, first_stranded}
use Rattle.grid.specs.Fill.{filled}
use Rattle.grid_laws.proofs.Tests.{test, T_true, true_T, true_false, not_true_false, not_false_true, not_of_true, not_of_false}
use Rattle.grid_laws.proofs.Tests.{and_false_left, and_false_right, cond_true, cond_false}
use Rattle.grid_laws.proofs.Order.{≤ℤ-trans, ≤ℤ-of-eq, ≤-higher-left, ≤-higher-right}
use Rattle.grid_laws.proofs.Cells.{on_sheet, no_data_void}
use Rattle.grid_laws.proofs.Neighbours.{neighbour_≤}
use Rattle.grid_laws.proofs.Outlets.{void_of, void_no_data, outside_void, leaves_off, leaves_on, outlet_data, outlet_leaves}
use Rattle.grid_laws.proofs.Outlets.{leaves_outlet}
use Rattle.cells.specs.Keys.{key_of, level_of}
use Rattle.cells.specs.Marks.{Marked}
use Rattle.cells.proofs.Keys.{data_key, zero_no_data, key_void, level_key, level_mono, level_void}
use Rattle.key_sort.specs.Order.{Ahead}
use Rattle.flood_laws.specs.Flood.{CellOf, NextTo, LeavesOf, OutletOf, Between}
use Rattle.flood_laws.proofs.Steps.{next_back}
use Rattle.flood_laws.proofs.Marks.{at_most}
use Rattle.join_laws.specs.Ways.{stop, step}
use Rattle.fill_laws.specs.Certificate.{DataNeighbours, Certificate}
use Rattle.fill_laws.proofs.Paths.{WayOut}
use Rattle.fill_laws.proofs.Reach.{drained_way, way_drained, some_way}
use Rattle.fill_laws.proofs.Certified.{certificate_filled}

module _ (g : Grid) (e : List ℤ) (f : List ℕ) (cells : length e ≡ size g) (range : SixteenBits e)
    (keys : (c : ℕ) → c < size g → get_or f c 0 ≡ key_of (at e c)) (marks : Marked g e (size g + size g) f) where
  -- ---- cells, neighbours and outlets by keys are those of the sheet
  cell_to : (c : ℕ) → DataCell e c → CellOf (size g) f c
  cell_to c t =
      let d = T_true (is_data e c) t in
      let h = on_sheet g e cells c d in
      (h, rw (keys c h) (ltb-true 0 (key_of (at e c)) (sym (data_key e c (range c).0) ∙ d)))

  cell_from : (c : ℕ) → CellOf (size g) f c → DataCell e c
  cell_from c t = true_T (data_key e c (range c).0 ∙ lt-ltb 0 (key_of (at e c)) (rw (keys c t.0) at t.1))

  next_to : (c m : ℕ) → DataNeighbours g e c m → NextTo g f c m
  next_to c m b = (cell_to c b.0, cell_to m b.1, b.2)

  next_from : (c m : ℕ) → NextTo g f c m → DataNeighbours g e c m
  next_from c m b = (cell_from c b.0, cell_from m b.1, b.2)

  leaves_to : (c p : ℕ) → p < 8 → leaves_at g e c p ≡ true → LeavesOf g f c p
  leaves_to c p h l = go (ℕ_discrete (neighbour g c p) (size g))
    where
      go : Dec (neighbour g c p ≡ size g) → LeavesOf g f c p
      go (yes q) = inl (q, sym (leaves_off g e c p q) ∙ l)
      go (no n) =
          let most = neighbour_≤ g c p h in
          let on : neighbour g c p < size g = omega arith in
          let o = sym (leaves_on g e c p n) ∙ l in
          let v = outside_void g e (neighbour g c p) o in
          inr (
            on,
            keys (neighbour g c p) on ∙ ap key_of (no_data_void e (neighbour g c p) (void_no_data g e (neighbour g c p) v)) ∙ key_void,
            marks (neighbour g c p) v ∙ cond_true 2 1 o,
          )

  leaves_from : (c p : ℕ) → LeavesOf g f c p → leaves_at g e c p ≡ true
  leaves_from c p (inl (q, o)) = leaves_off g e c p q ∙ o
  leaves_from c p (inr (on, z, two)) =
      let v = zero_no_data e (neighbour g c p) _ (keys (neighbour g c p) on) (range (neighbour g c p)).0 z in
      let m = marks (neighbour g c p) (void_of g e (neighbour g c p) on v) in
      leaves_on g e c p (λ q. let y : ⊥ = omega arith in absurd y)
      ∙ not_false_true (is_outside g e (neighbour g c p)) (λ o. let k = m ∙ cond_false 2 1 o in let y : ⊥ = omega arith in y)

  out_to : (c : ℕ) → Outlet g e c → OutletOf g f c
  out_to c o =
      let t = T_true (is_outlet g e c) o in
      let w = outlet_leaves g e c t in
      (cell_to c (true_T (outlet_data g e c t)), (w.0, w.1, leaves_to c w.0 w.1 w.2))

  out_from : (c : ℕ) → OutletOf g f c → Outlet g e c
  out_from c (t, (p, h, x)) = true_T (leaves_outlet g e c p (T_true (is_data e c) (cell_from c t)) h (leaves_from c p x))

  level_at : (c : ℕ) → CellOf (size g) f c → level_of (get_or f c 0) ≡ at e c
  level_at c t = ap level_of (keys c t.0) ∙ level_key (at e c) (range c).0

  module _ (b : List ℕ) (len : ℕ) (B : Between g f b (size g) len) where
    none_ahead : {A : Type 0} (m : ℕ) → Ahead (size g) f (size g) m → A
    none_ahead m (j, h, l, q) = let z : ⊥ = omega arith in absurd z

    -- from the outlets on, each cell with a way to one is reached
    out_reached : (c : ℕ) → OutletOf g f c → 0 < get_or b (size g + c) 0
    out_reached c o = go (dec_lt 0 (get_or b (size g + c) 0))
      where
        go : Dec (0 < get_or b (size g + c) 0) → 0 < get_or b (size g + c) 0
        go (yes h) = h
        go (no n) = none_ahead c (B.flood.outs_later c o (omega arith))

    way_reached : {c : ℕ} → WayOut g e c → 0 < get_or b (size g + c) 0
    way_reached (stop {c = c} o) = out_reached c (out_to c o)
    way_reached (step {c = c} {n = n} x w) = go (B.flood.placed n nx.1.0 (way_reached w))
      where
        nx : NextTo g f c n
        nx = next_to c n x

        go : (i : ℕ) × (i < len) × (get_or b i 0 ≡ n) → 0 < get_or b (size g + c) 0
        go (i, h, q) = ⊎_elim (λ r. r) (λ a. none_ahead c a) (B.flood.spread i c h (rw q (next_back g f c n nx)))

    void_unreached : (c : ℕ) → c < size g → is_data e c ≡ false → get_or b (size g + c) 0 ≡ 0
    void_unreached c h d = go (dec_lt 0 (get_or b (size g + c) 0))
      where
        go : Dec (0 < get_or b (size g + c) 0) → get_or b (size g + c) 0 ≡ 0
        go (yes l) =
            let p = B.flood.placed c h l in
            let t : CellOf (size g) f c = subst (CellOf (size g) f) p.2 (B.flood.queued p.0 p.1).0 in
            true_false (T_true (is_data e c) (cell_from c t)) d
        go (no n) = omega arith

    -- and what is reached has a way to an outlet, back through the queue
    place_way : (m i : ℕ) → i < m → i < len → WayOut g e (get_or b i 0)
    place_way zero i h l = let z : ⊥ = omega arith in absurd z
    place_way (suc m) i h l =
        ⊎_elim
        (λ o. stop (out_from (get_or b i 0) o))
        (λ w. let k = w.1 in
        step (next_from (get_or b i 0) (get_or b w.0 0) w.2) (place_way m w.0 (omega arith) (omega arith)))
        (B.flood.parents i l)

    reached_way : (c : ℕ) → c < size g → 0 < get_or b (size g + c) 0 → WayOut g e c
    reached_way c h l =
        let p = B.flood.placed c h l in
        let k = p.1 in
        subst (WayOut g e) p.2 (place_way len p.0 p.1 p.1)

    -- so the stranded cells are the data cells without a level
    pub stranded_by : (c : ℕ) → c < size g →
        (is_data e c && not (get_or (drained g e) c false)) ≡ (ltb 0 (get_or f c 0) && eqb (get_or b (size g + c) 0) 0)
    stranded_by c h = go (test (is_data e c)) (dec_lt 0 (get_or b (size g + c) 0))
      where
        key_data : is_data e c ≡ ltb 0 (get_or f c 0)
        key_data = data_key e c (range c).0 ∙ ap (ltb 0) (sym (keys c h))

        go : (is_data e c ≡ true) ⊎ (is_data e c ≡ false) → Dec (0 < get_or b (size g + c) 0) →
            (is_data e c && not (get_or (drained g e) c false)) ≡ (ltb 0 (get_or f c 0) && eqb (get_or b (size g + c) 0) 0)
        go (inr v) l =
            and_false_left (not (get_or (drained g e) c false)) v
            ∙ sym (and_false_left (eqb (get_or b (size g + c) 0) 0) (sym key_data ∙ v))
        go (inl d) (yes l) =
            and_false_right (is_data e c) (not_of_true (way_drained g e cells (reached_way c h l)))
            ∙ sym (and_false_right (ltb 0 (get_or f c 0))
            (ne_eqb (get_or b (size g + c) 0) 0 (λ z. let y : ⊥ = omega arith in absurd y)))
        go (inl d) (no n) =
            let none : get_or (drained g e) c false ≡ false =
            not_true_false (get_or (drained g e) c false) (λ t. n (way_reached (drained_way g e cells c t))) in
            ap₂ ◌&&◌ key_data (not_of_false none ∙ sym (eq-eqb (get_or b (size g + c) 0) 0 (omega arith)))

    module _ (reach : first_stranded g e ≡ size g) (G : List ℤ)
        (written : (c : ℕ) → c < size g → at G c ≡ level_of (get_or b (size g + c) 0)) where
      reached : (c : ℕ) → DataCell e c → 0 < get_or b (size g + c) 0
      reached c t = way_reached (some_way g e cells reach c t)

      data_level : (c : ℕ) → DataCell e c → at G c ≡ level_of (get_or b (size g + c) 0)
      data_level c t = written c (cell_to c t).0

      surface : Certificate (size g) (DataCell e) (Outlet g e) (DataNeighbours g e) (at e) (at G) (λ i. get_or b i 0) len
      surface =
          record {
            at_outlets =
                λ c o. let k = out_to c o in written c k.0.0 ∙ (ap level_of (B.flood.outs c k (out_reached c k)) ∙ level_at c k.0);
            above = λ c t. let k = cell_to c t in
                ≤ℤ-trans (≤ℤ-of-eq (sym (level_at c k)))
                (≤ℤ-trans (level_mono (get_or f c 0) (get_or b (size g + c) 0) (B.flood.under c k.0 (reached c t)).0)
                (≤ℤ-of-eq (sym (data_level c t))));
            no_higher = no_higher;
            few = (let y = B.flood.count in omega (arith, at_most (size g) (λ c. get_or b (size g + c) 0)));
            reached = λ i h. parents i h (B.flood.parents i h);
            placed = λ c t. B.flood.placed c (cell_to c t).0 (reached c t);
          }
        where
          no_higher : (c n : ℕ) → DataNeighbours g e c n → at G c ≤ℤ higher (at e c) (at G n)
          no_higher c n x = go (B.flood.flat c n k (reached c x.0) (reached n x.1))
            where
              k : NextTo g f c n
              k = next_to c n x

              go : (get_or b (size g + c) 0 ≤ get_or f c 0) ⊎ (get_or b (size g + c) 0 ≤ get_or b (size g + n) 0) →
                  at G c ≤ℤ higher (at e c) (at G n)
              go (inl q) =
                  ≤ℤ-trans (≤ℤ-trans (≤ℤ-of-eq (data_level c x.0)) (≤ℤ-trans (level_mono _ _ q) (≤ℤ-of-eq (level_at c k.0))))
                  (≤-higher-left (at e c) (at G n))
              go (inr q) =
                  ≤ℤ-trans (≤ℤ-trans (≤ℤ-of-eq (data_level c x.0)) (≤ℤ-trans (level_mono _ _ q) (≤ℤ-of-eq (sym (data_level n x.1)))))
                  (≤-higher-right (at e c) (at G n))

          parents : (i : ℕ) → i < len
              → OutletOf g f (get_or b i 0)
              ⊎ ((j : ℕ) × (j < i) × NextTo g f (get_or b i 0) (get_or b j 0)
              × (get_or b (size g + get_or b j 0) 0 ≤ get_or b (size g + get_or b i 0) 0))
              → Outlet g e (get_or b i 0)
              ⊎ ((j : ℕ) × (j < i) × DataNeighbours g e (get_or b i 0) (get_or b j 0) × (at G (get_or b j 0) ≤ℤ at G (get_or b i 0)))
          parents i h (inl o) = inl (out_from (get_or b i 0) o)
          parents i h (inr (j, l, x, m)) =
              inr (
                j,
                l,
                next_from (get_or b i 0) (get_or b j 0) x,
                ≤ℤ-trans (≤ℤ-of-eq (written (get_or b j 0) x.1.0))
                    (≤ℤ-trans (level_mono _ _ m) (≤ℤ-of-eq (sym (written (get_or b i 0) x.0.0)))),
              )

      pub flooded_filled : length G ≡ size g → G ≡ filled g e
      flooded_filled l =
          certificate_filled g e G cells range
          record {
            cells = l;
            voids = λ c h d. written c h ∙ (ap level_of (void_unreached c h d) ∙ level_void);
            surface = surface;
          }
