-- The steps of the flood together: w1 is the work buffer with the keys, w2 when it is sorted and voids are marked, w3 when it is flooded.
use mathlib.Core.Path.{◌≡◌, sym, ◌∙◌, ap, ap₂}
use mathlib.Core.Bool.{false, not, ◌&&◌}
use mathlib.Core.List.{List}
use Prim.Native.Nat.{ℕ, ◌+◌, ◌/◌, ◌%◌, ◌<◌}
use native.Mathlib.Omega.{arith}
use native.Mathlib.Decide.{dec_lt}
use lib.Dec.{eqb, ltb}
use lib.ListN.{length, get_or}
use lib.IntN.{ℤ}
use borrow.Author.Tests.{lt-ltb, le-ltb, eq-eqb, ne_eqb}
use Rattle.grid.specs.declared.Grid.{Grid}
use Rattle.grid.specs.Below.{table, first_below}
use Rattle.grid.specs.Sheet.{size, void, at, is_data}
use Rattle.grid.specs.Outlet.{drained, first_stranded}
use Rattle.grid.specs.Fill.{filled}
use Rattle.grid_laws.proofs.Tests.{and_false_right}
use Rattle.grid_laws.proofs.Below.{at_table, length_table, first_ext}
use Rattle.grid_laws.proofs.Outlets.{void_on}
use Rattle.cells.specs.Keys.{key_of, level_of}
use Rattle.cells.specs.Marks.{Marked}
use Rattle.cells.proofs.Keys.{key_level}
use Rattle.key_sort.specs.Order.{Sorted, AreKeys}
use Rattle.flood_laws.specs.Flood.{Between}
use Rattle.flood_laws.specs.Packed.{front_of, back_of}
use Rattle.flood_laws.proofs.Packed.{front_key, front_mark, packed_none, packed_key, packed_sorted, back_level}
use Rattle.fill.specs.Words.{sheet_in, Words, is_unreached}
use Rattle.fill.proofs.Flooded.{stranded_by, flooded_filled}
use Rattle.fill.proofs.Words.{sheet_length, sheet_key, sheet_sixteen}
use Rattle.fill.proofs.Voids.{Ready}

module _ (g : Grid) (half : ℕ) (w1 w2 : List ℕ) (R : Ready g half w1 w2) where
  sorted_keys : AreKeys (size g) w2
  sorted_keys c h = rw (R.kept c h) (R.keys c h)

  pub front_sorted : Sorted (size g) (front_of (size g) half w2)
  front_sorted = packed_sorted (size g) half w2 sorted_keys R.sorted

  pub none_reached : (c : ℕ) → c < size g → get_or (back_of (size g) half w2) (size g + c) 0 ≡ 0
  none_reached c h = packed_none (size g) half w2 sorted_keys c h

  key_at_lem : (c : ℕ) → c < size g → get_or (front_of (size g) half w2) c 0 ≡ key_of (at (sheet_in (size g) w1) c)
  key_at_lem c h = packed_key (size g) half w2 sorted_keys c h ∙ R.kept c h ∙ sheet_key (size g) w1 c h

  mark_at_lem : Marked g (sheet_in (size g) w1) (size g + size g) (front_of (size g) half w2)
  mark_at_lem c v = front_mark (size g) half w2 c (void_on g (sheet_in (size g) w1) c v) ∙ R.marks c v

  module _ (w3 : List ℕ) (front : front_of (size g) half w3 ≡ front_of (size g) half w2)
      (flood : (len : ℕ) × Between g (front_of (size g) half w2) (back_of (size g) half w3) (size g) len) where
    -- the marks stay
    pub marks_stay : Marked g (sheet_in (size g) w1) (half + size g) w3
    marks_stay c v =
        let h = void_on g (sheet_in (size g) w1) c v in
        sym (front_mark (size g) half w3 c h) ∙ ap (λ (l : List ℕ). get_or l (size g + size g + c) 0) front ∙ mark_at_lem c v

    levels : List ℤ
    levels = table (size g) (λ c. level_of (get_or w3 c 0 / 65536))

    level_at : (c : ℕ) → c < size g → at levels c ≡ level_of (get_or w3 c 0 / 65536)
    unfolding levels
    level_at c h = at_table (size g) _ c void h

    levels_length : length levels ≡ size g
    unfolding levels
    levels_length = length_table (size g) _

    low : (c : ℕ) → c < size g → get_or w3 c 0 % 65536 ≡ key_of (at (sheet_in (size g) w1) c)
    low c h = sym (front_key (size g) half w3 c h) ∙ ap (λ (l : List ℕ). get_or l c 0) front ∙ key_at_lem c h

    -- the cells that the flood has not come to are the stranded ones
    unreached_at : (c : ℕ) → c < size g →
        is_unreached w3 c ≡ (is_data (sheet_in (size g) w1) c && not (get_or (drained g (sheet_in (size g) w1)) c false))
    unfolding is_unreached
    unreached_at c h =
        word (get_or w3 c 0) (get_or (front_of (size g) half w2) c 0) (get_or (back_of (size g) half w3) (size g + c) 0)
        (sym (ap (λ (l : List ℕ). get_or l c 0) front) ∙ front_key (size g) half w3 c h) (back_level (size g) half w3 c h)
        ∙ sym (stranded_by g (sheet_in (size g) w1) (front_of (size g) half w2) (sheet_length (size g) w1) (sheet_sixteen (size g) w1 R.keys) key_at_lem
        mark_at_lem (back_of (size g) half w3) flood.0 flood.1 c h)
      where
        word : (w k l : ℕ) → k ≡ w % 65536 → l ≡ w / 65536 → (ltb 0 w && ltb w 65536) ≡ (ltb 0 k && eqb l 0)
        word w k l a b = go (dec_lt w 65536)
          where
            go : Dec (w < 65536) → (ltb 0 w && ltb w 65536) ≡ (ltb 0 k && eqb l 0)
            go (yes h) =
                let same : w ≡ k = omega arith in
                ap₂ ◌&&◌ (ap (ltb 0) same) (lt-ltb w 65536 h ∙ sym (eq-eqb l 0 (omega arith)))
            go (no f) =
                and_false_right (ltb 0 w) (le-ltb w 65536 (omega arith))
                ∙ sym (and_false_right (ltb 0 k) (ne_eqb l 0 (λ z. let y : ⊥ = omega arith in absurd y)))

    pub unreached_first : first_below (size g) (is_unreached w3) ≡ first_stranded g (sheet_in (size g) w1)
    unfolding first_stranded
    unreached_first = first_ext (size g) (is_unreached w3) _ unreached_at

    module _ (reach : first_stranded g (sheet_in (size g) w1) ≡ size g) where
      levels_filled : levels ≡ filled g (sheet_in (size g) w1)
      levels_filled =
          flooded_filled g (sheet_in (size g) w1) (front_of (size g) half w2) (sheet_length (size g) w1) (sheet_sixteen (size g) w1 R.keys) key_at_lem
          mark_at_lem (back_of (size g) half w3) flood.0 flood.1 reach levels
          (λ c h. level_at c h ∙ ap level_of (sym (back_level (size g) half w3 c h))) levels_length

      high : (c : ℕ) → c < size g → get_or w3 c 0 / 65536 ≡ key_of (at (filled g (sheet_in (size g) w1)) c)
      high c h =
          sym (key_level (get_or w3 c 0 / 65536)) ∙ ap key_of (sym (level_at c h)) ∙ ap (λ (l : List ℤ). key_of (at l c)) levels_filled

      pub flooded_words : Words g (sheet_in (size g) w1) w3
      flooded_words c h = let l = low c h in let u = high c h in omega arith
