-- The columns at the end of the scan are those of the promise.
use mathlib.Core.Path.{◌≡◌, sym, ◌∙◌}
use mathlib.Core.List.{List, ◌++◌}
use Prim.Native.Nat.{ℕ, ◌+◌, ◌≤◌, ◌<◌}
use native.Mathlib.Omega.{arith}
use lib.Dec.{eqb}
use lib.ListN.{length, get_or, drop, get_or-append}
use lib.IntN.{ℤ, pos}
use borrow.Author.Tests.{eqb-true, eq-eqb}
use Rattle.grid.specs.declared.Grid.{Grid}
use Rattle.grid.specs.Below.{table, sum_below, first_below}
use Rattle.grid.specs.Sheet.{size, void, at, SixteenBits}
use Rattle.grid.specs.Fill.{filled}
use Rattle.grid.specs.Ponds.{ponds, pond_count, depth, pond_level, pond_cells, pond_volume}
use Rattle.grid_laws.proofs.Lists.{any_default, overwritten}
use Rattle.grid_laws.proofs.Below.{at_table, length_table, sum_ext, first_found, first_least}
use Rattle.pond_laws.specs.Gathered.{Column, Gathered}
use Rattle.pond_laws.proofs.Level.{same_number, some_cell, number_≤}
use Rattle.pond_laws.proofs.Total.{total}

-- ---- one column: its values first, and the rest as it was
module _ {A : Type 0} (d : A) (count : ℕ) (value : ℕ → A) where
  pub column_front : (old : List A) (k : ℕ) → k < count → get_or (table count value ++ drop count old) k d ≡ value k
  column_front old k h =
      get_or-append (table count value) (drop count old) d k (let q = length_table count value in omega arith)
      ∙ at_table count value k d h

  pub column_whole : {old new : List A} → Column d count old new → count ≤ length old →
      ((k : ℕ) → k < count → get_or new k d ≡ value k) → new ≡ table count value ++ drop count old
  column_whole {old} C h v =
      overwritten d (table count value) old (length_table count value) h C.same_length
      (λ k l. v k l ∙ sym (at_table count value k d l)) C.past

module _ (g : Grid) (e : List ℤ) (long : length e ≡ size g) (range : SixteenBits e) where
  abbrev f : List ℤ
  f = filled g e

  abbrev l : List ℕ
  l = ponds g e

  -- the first cell of the number k + 1
  abbrev cell : ℕ → ℕ
  cell k = first_below (size g) (λ c. eqb (get_or l c 0) (k + 1))

  cell_on : (k : ℕ) → k < pond_count g e → cell k < size g
  cell_on k h =
      let w = some_cell g e long range k h in
      let a = first_least (size g) (λ c. eqb (get_or l c 0) (k + 1)) w.0 (eq-eqb (get_or l w.0 0) (k + 1) w.2) in
      let b = w.1 in
      omega arith

  cell_numbered : (k : ℕ) → k < pond_count g e → get_or l (cell k) 0 ≡ k + 1
  cell_numbered k h = eqb-true (get_or l (cell k) 0) (k + 1) (first_found (size g) (λ c. eqb (get_or l c 0) (k + 1)) (cell_on k h))

  module _ {level₀ level : List ℤ} {cells₀ cells volume₀ volume : List ℕ}
      (G : Gathered e (filled g e) (ponds g e) (pond_count g e) (size g) level₀ level cells₀ cells volume₀ volume) where
    pub level_column : pond_count g e ≤ length level₀ →
        level ≡ table (pond_count g e) (pond_level g (filled g e) (ponds g e)) ++ drop (pond_count g e) level₀
    unfolding pond_level
    level_column h =
        column_whole (pos 0) (pond_count g e) (pond_level g f l) G.level_column h
        (λ k b. any_default level k (pos 0) void (let q = G.level_column.same_length in omega arith)
        ∙ G.levels (cell k) k (cell_on k b) (cell_numbered k b))

    pub cells_column : pond_count g e ≤ length cells₀ →
        cells ≡ table (pond_count g e) (pond_cells g (ponds g e)) ++ drop (pond_count g e) cells₀
    unfolding pond_cells
    cells_column h = column_whole 0 (pond_count g e) (pond_cells g l) G.cells_column h G.counts

    pub volume_column : pond_count g e ≤ length volume₀ →
        volume ≡ table (pond_count g e) (pond_volume g e (filled g e) (ponds g e)) ++ drop (pond_count g e) volume₀
    unfolding pond_volume
    volume_column h = column_whole 0 (pond_count g e) (pond_volume g e f l) G.volume_column h G.volumes

  pub one_level : (level₀ : List ℤ) (c k : ℕ) → get_or (ponds g e) c 0 ≡ k + 1 →
      at (filled g e) c ≡ at (table (pond_count g e) (pond_level g (filled g e) (ponds g e)) ++ drop (pond_count g e) level₀) k
  unfolding pond_level
  one_level level₀ c k q =
      let n = number_≤ g e long range c in
      let h : k < pond_count g e = omega arith in
      same_number g e long range c (cell k) k q (cell_numbered k h)
      ∙ sym (column_front void (pond_count g e) (pond_level g f l) level₀ k h)

  pub total_column : (volume₀ : List ℕ) →
      sum_below (pond_count g e)
      (λ k. get_or (table (pond_count g e) (pond_volume g e (filled g e) (ponds g e)) ++ drop (pond_count g e) volume₀) k 0)
      ≡ sum_below (size g) (depth e (filled g e))
  total_column volume₀ =
      sum_ext (pond_count g e) (λ k. get_or (table (pond_count g e) (pond_volume g e f l) ++ drop (pond_count g e) volume₀) k 0)
      (λ k. pond_volume g e f l k) (column_front 0 (pond_count g e) (pond_volume g e f l) volume₀)
      ∙ total g e long range
