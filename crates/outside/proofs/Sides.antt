-- The cells of the four sides: those from which the straight step across the side leads off the sheet, and they alone.
use mathlib.Core.Path.{◌≡◌, ap}
use mathlib.Core.Logic.{◌⊎◌, inl, inr}
use Prim.Native.Nat.{ℕ, ◌+◌, ◌-◌, ◌*◌, ◌/◌, ◌%◌, ◌<◌}
use native.Mathlib.Nat.{div-add-mod'}
use native.Mathlib.Omega.{arith}
use native.Mathlib.Decide.{ℕ_discrete}
use lib.Arith.{digits_div, digits_mod, digits_lt}
use Rattle.grid.specs.declared.Grid.{Grid}
use Rattle.grid.specs.Sheet.{size, neighbour}
use Rattle.grid_laws.proofs.Neighbours.{Stays, down, right, neighbour_off, neighbour_on}
use Rattle.cells.proofs.Within.{row_on, col_on}
use Rattle.outside.specs.Seeds.{Side}

-- the cell in row r and column q, from which the step at p leads off the sheet
at_side : (g : Grid) (p r q : ℕ) → p < 8 → r < g.rows → q < g.cols
    → (r + down p < 1) ⊎ ((g.rows < r + down p) ⊎ ((q + right p < 1) ⊎ (g.cols < q + right p)))
    → (c : ℕ) → c ≡ r * g.cols + q → (c < size g) × (neighbour g c p ≡ size g)
at_side g p r q hp hr hq off c e =
    rw e (digits_lt hr hq, neighbour_off g (r * g.cols + q) p hp (rw (digits_div r hq, digits_mod r hq) off))

-- a step that stays on the sheet does not lead off it
not_off : (g : Grid) (c p : ℕ) → p < 8 → neighbour g c p ≡ size g → Stays g c p → ⊥
not_off g c p hp out s = let h = neighbour_on g c p hp s in omega arith

module _ (g : Grid) (some_rows : 0 < g.rows) (some-cols : 0 < g.cols) where
  module _ (c : ℕ) (on : c < size g) where
    row : c / g.cols < g.rows
    row = row_on g c on

    col : c % g.cols < g.cols
    col = col_on g c on

    west_col : neighbour g c 5 ≡ size g → c % g.cols ≡ 0
    west_col out = go (ℕ_discrete (c % g.cols) 0)
      where
        go : Dec (c % g.cols ≡ 0) → c % g.cols ≡ 0
        go (yes q) = q
        go (no f) =
            let r = row in
            let k = col in
            absurd (not_off g c 5 (omega arith) out
            record { low = omega arith; high = omega arith; left_most = omega arith; right_most = omega arith })

    east_col : neighbour g c 1 ≡ size g → c % g.cols ≡ g.cols - 1
    east_col out = go (ℕ_discrete (c % g.cols) (g.cols - 1))
      where
        go : Dec (c % g.cols ≡ g.cols - 1) → c % g.cols ≡ g.cols - 1
        go (yes q) = q
        go (no f) =
            let r = row in
            let k = col in
            absurd (not_off g c 1 (omega arith) out
            record { low = omega arith; high = omega arith; left_most = omega arith; right_most = omega arith })

    north_row : neighbour g c 7 ≡ size g → c / g.cols ≡ 0
    north_row out = go (ℕ_discrete (c / g.cols) 0)
      where
        go : Dec (c / g.cols ≡ 0) → c / g.cols ≡ 0
        go (yes q) = q
        go (no f) =
            let r = row in
            let k = col in
            absurd (not_off g c 7 (omega arith) out
            record { low = omega arith; high = omega arith; left_most = omega arith; right_most = omega arith })

    south_row : neighbour g c 3 ≡ size g → c / g.cols ≡ g.rows - 1
    south_row out = go (ℕ_discrete (c / g.cols) (g.rows - 1))
      where
        go : Dec (c / g.cols ≡ g.rows - 1) → c / g.cols ≡ g.rows - 1
        go (yes q) = q
        go (no f) =
            let r = row in
            let k = col in
            absurd (not_off g c 3 (omega arith) out
            record { low = omega arith; high = omega arith; left_most = omega arith; right_most = omega arith })

  pub west : Side g 5 0 g.cols g.rows
  west =
      record {
        there = λ i h. at_side g 5 i 0 (omega arith) h some-cols (inr (inr (inl (omega arith)))) (0 + i * g.cols) (omega arith);
        all = λ c on out. (c / g.cols, row c on, (let q = west_col c on out in omega (arith, div-add-mod' c g.cols)));
      }

  pub east : Side g 1 (g.cols - 1) g.cols g.rows
  east =
      record {
        there = λ i h. at_side g 1 i (g.cols - 1) (omega arith) h (omega arith) (inr (inr (inr (omega arith))))
            (g.cols - 1 + i * g.cols) (omega arith);
        all = λ c on out. (c / g.cols, row c on, (let q = east_col c on out in omega (arith, div-add-mod' c g.cols)));
      }

  pub north : Side g 7 0 1 g.cols
  north =
      record {
        there = λ i h. at_side g 7 0 i (omega arith) some_rows h (inl (omega arith)) (0 + i * 1) (omega arith);
        all = λ c on out. (
          c % g.cols,
          col c on,
          (let q : c / g.cols * g.cols ≡ 0 * g.cols = ap (λ (x : ℕ). x * g.cols) (north_row c on out) in
              omega (arith, div-add-mod' c g.cols)),
        );
      }

  pub south : Side g 3 ((g.rows - 1) * g.cols) 1 g.cols
  south =
      record {
        there = λ i h. at_side g 3 (g.rows - 1) i (omega arith) (omega arith) h (inr (inl (omega arith)))
            ((g.rows - 1) * g.cols + i * 1) (omega arith);
        all = λ c on out. (
          c % g.cols,
          col c on,
          (let q : c / g.cols * g.cols ≡ (g.rows - 1) * g.cols = ap (λ (x : ℕ). x * g.cols) (south_row c on out) in
              omega (arith, div-add-mod' c g.cols)),
        );
      }
