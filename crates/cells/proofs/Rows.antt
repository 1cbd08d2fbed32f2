-- The rows of a sheet: where they lie, and which cells of a row lie within the border.
use mathlib.Core.Path.{◌≡◌, ◌∙◌, ap}
use Prim.Native.Nat.{ℕ, ◌+◌, ◌-◌, ◌*◌, ◌/◌, ◌%◌, ◌≤◌, ◌<◌}
use native.Mathlib.Nat.{suc-mul, mul-le-mul_right, le-mul_of_pos_right}
use native.Mathlib.Omega.{arith}
use lib.Arith.{digits_div, digits_mod}
use Rattle.grid.specs.declared.Grid.{Grid}
use Rattle.grid.specs.Sheet.{size}
use Rattle.cells.specs.Steps.{Inner}

module _ (g : Grid) where
  -- the cell in a row and a column
  row_is : (c row col : ℕ) → c ≡ row * g.cols + col → col < g.cols → c / g.cols ≡ row
  row_is c row col e h = ap (λ (x : ℕ). x / g.cols) e ∙ digits_div row h

  col_is : (c row col : ℕ) → c ≡ row * g.cols + col → col < g.cols → c % g.cols ≡ col
  col_is c row col e h = ap (λ (x : ℕ). x % g.cols) e ∙ digits_mod row h

  pub next_row : (row : ℕ) → (row + 1) * g.cols ≡ row * g.cols + g.cols
  next_row row = ap (λ (x : ℕ). x * g.cols) (omega arith) ∙ suc-mul row g.cols

  pub rows_small : 0 < g.cols → g.rows ≤ size g
  rows_small h = le-mul_of_pos_right g.rows h

  pub row_whole : (row : ℕ) → row + 1 ≤ g.rows → row * g.cols + g.cols ≤ size g
  row_whole row h =
      let a = next_row row in
      let m : (row + 1) * g.cols ≤ g.rows * g.cols = mul-le-mul_right g.cols h in
      omega arith

  pub row_on : (row : ℕ) → row + 2 ≤ g.rows → row * g.cols + g.cols + g.cols ≤ size g
  row_on row h =
      let a = next_row row in
      let b = row_whole (row + 1) (omega arith) in
      omega arith

  pub within_row : (row : ℕ) → 1 ≤ row → row + 2 ≤ g.rows → (c : ℕ) → row * g.cols + 1 ≤ c → c + 1 < row * g.cols + g.cols →
      Inner g (c / g.cols) (c % g.cols)
  within_row row a b c h k =
      let r = row_is c row (c - row * g.cols) (omega arith) (omega arith) in
      let q = col_is c row (c - row * g.cols) (omega arith) (omega arith) in
      (omega arith, omega arith, omega arith, omega arith)
