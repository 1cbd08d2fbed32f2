-- What is worked out where steps leave by another rule than `leaves_at`: the texts of Outlet, Fill and Directions, with `leaves` in its
-- place. So a sheet can be compared with what it was under an earlier reading.
use Rattle.std.specs.Prelude.{◌≡◌, Bool, false, not, cond, ◌&&◌, ◌||◌, List, ℕ, zero, suc, eqb, get_or, ℤ}
use Rattle.grid.specs.declared.Grid.{Grid}
use Rattle.grid.specs.Below.{table, any_below, first_below}
use Rattle.grid.specs.Sheet.{size, void, top, at, is_data, code_at}
use Rattle.grid.specs.Joined.{joined}
use Rattle.grid.specs.Outlet.{is_outlet, outlet_order, outlet_code, first_stranded}
use Rattle.grid.specs.Fill.{pass_at, filled}
use Rattle.grid.specs.Directions.{has_descent, steepest_sum, choice, level_pass_at, flat_sum, directions, first_unlevelled}

-- `leaves c p`: the step from c at position p leaves
module _ (g : Grid) (e : List ℤ) (leaves : ℕ → ℕ → Bool) where
  -- `is_outlet`, `outlet_code`
  unfoldable pub outlet_by : ℕ → Bool
  outlet_by c = is_data e c && any_below 8 (leaves c)

  unfoldable pub outlet_code_by : ℕ → ℕ
  outlet_code_by c = code_at (get_or outlet_order (first_below 8 (λ i. leaves c (get_or outlet_order i 0))) 0)

  -- `drained` and `first_stranded`: question 18
  unfoldable pub stranded_by : ℕ
  stranded_by = let l : List Bool = joined g (is_data e) outlet_by in first_below (size g) (λ c. is_data e c && not (get_or l c false))

  -- `start_at`, `passes`, `filled`; a pass asks for no outlet
  unfoldable pub start_by : ℕ → ℤ
  start_by c = cond (is_data e c) (cond (outlet_by c) (at e c) top) void

  unfoldable pub passes_by : ℕ → List ℤ
  passes_by zero = table (size g) start_by
  passes_by (suc k) = table (size g) (pass_at g e (passes_by k))

  unfoldable pub filled_by : List ℤ
  filled_by = passes_by (size g)

  -- `is_level_zero`, `level_passes`, `levels`
  unfoldable pub level_passes_by : ℕ → List ℕ
  level_passes_by zero = table (size g) (λ c. cond (is_data e c && (outlet_by c || has_descent g e c)) 1 0)
  level_passes_by (suc k) = table (size g) (level_pass_at g e (level_passes_by k) k)

  unfoldable pub levels_by : List ℕ
  levels_by = level_passes_by (size g)

  -- `direction_at`, `directions`, and `first_unlevelled`: question 10
  unfoldable pub direction_by : List ℕ → ℕ → ℕ
  direction_by l c =
      cond (is_data e c)
      (cond (outlet_by c) (outlet_code_by c) (cond (has_descent g e c) (choice (steepest_sum g e c)) (choice (flat_sum g e l c))))
      0

  unfoldable pub directions_by : List ℕ
  directions_by = let l : List ℕ = levels_by in table (size g) (direction_by l)

  unfoldable pub unlevelled_by : ℕ
  unlevelled_by = let l : List ℕ = levels_by in first_below (size g) (λ c. is_data e c && eqb (get_or l c 0) 0)

-- the sheet e is as by that rule: in each cell the same outlets and the same outlet's codes, so the same filled sheet, the same codes, and
-- the same answers to 10 and 18
pub record ReadsBy (g : Grid) (e : List ℤ) (leaves : ℕ → ℕ → Bool) : Type 0 where
  pub outlets : (c : ℕ) → is_outlet g e c ≡ outlet_by g e leaves c
  pub outlet_codes : (c : ℕ) → outlet_code g e c ≡ outlet_code_by g e leaves c
  pub fill : filled g e ≡ filled_by g e leaves
  pub codes : directions g e ≡ directions_by g e leaves
  pub ten : first_unlevelled g e ≡ unlevelled_by g e leaves
  pub eighteen : first_stranded g e ≡ stranded_by g e leaves
