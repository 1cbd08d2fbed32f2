-- Where outlets and their codes are those of another rule by which steps leave, so is all that is worked out from them.
use mathlib.Core.Path.{◌≡◌, refl, ◌∙◌, ap, ap₂}
use mathlib.Core.Bool.{Bool, false, not, cond, ◌&&◌, ◌||◌}
use mathlib.Core.List.{List}
use Prim.Native.Nat.{ℕ, zero, suc}
use lib.Dec.{eqb}
use lib.ListN.{get_or}
use lib.IntN.{ℤ}
use Rattle.grid.specs.declared.Grid.{Grid}
use Rattle.grid.specs.Below.{table, first_below}
use Rattle.grid.specs.Sheet.{size, void, top, at, is_data}
use Rattle.grid.specs.Outlet.{is_outlet, outlet_code, drained, first_stranded}
use Rattle.grid.specs.Fill.{start_at, pass_at, passes, filled}
use Rattle.grid.specs.Directions.{has_descent, steepest_sum, choice, is_level_zero, level_pass_at, level_passes, levels, flat_sum}
use Rattle.grid.specs.Directions.{direction_at, directions, first_unlevelled}
use Rattle.grid.specs.Readings.{outlet_by, outlet_code_by, stranded_by, start_by, passes_by, filled_by, level_passes_by, levels_by}
use Rattle.grid.specs.Readings.{direction_by, directions_by, unlevelled_by, ReadsBy}
use Rattle.grid_laws.proofs.Below.{table_ext}
use Rattle.grid_laws.proofs.Joined.{same_joined}

module _ (g : Grid) (e : List ℤ) (leaves : ℕ → ℕ → Bool) (outlet : (c : ℕ) → is_outlet g e c ≡ outlet_by g e leaves c) where
  same_stranded : first_stranded g e ≡ stranded_by g e leaves
  unfolding first_stranded drained stranded_by
  same_stranded =
      ap (λ (l : List Bool). first_below (size g) (λ c. is_data e c && not (get_or l c false)))
      (same_joined g (is_data e) (is_data e) (is_outlet g e) (outlet_by g e leaves) (λ c. refl)
      (λ c h. ap (λ (t : Bool). is_data e c && t) (outlet c)))

  same_passes : (k : ℕ) → passes g e k ≡ passes_by g e leaves k
  unfolding passes passes_by start_at start_by
  same_passes zero =
      table_ext (size g) (start_at g e) (start_by g e leaves)
      (λ c h. ap (λ (t : Bool). cond (is_data e c) (cond t (at e c) top) void) (outlet c))
  same_passes (suc k) = ap (λ (f : List ℤ). table (size g) (pass_at g e f)) (same_passes k)

  same_fill : filled g e ≡ filled_by g e leaves
  unfolding filled filled_by
  same_fill = same_passes (size g)

  same_level_passes : (k : ℕ) → level_passes g e k ≡ level_passes_by g e leaves k
  unfolding level_passes level_passes_by is_level_zero
  same_level_passes zero =
      table_ext (size g) (λ c. cond (is_level_zero g e c) 1 0) (λ c. cond (is_data e c && (outlet_by g e leaves c || has_descent g e c)) 1 0)
      (λ c h. ap (λ (t : Bool). cond (is_data e c && (t || has_descent g e c)) 1 0) (outlet c))
  same_level_passes (suc k) = ap (λ (l : List ℕ). table (size g) (level_pass_at g e l k)) (same_level_passes k)

  same_levels : levels g e ≡ levels_by g e leaves
  unfolding levels levels_by
  same_levels = same_level_passes (size g)

  same_unlevelled : first_unlevelled g e ≡ unlevelled_by g e leaves
  unfolding first_unlevelled unlevelled_by
  same_unlevelled = ap (λ (l : List ℕ). first_below (size g) (λ c. is_data e c && eqb (get_or l c 0) 0)) same_levels

  module _ (code : (c : ℕ) → outlet_code g e c ≡ outlet_code_by g e leaves c) where
    same_direction : (l : List ℕ) (c : ℕ) → direction_at g e l c ≡ direction_by g e leaves l c
    unfolding direction_at direction_by
    same_direction l c =
        ap₂
        (λ (o : Bool) (k : ℕ). cond (is_data e c)
        (cond o k (cond (has_descent g e c) (choice (steepest_sum g e c)) (choice (flat_sum g e l c)))) 0)
        (outlet c) (code c)

    same_directions : directions g e ≡ directions_by g e leaves
    unfolding directions directions_by
    same_directions =
        table_ext (size g) (direction_at g e (levels g e)) (direction_by g e leaves (levels g e)) (λ c h. same_direction (levels g e) c)
        ∙ ap (λ (l : List ℕ). table (size g) (direction_by g e leaves l)) same_levels

    pub reads_by : ReadsBy g e leaves
    reads_by =
        record {
          outlets = outlet;
          outlet_codes = code;
          fill = same_fill;
          codes = same_directions;
          ten = same_unlevelled;
          eighteen = same_stranded;
        }
