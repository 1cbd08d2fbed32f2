-- Outlets, fill and levels read rows, columns and closed sides alone; of a code only the sum of the largest drops goes by the shape.
use mathlib.Core.Path.{◌≡◌, refl, sym, ◌∙◌, ap, ap₂, subst, fun_ext}
use mathlib.Core.Bool.{Bool, true, false, not, cond, ◌&&◌, ◌||◌}
use mathlib.Core.List.{List, [], ◌∷◌}
use Prim.Native.Nat.{ℕ, zero, suc, ◌+◌, ◌*◌}
use lib.Dec.{T, eqb, leb}
use lib.ListN.{get_or}
use lib.IntN.{ℤ}
use borrow.Author.Tests.{leb-true}
use Rattle.grid.specs.declared.Grid.{Grid}
use Rattle.grid.specs.Below.{table, any_below, count_below, first_below, last_of}
use Rattle.grid.specs.Sheet.{size, void, top, at, is_data, code_at, neighbour, cell_at, Chain}
use Rattle.grid.specs.Joined.{join_pass, join_passes, joined}
use Rattle.grid.specs.Outlet.{is_open, is_void, on_open_side, outside, is_outside, leaves_at, is_outlet, outlet_order, outlet_code, drained}
use Rattle.grid.specs.Outlet.{first_stranded}
use Rattle.grid.specs.Fill.{start_at, lowest_to, pass_at, passes, filled}
use Rattle.grid.specs.Directions.{drop_to, is_equal, has_descent, is_level_zero, level_pass_at, level_passes, levels, flat_sum, choice, steepest_sum}
use Rattle.grid.specs.Directions.{direction_at, directions, first_unlevelled}
use Rattle.grid.specs.Routes.{receiver, route, count_at, label_at, counts, labels, watersheds}
use Rattle.grid.specs.Ponds.{is_wet, pond_of, lowest_cell, is_lowest, ponds, pond_count}
use Rattle.grid.specs.Guarantee.{PathToOutlet, DrainedSheet}
use Rattle.grid.specs.Checks.{in_shape}
use Rattle.grid.specs.Shapes.{reshaped, SquareCells, AnyUnit, AnyShape}
use Rattle.grid_laws.proofs.Tests.{and_left, and_right}
use Rattle.grid_laws.proofs.Below.{table_ext}
use Rattle.grid_laws.proofs.Joined.{same_joined}
use Rattle.shape_laws.specs.Shaped.{Shaped}
use Rattle.shape_laws.proofs.Squares.{square_sum, unit_sum}

-- what a yes to 20 says
pub shaped_of : (g : Grid) → (in_shape g.width && in_shape g.height) ≡ true → Shaped g
unfolding in_shape
shaped_of g y =
    let w = and_left (in_shape g.width) (in_shape g.height) y in
    let h = and_right (in_shape g.width) (in_shape g.height) y in
    record {
      width_low = leb-true 1 g.width (and_left (leb 1 g.width) (leb g.width 1000) w);
      width_high = leb-true g.width 1000 (and_right (leb 1 g.width) (leb g.width 1000) w);
      height_low = leb-true 1 g.height (and_left (leb 1 g.height) (leb g.height 1000) h);
      height_high = leb-true g.height 1000 (and_right (leb 1 g.height) (leb g.height 1000) h);
    }

module _ (g : Grid) (width height : ℕ) (e : List ℤ) where
  abbrev other : Grid
  other = reshaped g width height

  same_join_passes : (member first : ℕ → Bool) (k : ℕ) → join_passes other member first k ≡ join_passes g member first k
  unfolding join_passes join_pass neighbour cell_at
  same_join_passes member first zero = refl
  same_join_passes member first (suc k) =
      ap (λ (l : List Bool). table (size g) (join_pass g member first l)) (same_join_passes member first k)

  same_outside : outside other e ≡ outside g e
  unfolding outside joined is_void on_open_side is_open neighbour cell_at
  same_outside = same_join_passes (is_void g e) (on_open_side g) (size g)

  pub same_outlet : (c : ℕ) → is_outlet other e c ≡ is_outlet g e c
  unfolding is_outlet leaves_at is_outside is_open neighbour cell_at
  same_outlet c =
      ap (λ (o : List Bool). is_data e c
      && any_below 8 (λ p. cond (eqb (neighbour g c p) (size g)) (is_open g p) (get_or o (neighbour g c p) false))) same_outside

  pub same_outlet_code : (c : ℕ) → outlet_code other e c ≡ outlet_code g e c
  unfolding outlet_code leaves_at is_outside is_open neighbour cell_at
  same_outlet_code c =
      ap (λ (o : List Bool). code_at (get_or outlet_order (first_below 8
      (λ i. cond (eqb (neighbour g c (get_or outlet_order i 0)) (size g)) (is_open g (get_or outlet_order i 0))
      (get_or o (neighbour g c (get_or outlet_order i 0)) false))) 0)) same_outside

module _ (g : Grid) (width height : ℕ) (e : List ℤ) where
  abbrev other' : Grid
  other' = reshaped g width height

  same_stranded : first_stranded other' e ≡ first_stranded g e
  unfolding first_stranded drained joined
  same_stranded =
      ap (λ (l : List Bool). first_below (size g) (λ c. is_data e c && not (get_or l c false)))
      (same_join_passes g width height e (is_data e) (is_outlet other' e) (size g)
      ∙ same_joined g (is_data e) (is_data e) (is_outlet other' e) (is_outlet g e) (λ c. refl)
      (λ c h. ap (λ (t : Bool). is_data e c && t) (same_outlet g width height e c)))

  same_passes : (k : ℕ) → passes other' e k ≡ passes g e k
  unfolding passes pass_at lowest_to start_at neighbour cell_at
  same_passes zero =
      table_ext (size g) (start_at other' e) (start_at g e)
      (λ c h. ap (λ (t : Bool). cond (is_data e c) (cond t (at e c) top) void) (same_outlet g width height e c))
  same_passes (suc k) = ap (λ (f : List ℤ). table (size g) (pass_at g e f)) (same_passes k)

  same_fill : filled other' e ≡ filled g e
  unfolding filled
  same_fill = same_passes (size g)

  same_level_passes : (k : ℕ) → level_passes other' e k ≡ level_passes g e k
  unfolding level_passes level_pass_at is_level_zero has_descent drop_to is_equal neighbour cell_at
  same_level_passes zero =
      table_ext (size g) (λ c. cond (is_level_zero other' e c) 1 0) (λ c. cond (is_level_zero g e c) 1 0)
      (λ c h. ap (λ (t : Bool). cond (is_data e c && (t || has_descent g e c)) 1 0) (same_outlet g width height e c))
  same_level_passes (suc k) = ap (λ (l : List ℕ). table (size g) (level_pass_at g e l k)) (same_level_passes k)

  same_levels : levels other' e ≡ levels g e
  unfolding levels
  same_levels = same_level_passes (size g)

  same_unlevelled : first_unlevelled other' e ≡ first_unlevelled g e
  unfolding first_unlevelled
  same_unlevelled = ap (λ (l : List ℕ). first_below (size g) (λ c. is_data e c && eqb (get_or l c 0) 0)) same_levels

  same_pond_of : pond_of other' e ≡ pond_of g e
  unfolding pond_of joined
  same_pond_of = fun_ext (λ f. fun_ext (λ c. same_join_passes g width height e (is_wet e f) (eqb c) (size g)))

  same_ponds : ponds other' e ≡ ponds g e
  unfolding ponds lowest_cell is_lowest
  same_ponds =
      ap₂ (λ (f : List ℤ) (pond : List ℤ → ℕ → List Bool).
      table (size g) (λ c. cond (is_wet e f c) (count_below (first_below (size g) (λ d. get_or (pond f c) d false))
      (λ x. eqb (first_below (size g) (λ d. get_or (pond f x) d false)) x) + 1) 0))
      same_fill same_pond_of

  same_pond_count : pond_count other' e ≡ pond_count g e
  unfolding pond_count lowest_cell is_lowest
  same_pond_count =
      ap₂ (λ (f : List ℤ) (pond : List ℤ → ℕ → List Bool).
      count_below (size g) (λ x. eqb (first_below (size g) (λ d. get_or (pond f x) d false)) x))
      same_fill same_pond_of

  -- chains, rival routes and rival sheets
  chain_to : (l : List ℕ) → Chain other' e l → Chain g e l
  unfolding neighbour cell_at
  chain_to [] h = h
  chain_to (c ∷ []) h = h
  chain_to (c ∷ d ∷ l) h = (h.0, h.1, chain_to (d ∷ l) h.2)

  path_to : (c : ℕ) (l : List ℕ) → PathToOutlet other' e c l → PathToOutlet g e c l
  path_to c l p =
      let o = subst T (same_outlet g width height e (last_of l (size g))) p.outlet in
      record { starts = p.starts; chain = chain_to l p.chain; outlet = o }

  drained_to : (f : List ℤ) → DrainedSheet other' e f → DrainedSheet g e f
  drained_to f D =
      record {
        cells = D.cells;
        voids = D.voids;
        outlets = λ c h. sym (same_outlet g width height f c) ∙ D.outlets c h ∙ same_outlet g width height e c;
        above = D.above;
        drains = λ c d. let w = D.drains c d in (w.0, path_to c w.0 w.1, w.2);
      }

  same_flat_sum : (l : List ℕ) (c : ℕ) → flat_sum other' e l c ≡ flat_sum g e l c
  unfolding flat_sum is_equal neighbour cell_at
  same_flat_sum l c = refl

module _ (g : Grid) (width height : ℕ) (codes : List ℕ) where
  same_route : (c : ℕ) → route (reshaped g width height) codes c ≡ route g codes c
  unfolding receiver neighbour cell_at
  same_route c = refl

  same_counts : counts (reshaped g width height) codes ≡ counts g codes
  unfolding counts count_at receiver neighbour cell_at
  same_counts = refl

  same_labels : labels (reshaped g width height) codes ≡ labels g codes
  unfolding labels label_at receiver neighbour cell_at
  same_labels = refl

  same_watersheds : (starts : List ℕ) → watersheds (reshaped g width height) codes starts ≡ watersheds g codes starts
  unfolding watersheds receiver neighbour cell_at
  same_watersheds starts = refl

-- back goes by the shape that there was
pub any_shape : AnyShape
any_shape g width height e =
    record {
      outlets = same_outlet g width height e;
      outlet_codes = same_outlet_code g width height e;
      eighteen = same_stranded g width height e;
      fill = same_fill g width height e;
      paths = path_to g width height e;
      paths_back = path_to (reshaped g width height) g.width g.height e;
      drained = drained_to g width height e;
      drained_back = drained_to (reshaped g width height) g.width g.height e;
      ponds = same_ponds g width height e;
      pond_count = same_pond_count g width height e;
      flats = same_levels g width height e;
      flat_sums = same_flat_sum g width height e;
      ten = same_unlevelled g width height e;
      routes = same_route g width height;
      counts = same_counts g width height;
      labels = same_labels g width height;
      watersheds = same_watersheds g width height;
    }

-- codes with the same sums
module _ (g : Grid) (width height : ℕ) (e : List ℤ)
    (same : (c : ℕ) → steepest_sum g e c ≡ steepest_sum (reshaped g width height) e c) where
  same_code : (l : List ℕ) (c : ℕ) → direction_at g e l c ≡ direction_at (reshaped g width height) e l c
  unfolding direction_at has_descent drop_to flat_sum is_equal neighbour cell_at
  same_code l c =
      ap (λ (s : ℕ). cond (is_data e c)
      (cond (is_outlet g e c) (outlet_code g e c) (cond (has_descent g e c) (choice s) (choice (flat_sum g e l c)))) 0) (same c)
      ∙ ap₂ (λ (o : Bool) (k : ℕ). cond (is_data e c)
      (cond o k (cond (has_descent g e c) (choice (steepest_sum (reshaped g width height) e c)) (choice (flat_sum g e l c)))) 0)
      (sym (same_outlet g width height e c)) (sym (same_outlet_code g width height e c))

  same_codes : directions g e ≡ directions (reshaped g width height) e
  unfolding directions
  same_codes =
      table_ext (size g) (direction_at g e (levels g e)) (direction_at (reshaped g width height) e (levels g e))
      (λ c h. same_code (levels g e) c)
      ∙ ap (λ (l : List ℕ). table (size g) (direction_at (reshaped g width height) e l)) (sym (same_levels g width height e))

pub square_cells : SquareCells
square_cells g e square wide = same_codes g 1 1 e (square_sum g square wide e)

pub any_unit : AnyUnit
any_unit g e k above = same_codes (reshaped g (k * g.width) (k * g.height)) g.width g.height e (unit_sum g k above e)
