-- Question 18: where no data cell is stranded, each has a way to an outlet, and the other way round; and ways are chains.
use mathlib.Core.Path.{◌≡◌}
use mathlib.Core.Bool.{true, false, not, ◌&&◌}
use mathlib.Core.Logic.{⊎_elim}
use mathlib.Core.List.{List}
use Prim.Native.Nat.{ℕ}
use lib.ListN.{length, get_or}
use lib.IntN.{ℤ}
use Rattle.grid.specs.declared.Grid.{Grid}
use Rattle.grid.specs.Sheet.{size, is_data, DataCell}
use Rattle.grid.specs.Outlet.{is_outlet, drained, first_stranded}
use Rattle.grid.specs.Sides.{DrainedByChains}
use Rattle.grid_laws.proofs.Tests.{test, T_true, true_T, and_false_left, and_false_right, and_rest_false, not_of_true, not_is_false}
use Rattle.grid_laws.proofs.Below.{first_all, first_none}
use Rattle.grid_laws.proofs.Cells.{on_sheet}
use Rattle.grid_laws.proofs.Outlets.{outlet_data}
use Rattle.join_laws.specs.Ways.{stop, step, cells, Joins}
use Rattle.join_laws.proofs.Joined.{joined_way, way_joined}
use Rattle.fill_laws.proofs.Paths.{WayOut, way_of_path, path_of_way}

module _ (g : Grid) (e : List ℤ) (cells-e : length e ≡ size g) where
  out_of : {c : ℕ} → Joins g (is_data e) (is_outlet g e) c → WayOut g e c
  out_of (stop o) = stop (true_T o.1)
  out_of (step b w) = step (true_T b.0, true_T b.1, b.2) (out_of w)

  into : {c : ℕ} → WayOut g e c → Joins g (is_data e) (is_outlet g e) c
  into (stop {c = c} o) = let q = T_true (is_outlet g e c) o in stop (outlet_data g e c q, q)
  into (step {c = c} {n = n} b w) = step (T_true (is_data e c) b.0, T_true (is_data e n) b.1, b.2) (into w)

  pub drained_way : (c : ℕ) → get_or (drained g e) c false ≡ true → WayOut g e c
  unfolding drained
  drained_way c t = out_of (joined_way g (is_data e) (is_outlet g e) (on_sheet g e cells-e) c t)

  pub way_drained : {c : ℕ} → WayOut g e c → get_or (drained g e) c false ≡ true
  unfolding drained
  way_drained w = way_joined g (is_data e) (is_outlet g e) (on_sheet g e cells-e) (into w)

  pub some_way : first_stranded g e ≡ size g → (c : ℕ) → DataCell e c → WayOut g e c
  unfolding first_stranded
  some_way none c t =
      let d = T_true (is_data e c) t in
      let f = first_all (size g) (λ x. is_data e x && not (get_or (drained g e) x false)) none c (on_sheet g e cells-e c d) in
      drained_way c (not_is_false (get_or (drained g e) c false) (and_rest_false (is_data e c) _ d f))

  pub ways_none : ((c : ℕ) → DataCell e c → WayOut g e c) → first_stranded g e ≡ size g
  unfolding first_stranded
  ways_none ways =
      first_none (size g) (λ x. is_data e x && not (get_or (drained g e) x false))
      (λ c h. ⊎_elim
      (λ d. and_false_right (is_data e c) (not_of_true (way_drained (ways c (true_T d)))))
      (λ v. and_false_left (not (get_or (drained g e) c false)) v)
      (test (is_data e c)))

pub drained_by_chains : DrainedByChains
drained_by_chains g e cells-e c =
    (λ t. let w = drained_way g e cells-e c t in (cells w, path_of_way g e w), λ l p. way_drained g e cells-e (way_of_path g e c l p).0)
