-- Where every data cell has a level, the codes lead each to an outlet, so none is stranded: a yes to question 10 is one to 18.
use mathlib.Core.Path.{◌≡◌, refl}
use mathlib.Core.Bool.{true, ◌&&◌}
use mathlib.Core.Logic.{⊎_elim}
use mathlib.Core.List.{List}
use Prim.Native.Nat.{ℕ, zero, suc, ◌<◌}
use native.Mathlib.Omega.{arith}
use lib.Dec.{eqb}
use lib.ListN.{length, get_or}
use lib.IntN.{ℤ}
use lib.Signed.{lt_z, ◌≤ℤ◌, ◌<ℤ◌, ≤ℤ_refl, clash_ℤ}
use borrow.Author.Tests.{eqb-false}
use Rattle.grid.specs.declared.Grid.{Grid}
use Rattle.grid.specs.Below.{count_below}
use Rattle.grid.specs.Sheet.{size, at, is_data, DataCell, Touch}
use Rattle.grid.specs.Outlet.{is_outlet, first_stranded}
use Rattle.grid.specs.Directions.{levels, directions, first_unlevelled}
use Rattle.grid.specs.Routes.{position_at, receiver}
use Rattle.grid_laws.proofs.Tests.{test, T_true, true_T, not_false_true, and_rest_false}
use Rattle.grid_laws.proofs.Below.{positive, first_all, count_fewer}
use Rattle.grid_laws.proofs.Order.{≤ℤ-trans, <ℤ→≤ℤ, ≤ℤ-not-<, not_<_≤ℤ}
use Rattle.grid_laws.proofs.Cells.{on_sheet}
use Rattle.flow_laws.specs.Leads.{LeadsDown}
use Rattle.flow_laws.proofs.Agree.{levels_certified}
use Rattle.flow_laws.proofs.Leads.{leads_down}
use Rattle.flow_laws.proofs.Drained.{rank_of, rank_falls}
use Rattle.join_laws.specs.Ways.{stop, step}
use Rattle.fill_laws.proofs.Paths.{WayOut}
use Rattle.fill_laws.proofs.Reach.{ways_none}

module _ (g : Grid) (e : List ℤ) (len : length e ≡ size g) (levelled : first_unlevelled g e ≡ size g) where
  has_level : (c : ℕ) → is_data e c ≡ true → 0 < get_or (levels g e) c 0
  unfolding first_unlevelled
  has_level c d =
      let f = first_all (size g) (λ x. is_data e x && eqb (get_or (levels g e) x 0) 0) levelled c (on_sheet g e len c d) in
      positive (get_or (levels g e) c 0) (eqb-false (get_or (levels g e) c 0) 0 (and_rest_false (is_data e c) _ d f))

  -- how many cells are lower
  height : ℤ → ℕ
  height z = count_below (size g) (λ x. lt_z (at e x) z)

  height_falls : (c d : ℕ) → is_data e d ≡ true → at e d <ℤ at e c → height (at e d) < height (at e c)
  unfolding height
  height_falls c d t h =
      count_fewer (size g) (λ x. lt_z (at e x) (at e d)) (λ x. lt_z (at e x) (at e c)) d (on_sheet g e len d t)
      (≤ℤ-not-< (≤ℤ_refl (at e d))) (T_true (lt_z (at e d) (at e c)) h.lt)
      (λ x k. not_false_true (lt_z (at e x) (at e c))
      (λ n. let below : at e x <ℤ at e d = record { lt = true_T k } in
      let above : at e d ≤ℤ at e x = ≤ℤ-trans (<ℤ→≤ℤ h) (not_<_≤ℤ {a = at e c} {b = at e x} n) in
      clash_ℤ below above))

  rank : ℕ → ℕ
  rank = rank_of g e len height

  touch : (c : ℕ) → LeadsDown g e (directions g e) (levels g e) c → Touch g c (receiver g (directions g e) c)
  unfolding receiver
  touch c L = (position_at (directions g e) c, L.position, refl)

  down : (m c : ℕ) → rank c < m → DataCell e c → WayOut g e c
  unfolding rank
  down zero c h t = let z : ⊥ = omega arith in absurd z
  down (suc m) c h t =
      ⊎_elim
      (λ o. stop (true_T o))
      (λ o. let d = T_true (is_data e c) t in
      let L = leads_down g e len (levels g e) (levels_certified g e len) c d o (has_level c d) in
      let f = rank_falls g e len height c d o (has_level c d) (λ n k. height_falls c n k) in
      step (t, true_T L.to_data, touch c L) (down m (receiver g (directions g e) c) (omega arith) (true_T L.to_data)))
      (test (is_outlet g e c))

  pub levelled_reach : first_stranded g e ≡ size g
  levelled_reach = ways_none g e len (λ c t. down (suc (rank c)) c (omega arith) t)
