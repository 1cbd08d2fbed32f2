-- Opening cells moves neither voids nor gaps nor outlets, so it strands no cell and frees none.
use mathlib.Core.Path.{◌≡◌, ◌∙◌, ap, ap₂}
use mathlib.Core.Bool.{Bool, false, not, ◌&&◌}
use mathlib.Core.List.{List}
use Prim.Native.Nat.{ℕ}
use lib.ListN.{get_or}
use lib.IntN.{ℤ}
use Rattle.grid.specs.declared.Grid.{Grid}
use Rattle.grid.specs.Below.{first_below}
use Rattle.grid.specs.Sheet.{size, is_data}
use Rattle.grid.specs.Outlet.{is_outlet, drained, first_stranded}
use Rattle.grid.specs.Culverts.{opened}
use Rattle.grid.specs.Sides.{OpenedAlike}
use Rattle.grid_laws.proofs.Below.{first_ext}
use Rattle.grid_laws.proofs.Joined.{same_joined}
use Rattle.grid_laws.proofs.Outlets.{same_gaps, same_outlets}
use Rattle.culvert_laws.proofs.Opened.{AllGood, all_good, opened_data}

module _ (g : Grid) (e : List ℤ) (cells : List ℕ) (levels : List ℤ) (G : AllGood e cells levels) where
  o : List ℤ
  o = opened e cells levels

  data_alike : (c : ℕ) → is_data o c ≡ is_data e c
  unfolding o
  data_alike = opened_data e cells levels G

  outlets_alike : (c : ℕ) → is_outlet g o c ≡ is_outlet g e c
  outlets_alike = same_outlets g o e data_alike

  stranded_alike : first_stranded g o ≡ first_stranded g e
  unfolding first_stranded drained
  stranded_alike =
      ap (λ (l : List Bool). first_below (size g) (λ c. is_data o c && not (get_or l c false)))
      (same_joined g (is_data o) (is_data e) (is_outlet g o) (is_outlet g e) data_alike (λ c h. ap₂ ◌&&◌ (data_alike c) (outlets_alike c)))
      ∙ first_ext (size g) (λ c. is_data o c && not (get_or (drained g e) c false)) (λ c. is_data e c && not (get_or (drained g e) c false))
      (λ c h. ap (λ (t : Bool). t && not (get_or (drained g e) c false)) (data_alike c))

pub opened_alike : OpenedAlike
unfolding o
opened_alike g e cells levels none =
    let G = all_good e cells levels none in (
      data_alike g e cells levels G,
      same_gaps g (opened e cells levels) e (data_alike g e cells levels G),
      outlets_alike g e cells levels G,
      stranded_alike g e cells levels G,
    )
