-- A neighbour of level 0 of one's own elevation.
use Rattle.std.specs.Prelude.{Bool, ◌&&◌, List, ℕ, eqb, ℤ}
use Rattle.grid.specs.declared.Grid.{Grid}
use Rattle.grid.specs.Sheet.{size, neighbour}
use Rattle.grid.specs.Directions.{is_equal}
use Rattle.flow_laws.specs.Words.{level_in}

-- the neighbour of c at p is an equal one of level 0
unfoldable pub zero_beside : Grid → List ℤ → List ℕ → (c p : ℕ) → Bool
zero_beside g e work c p = is_equal g e c p && eqb (level_in (size g) work (neighbour g c p)) 1
