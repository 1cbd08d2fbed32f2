-- The marks of voids in a work buffer, from the place base on: 2 where the void is outside, 1 where it is a gap. What stands at a data cell
-- says nothing, so that a sheet without voids needs no marks.
use Rattle.std.specs.Prelude.{◌≡◌, true, cond, List, ℕ, ◌+◌, get_or, ℤ}
use Rattle.grid.specs.declared.Grid.{Grid}
use Rattle.grid.specs.Outlet.{is_void, is_outside}

abbrev pub Marked : Grid → List ℤ → (base : ℕ) → List ℕ → Type 0
Marked g e base work = (c : ℕ) → is_void g e c ≡ true → get_or work (base + c) 0 ≡ cond (is_outside g e c) 2 1
