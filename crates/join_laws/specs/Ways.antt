-- Ways, with no geometry: from a cell by steps to a cell that ends it. And the ways through a set of cells.
use Rattle.std.specs.Prelude.{◌≡◌, Bool, true, List, [], ◌∷◌, ℕ}
use Rattle.grid.specs.declared.Grid.{Grid}
use Rattle.grid.specs.Sheet.{Touch}

-- a way from c: a chain by induction
pub data Way (Out : ℕ → Type 0) (Next : ℕ → ℕ → Type 0) : ℕ → Type 0 where
  stop : {c : ℕ} → Out c → Way Out Next c
  step : {c n : ℕ} → Next c n → Way Out Next n → Way Out Next c

-- the cells of a way, first and last included
unfoldable pub cells : {Out : ℕ → Type 0} {Next : ℕ → ℕ → Type 0} {c : ℕ} → Way Out Next c → List ℕ
cells (stop {c = c} o) = c ∷ []
cells (step {c = c} b w) = c ∷ cells w

-- c is a cell of the set that is joined from the start
abbrev pub First : (ℕ → Bool) → (ℕ → Bool) → ℕ → Type 0
First member first c = (member c ≡ true) × (first c ≡ true)

-- n is a neighbour of c, and both are of the set
abbrev pub Beside : Grid → (ℕ → Bool) → ℕ → ℕ → Type 0
Beside g member c n = (member c ≡ true) × (member n ≡ true) × Touch g c n

-- a way through the set to a cell that is joined from the start
abbrev pub Joins : Grid → (ℕ → Bool) → (ℕ → Bool) → ℕ → Type 0
Joins g member first c = Way (First member first) (Beside g member) c
