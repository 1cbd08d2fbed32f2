-- The state of the look at the eight neighbours of the queue's first.
use Rattle.std.specs.Prelude.{◌≡◌, true, List, ℕ, ◌+◌, ◌<◌, get_or, take, ℤ}
use Rattle.grid.specs.declared.Grid.{Grid}
use Rattle.grid.specs.Sheet.{size, neighbour}
use Rattle.grid.specs.Directions.{is_equal}
use Rattle.flow_laws.specs.Words.{level_in, queue_in, Searching}

-- the positions before p of the queue's first, x, are looked at; what is marked gets `word`
pub record Spreading (g : Grid) (e : List ℤ) (half : ℕ) (work : List ℕ) (head tail x word p : ℕ) : Type 0 where
  pub searching : Searching g e half work (size g) head tail
  pub more : head < tail
  pub first : queue_in half work head ≡ x
  pub high : get_or (take (size g) work) x 0 + 1 ≡ word
  pub done : (q : ℕ) → q < p → is_equal g e x q ≡ true → 0 < level_in (size g) work (neighbour g x q)
