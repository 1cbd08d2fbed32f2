-- Question 3 byte by byte, and the header.
use Rattle.std.specs.Prelude.{◌≡◌, Bool, not, ◌&&◌, List, ℕ, ◌≤◌, eqb, length, get_or}
use Rattle.grid.specs.Below.{any_below}
use Rattle.grid.specs.declared.Grid.{Grid}
use Rattle.grid.specs.Frames.{line_feed, ends_line, text_grid}

-- line feeds stand where lines end and nowhere else: the two last conditions of `is_shaped`
unfoldable pub feeds_end_lines : List ℕ → ℕ → Bool
feeds_end_lines text cols =
    not (any_below (length text) (λ i. not (eqb (get_or text i 0) line_feed) && ends_line cols i))
    && not (any_below (length text) (λ i. eqb (get_or text i 0) line_feed && not (ends_line cols i)))

-- the header's numbers; what no digits make is below 69,905 too
pub record HeaderRead (text : List ℕ) (g : Grid) : Type 0 where
  pub grid : g ≡ text_grid text
  pub few_rows : g.rows ≤ 69904
  pub few_cols : g.cols ≤ 69904
