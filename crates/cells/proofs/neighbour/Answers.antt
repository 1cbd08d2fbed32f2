-- The row and the column of the cell, each moved by a step that is counted from one less, and compared with their bounds.
use mathlib.Core.Path.{refl}
use mathlib.Core.Logic.{inl, inr}
use Prim.Native.Nat.{◌/◌, ◌%◌}
use native.Mathlib.Omega.{arith}
use Rattle.grid_laws.proofs.Neighbours.{cols_positive}
use Rattle.cells.specs.Steps.{right_of}
use Rattle.cells.proofs.Steps.{Placed, row_below, col_below, rows_small, cols_small, down_3, right_3, off_is, in_is, in_small}
use Rattle.cells.proofs.neighbour.Goals as goal

pub nonzero_div-r : goal.nonzero_div-r
nonzero_div-r c = cols_positive c.args.g c.args.cell c.requires.cell_bound

pub overflow_add-r : goal.overflow_add-r
overflow_add-r c =
    let early : Placed c.args.g c.args.cell (c.args.cell / c.args.g.cols) (c.args.cell % c.args.g.cols)
    c.args.p c.row_step.result (right_of c.args.p) = record {
      on_sheet = c.requires.cell_bound;
      position = c.requires.p_bound;
      row_is = refl;
      col_is = refl;
      steps_down = c.row_step.ensures;
      steps_right = refl;
    } in
    omega (arith, row_below (early), rows_small (early), down_3 (early))

pub nonzero_rem-q : goal.nonzero_rem-q
nonzero_rem-q c = cols_positive c.args.g c.args.cell c.requires.cell_bound

pub overflow_add-q : goal.overflow_add-q
overflow_add-q c =
    let placed : Placed c.args.g c.args.cell (c.args.cell / c.args.g.cols) (c.args.cell % c.args.g.cols)
    c.args.p c.row_step.result c.col_step.result = record {
      on_sheet = c.requires.cell_bound;
      position = c.requires.p_bound;
      row_is = refl;
      col_is = refl;
      steps_down = c.row_step.ensures;
      steps_right = c.col_step.ensures;
    } in
    omega (arith, col_below (placed), cols_small (placed), right_3 (placed))

pub returns-then-r-lt1 : goal.returns-then-r-lt1
returns-then-r-lt1 c =
    let placed : Placed c.args.g c.args.cell (c.args.cell / c.args.g.cols) (c.args.cell % c.args.g.cols)
    c.args.p c.row_step.result c.col_step.result = record {
      on_sheet = c.requires.cell_bound;
      position = c.requires.p_bound;
      row_is = refl;
      col_is = refl;
      steps_down = c.row_step.ensures;
      steps_right = c.col_step.ensures;
    } in
    off_is (placed) (inl c.if-r-lt1.true)

pub returns-then-rows-r : goal.returns-then-rows-r
returns-then-rows-r c =
    let placed : Placed c.args.g c.args.cell (c.args.cell / c.args.g.cols) (c.args.cell % c.args.g.cols)
    c.args.p c.row_step.result c.col_step.result = record {
      on_sheet = c.requires.cell_bound;
      position = c.requires.p_bound;
      row_is = refl;
      col_is = refl;
      steps_down = c.row_step.ensures;
      steps_right = c.col_step.ensures;
    } in
    off_is (placed) (inr (inl c.if-rows-r.true))

pub returns-then-q-lt1 : goal.returns-then-q-lt1
returns-then-q-lt1 c =
    let placed : Placed c.args.g c.args.cell (c.args.cell / c.args.g.cols) (c.args.cell % c.args.g.cols)
    c.args.p c.row_step.result c.col_step.result = record {
      on_sheet = c.requires.cell_bound;
      position = c.requires.p_bound;
      row_is = refl;
      col_is = refl;
      steps_down = c.row_step.ensures;
      steps_right = c.col_step.ensures;
    } in
    off_is (placed) (inr (inr (inl c.if-q-lt1.true)))

pub returns-then-cols-q : goal.returns-then-cols-q
returns-then-cols-q c =
    let placed : Placed c.args.g c.args.cell (c.args.cell / c.args.g.cols) (c.args.cell % c.args.g.cols)
    c.args.p c.row_step.result c.col_step.result = record {
      on_sheet = c.requires.cell_bound;
      position = c.requires.p_bound;
      row_is = refl;
      col_is = refl;
      steps_down = c.row_step.ensures;
      steps_right = c.col_step.ensures;
    } in
    off_is (placed) (inr (inr (inr c.if-cols-q.true)))

pub overflow_mul-result-2 : goal.overflow_mul-result-2
overflow_mul-result-2 c =
    let placed : Placed c.args.g c.args.cell (c.args.cell / c.args.g.cols) (c.args.cell % c.args.g.cols)
    c.args.p c.row_step.result c.col_step.result = record {
      on_sheet = c.requires.cell_bound;
      position = c.requires.p_bound;
      row_is = refl;
      col_is = refl;
      steps_down = c.row_step.ensures;
      steps_right = c.col_step.ensures;
    } in
    omega (arith, in_small (placed) c.if-r-lt1.false c.if-rows-r.false c.if-q-lt1.false c.if-cols-q.false)

pub overflow_add-result : goal.overflow_add-result
overflow_add-result c =
    let placed : Placed c.args.g c.args.cell (c.args.cell / c.args.g.cols) (c.args.cell % c.args.g.cols)
    c.args.p c.row_step.result c.col_step.result = record {
      on_sheet = c.requires.cell_bound;
      position = c.requires.p_bound;
      row_is = refl;
      col_is = refl;
      steps_down = c.row_step.ensures;
      steps_right = c.col_step.ensures;
    } in
    omega (arith, in_small (placed) c.if-r-lt1.false c.if-rows-r.false c.if-q-lt1.false c.if-cols-q.false)

pub returns : goal.returns
returns c =
    let placed : Placed c.args.g c.args.cell (c.args.cell / c.args.g.cols) (c.args.cell % c.args.g.cols)
    c.args.p c.row_step.result c.col_step.result = record {
      on_sheet = c.requires.cell_bound;
      position = c.requires.p_bound;
      row_is = refl;
      col_is = refl;
      steps_down = c.row_step.ensures;
      steps_right = c.col_step.ensures;
    } in
    in_is (placed) c.if-r-lt1.false c.if-rows-r.false c.if-q-lt1.false c.if-cols-q.false
