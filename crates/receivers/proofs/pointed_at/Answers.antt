-- Within the border the neighbour lies at the table's distance; on it, row and column decide.
use native.Mathlib.Omega.{arith}
use Rattle.cells.proofs.Steps.{place_small}
use Rattle.receivers.proofs.Codes.{reached}
use Rattle.receivers.proofs.pointed_at.Goals as goal

pub is_inner-requires : goal.is_inner-requires
is_inner-requires c =
    let w = place_small c.args.g c.args.cell c.requires.cell_bound c.requires.g_bound in
    let e = c.requires.row_value in
    let f = c.requires.col_value in
    record {
      row_bound = rw e w.0;
      col_bound = rw f w.1;
    }

pub overflow_add-result : goal.overflow_add-result
overflow_add-result c =
    let a = c.args in
    let h = reached a.g a.cell a.row a.col a.code a.table.now c.requires.g_bound c.requires.row_value c.requires.col_value
    c.requires.code_bound c.requires.reach_table (c.is_inner.ensures c.if-is_inner.true) in
    let small = h.1.1 in
    omega arith
