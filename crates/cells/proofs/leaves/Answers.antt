-- Off the sheet the side decides, at a data cell nothing leaves, and at a void its mark decides.
use mathlib.Core.Path.{◌≡◌, sym, ◌∙◌, ap}
use mathlib.Core.Bool.{true, false}
use Prim.Native.Nat.{ℕ, ◌+◌}
use native.Mathlib.Omega.{arith}
use lib.Dec.{eqb}
use lib.ListN.{get_or}
use Rattle.grid.specs.Sheet.{is_data}
use Rattle.grid_laws.proofs.Neighbours.{neighbour_≤}
use Rattle.grid_laws.proofs.Outlets.{leaves_off}
use Rattle.cells.proofs.Keys.{data_by_key, zero_no_data}
use Rattle.cells.proofs.Codes.{leaves_data, leaves_mark}
use Rattle.cells.proofs.leaves.Goals as goal

pub returns-then-m-elevations : goal.returns-then-m-elevations
returns-then-m-elevations c =
    let a = c.args in
    let len = c.requires.elevations_len in
    let here = c.neighbour-m.ensures in
    let far = c.if-m-elevations.true in
    let most = neighbour_≤ a.g a.cell a.p c.requires.p_bound in
    c.is_open.ensures ∙ sym (leaves_off a.g a.elevations.now a.cell a.p (omega arith))

pub returns-then-key_at-ne0 : goal.returns-then-key_at-ne0
returns-then-key_at-ne0 c =
    let a = c.args in
    let e = a.elevations.now in
    let here = c.neighbour-m.ensures in
    let d : is_data e c.neighbour-m.result ≡ true =
    data_by_key e c.neighbour-m.result c.key_at.result c.key_at.ensures.value c.if-key_at-ne0.true in
    leaves_data a.g e c.requires.elevations_len a.cell a.p (ap (is_data e) (sym here) ∙ d)

pub returns : goal.returns
returns c =
    let a = c.args in
    let e = a.elevations.now in
    let here = c.neighbour-m.ensures in
    let len = c.requires.elevations_len in
    let near = c.if-m-elevations.false in
    let gone : is_data e c.neighbour-m.result ≡ false =
    zero_no_data e c.neighbour-m.result c.key_at.result c.key_at.ensures.value c.key_at.ensures.elevation.0 c.if-key_at-ne0.false in
    ap (λ (x : ℕ). eqb (get_or a.work.now (a.base + x) 0) 2) here
    ∙ leaves_mark a.g e a.base a.work.now c.requires.marked a.cell a.p (omega arith)
    (ap (is_data e) (sym here) ∙ gone)
