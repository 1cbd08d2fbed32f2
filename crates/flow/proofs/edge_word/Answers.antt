use mathlib.Core.Path.{sym, ◌∙◌, ap}
use native.Mathlib.Omega.{arith}
use Rattle.grid.specs.Directions.{choice}
use Rattle.cells.proofs.Codes.{outlet_none}
use Rattle.cells.proofs.Keys.{zero_no_data, data_by_key}
use Rattle.flow_laws.proofs.Words.{first_void}
use Rattle.flow.proofs.Seeds.{outlet_word, drop_word, sum_below}
use Rattle.flow.proofs.edge_word.Goals as goal

pub returns-then-key_at-eq0 : goal.returns-then-key_at-eq0
returns-then-key_at-eq0 c =
    let a = c.args in
    sym (first_void a.t.now.raster.grid a.t.now.elevations.now a.cell
    (zero_no_data a.t.now.elevations.now a.cell c.key_at.result c.key_at.ensures.value c.key_at.ensures.elevation.0 c.if-key_at-eq0.true))

pub returns-then-code-ne0 : goal.returns-then-code-ne0
returns-then-code-ne0 c =
    let a = c.args in
    let d = data_by_key a.t.now.elevations.now a.cell c.key_at.result c.key_at.ensures.value c.if-key_at-eq0.false in
    outlet_word a.t.now.raster.grid a.t.now.elevations.now a.cell d (c.outlet_code-code.ensures d) c.if-code-ne0.true

pub choose-requires-clause-sum_bound : goal.choose-requires-clause-sum_bound
choose-requires-clause-sum_bound c =
    let small = sum_below c.args.t.now.raster.grid c.args.t.now.elevations.now c.args.cell in
    let is = c.edge_sum.ensures in
    omega arith

pub returns : goal.returns
returns c =
    let a = c.args in
    let d = data_by_key a.t.now.elevations.now a.cell c.key_at.result c.key_at.ensures.value c.if-key_at-eq0.false in
    let o = outlet_none a.t.now.raster.grid a.t.now.elevations.now a.cell c.outlet_code-code.result (c.outlet_code-code.ensures d) c.if-code-ne0.false in
    c.choose.ensures ∙ ap choice c.edge_sum.ensures ∙ drop_word a.t.now.raster.grid a.t.now.elevations.now a.cell d o
