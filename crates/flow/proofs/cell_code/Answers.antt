use Rattle.flow.proofs.Flats.{byte_code, high_key, high_code}
use Rattle.flow.proofs.cell_code.Goals as goal

pub returns-then-word-lt257 : goal.returns-then-word-lt257
returns-then-word-lt257 g c =
    let a = c.args in
    byte_code a.t.now.raster.grid a.t.now.elevations.now c.args.t.now.elevations_len a.work.now c.requires.levelled a.cell c.requires.cell_bound
    c.requires.nonzero c.if-word-lt257.true

pub flat_sum-requires-clause-cell_value : goal.flat_sum-requires-clause-cell_value
flat_sum-requires-clause-cell_value g c =
    let a = c.args in
    (high_key a.t.now.raster.grid a.t.now.elevations.now c.args.t.now.elevations_len a.work.now c.requires.levelled a.cell c.requires.cell_bound
    c.if-word-lt257.false c.short_key_at-k.result c.short_key_at-k.ensures.value c.short_key_at-k.ensures.void_bound).0

pub flat_sum-requires-clause-k_nonzero : goal.flat_sum-requires-clause-k_nonzero
flat_sum-requires-clause-k_nonzero g c =
    let a = c.args in
    (high_key a.t.now.raster.grid a.t.now.elevations.now c.args.t.now.elevations_len a.work.now c.requires.levelled a.cell c.requires.cell_bound
    c.if-word-lt257.false c.short_key_at-k.result c.short_key_at-k.ensures.value c.short_key_at-k.ensures.void_bound).1

pub returns : goal.returns
returns g c =
    let a = c.args in
    high_code a.t.now.raster.grid a.t.now.elevations.now c.args.t.now.elevations_len a.work.now c.requires.levelled a.cell c.requires.cell_bound
    c.if-word-lt257.false c.flat_sum.ensures.value c.choose.ensures
