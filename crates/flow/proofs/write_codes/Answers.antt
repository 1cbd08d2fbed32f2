use Rattle.grid.specs.Sheet.{size}
use Rattle.grid.specs.Directions.{direction_at}
use Rattle.grid_laws.proofs.Below.{is_table}
use Rattle.flow_laws.specs.Words.{levels_in}
use Rattle.flow.proofs.write_codes.Goals as goal

pub returns : goal.returns
returns c =
    let a = c.args in
    let done = c.walk.ensures in
    is_table (size a.t.now.raster.grid) (direction_at a.t.now.raster.grid a.t.now.elevations.now (levels_in a.t.now.raster.grid a.work.now)) c.walk.new.out 0 done.1 done.2
