use native.Mathlib.Omega.{arith}
use mathlib.Core.Path.{◌≡◌}
use Rattle.grid.specs.Sheet.{size}
use Rattle.pond_numbers.proofs.Numbering.{marked_all}
use Rattle.pond_numbers.proofs.mark_wet.Goals as goal

pub returns : goal.returns
returns c =
    let a = c.args in
    let t = c.loop-c-test.false in
    let q : c.loop-c.c ≡ size a.g = omega arith in
    marked_all a.g a.elevations.now a.work.now c.loop-c.work c.requires.sizes.long c.requires.sixteen_bits c.requires.words (rw q at c.loop-c.invariant)
