-- From a cell within the border the neighbours lie at fixed offsets; what is added up stays small.
use native.Mathlib.Omega.{arith}
use lib.ListN.{get_or}
use Rattle.cells.proofs.Steps.{inner_offset}
use Rattle.cells.proofs.Raster.beside.Goals as goal

pub overflow_add-result : goal.overflow_add-result
overflow_add-result c =
    let a = c.args in
    let r = a.self.now in
    let found = inner_offset r.grid a.cell a.p (get_or r.offsets a.p 0) r.size_bound c.requires.inner c.requires.p_bound (r.at a.p c.requires.p_bound) in
    omega (arith, found.1.1)

pub returns-clause-value : goal.returns-clause-value
returns-clause-value c =
    let a = c.args in
    let r = a.self.now in
    let found = inner_offset r.grid a.cell a.p (get_or r.offsets a.p 0) r.size_bound c.requires.inner c.requires.p_bound (r.at a.p c.requires.p_bound) in
    omega (arith, found.0)

pub returns-clause-upper_bound : goal.returns-clause-upper_bound
returns-clause-upper_bound c =
    let a = c.args in
    let r = a.self.now in
    let found = inner_offset r.grid a.cell a.p (get_or r.offsets a.p 0) r.size_bound c.requires.inner c.requires.p_bound (r.at a.p c.requires.p_bound) in
    omega (arith, found.0, found.1.0)
