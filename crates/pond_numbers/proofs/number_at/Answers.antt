-- A cell of mark 1 is the lowest of its pond, which is joined from it.
use native.Mathlib.Omega.{arith}
use Rattle.join_laws.proofs.Search.{parts_same}
use Rattle.pond_numbers.proofs.Numbering.{parts, taken_long, seeded, numbered_on}
use Rattle.pond_numbers.proofs.number_at.Goals as goal

pub join-requires : goal.join-requires
join-requires c =
    let a = c.args in
    let one = c.requires.c_value in
    let w = c.put-len.new.work in
    let P = parts a.g a.elevations.now a.work.now a.half a.c a.count c.requires.sizes c.requires.half_value c.requires.c_bound c.requires.numbered in
    let l = taken_long a.g a.elevations.now a.work.now a.half a.c a.count c.requires.sizes c.requires.half_value
    c.requires.c_bound c.requires.numbered
    one w c.put-len.result c.put-len.ensures.work_after c.put-len.ensures.value in
    let q = seeded a.g a.elevations.now a.work.now a.half a.c a.count c.requires.sizes c.requires.half_value c.requires.c_bound c.requires.numbered
    one w c.put-len.result c.put-len.ensures.work_after c.put-len.ensures.value in
    record {
      parts = parts_same P l;
      le_value = omega arith;
      searching = q;
      cols_bound = c.requires.sizes.narrow;
    }

pub returns : goal.returns
returns c =
    let a = c.args in
    let one = c.requires.c_value in
    numbered_on a.g a.elevations.now a.work.now a.half a.c a.count c.requires.sizes c.requires.half_value c.requires.c_bound
    c.requires.numbered one c.put-len.new.work c.put-len.result c.put-len.ensures.work_after c.put-len.ensures.value c.join.new.work
    c.join.ensures.work_after c.join.ensures.goes_on
