-- The ponds are found, and listed where there is room.
use native.Mathlib.Omega.{arith}
use Rattle.pond_numbers.proofs.Numbering.{sizes_same}
use Rattle.ponds.proofs.Promise.{settled_no, settled_yes}
use Rattle.ponds.proofs.list_found.Goals as goal

pub returns-then-level-count : goal.returns-then-level-count
returns-then-level-count c =
    let a = c.args in
    rw c.at.ensures (settled_no a.g a.elevations.now _ c.find-count.result (sizes_same c.requires.sizes c.find-count.auto.work) c.find-count.ensures c.if-level-count.true)

pub list-requires : goal.list-requires
list-requires c =
    let h = c.if-level-count.false in
    record {
      sizes = sizes_same c.requires.sizes c.find-count.auto.work;
      numbered = c.find-count.ensures;
      ponds_len = c.requires.ponds_len;
      count_in_bounds = omega arith;
      one_length = c.requires.one_length;
    }

pub returns : goal.returns
returns c =
    let a = c.args in
    let h = c.if-level-count.false in
    settled_yes a.g a.elevations.now _ c.find-count.result (sizes_same c.requires.sizes c.find-count.auto.work) c.find-count.ensures (omega arith)
    c.requires.one_length c.list.ensures.ponds_after c.list.ensures.gathered
