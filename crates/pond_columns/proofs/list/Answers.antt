-- Clear, then gather: what is gathered into cleared columns is gathered into those at entry.
use native.Mathlib.Omega.{arith}
use Rattle.grid.specs.Sheet.{size}
use Rattle.pond_columns.proofs.Gathering.{count_is, one_cleared, gathered_from}
use Rattle.pond_columns.proofs.list.Goals as goal

pub gather-requires : goal.gather-requires
gather-requires c =
    let C = c.clear.ensures.cleared in
    let r = c.requires.count_in_bounds in
    record {
      sizes = c.requires.sizes;
      numbered = c.requires.numbered;
      ponds_len = c.requires.ponds_len;
      count_in_bounds = c.requires.count_in_bounds;
      one_length = one_cleared c.requires.one_length C c.clear.ensures.cleared_2;
      by_index = λ k l. C.zero k (omega arith);
      by_index_2 = λ k l. c.clear.ensures.cleared_2.zero k (omega arith);
    }

pub returns : goal.returns
returns c =
    let a = c.args in
    let q = count_is a.g a.elevations.now a.work.now a.count c.requires.sizes c.requires.numbered in
    record {
      ponds_after = c.gather.ensures.ponds_after;
      gathered = gathered_from a.elevations.now _ _ _ (size a.g) (rw q at c.clear.ensures.cleared) (rw q at c.clear.ensures.cleared_2) c.gather.ensures.gathered;
    }
