-- The word at its place, and the cell into the lent tail.
use mathlib.Core.Path.{◌∙◌}
use Prim.Native.Nat.{◌-◌}
use native.Mathlib.Omega.{arith}
use lib.ListN.{length, set, length-set, length-take, length-drop}
use borrow.Rule.Slice.PartMut.{same_len_mid}
use Rattle.grid_laws.proofs.Parts.{tail_set}
use Rattle.queue.proofs.put.Goals as goal

pub slice_bounds-push-count : goal.slice_bounds-push-count
slice_bounds-push-count c = rw length-set (omega arith)

pub slice_bounds-push-start : goal.slice_bounds-push-start
slice_bounds-push-start c = rw length-set (omega arith)

pub push-requires : goal.push-requires
push-requires c =
    record {
      len_in_bounds = simp (length-take, length-drop, length-set) (omega arith);
      m_bound = omega arith;
    }

pub shape_of-work : goal.shape_of-work
shape_of-work c =
    let a = c.args in
    let stored = set a.work.now a.place a.word in
    same_len_mid a.half (length stored - a.half) stored c.push.new.queue c.push.auto.queue ∙ length-set a.work.now a.place a.word

pub returns : goal.returns
returns c =
    let a = c.args in
    let stored = set a.work.now a.place a.word in
    record {
      value = c.push.ensures.value;
      work_after = tail_set a.half a.len stored c.push.new.queue a.m (rw length-set (omega arith)) c.push.ensures.queue_after;
    }
