-- `drain_text::drain_sheet`: the front of each local sheet has the size that is asked for.
use mathlib.Core.Path.{sym, ◌∙◌}
use Prim.Native.Nat.{◌≤◌}
use native.Mathlib.Omega.{arith}
use lib.ListN.{length}
use lib.Seq.{length-take-le}
use Rattle.drain_text.proofs.drain_sheet.Goals as goal

pub slice_bounds-drain_into-end : goal.slice_bounds-drain_into-end
slice_bounds-drain_into-end c = sym (length-take-le _ _ (omega arith))

pub slice_bounds-drain_into-end-2 : goal.slice_bounds-drain_into-end-2
slice_bounds-drain_into-end-2 c = sym (length-take-le _ _ (omega arith))

pub slice_bounds-drain_into-end-3 : goal.slice_bounds-drain_into-end-3
slice_bounds-drain_into-end-3 c = sym (length-take-le _ _ (omega arith))

pub slice_bounds-drain_into-end-4 : goal.slice_bounds-drain_into-end-4
slice_bounds-drain_into-end-4 c = sym (length-take-le _ _ (omega arith))

pub drain_into-requires : goal.drain_into-requires
drain_into-requires c =
    let s = c.requires in
    let h : length c.args.elevations.now ≤ 2304 = omega arith in (
      s,
      record {
        filled_size = length-take-le _ _ h ∙ s.elevations_size;
        codes_size = length-take-le _ _ h ∙ s.elevations_size;
        counts_size = length-take-le _ _ h ∙ s.elevations_size;
        labels_size = length-take-le _ _ h ∙ s.elevations_size;
        work_size = omega (arith, s.few);
      },
    )
