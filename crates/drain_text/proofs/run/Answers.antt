-- `drain_text::run`: a no is printed as its line, and what was read is drained and printed.
use mathlib.Core.Path.{refl, sym}
use native.Mathlib.Omega.{arith}
use lib.Seq.{length-take-le}
use Rattle.refusals.proofs.Answers.{is_no}
use Rattle.drain_text.proofs.Program.{read_small, refused, drained}
use Rattle.drain_text.proofs.run.Goals as goal

pub returns-in-Err : goal.returns-in-Err
returns-in-Err c =
    refused _ _ _ _ refl c.in-Err.ensures _ _ _ (is_no c.in-Err.no) (rw c.into.ensures at c.write_refusal.ensures)

pub overflow_mul-n : goal.overflow_mul-n
overflow_mul-n c = omega (arith, (read_small _ _ _ _ refl c.in-Ok.ensures refl).few)

pub slice_bounds-elevations-end : goal.slice_bounds-elevations-end
slice_bounds-elevations-end c =
    omega (arith, (read_small _ _ _ _ refl c.in-Ok.ensures refl).few, c.read.auto.elevations)

pub slice_bounds-drain_sheet-end : goal.slice_bounds-drain_sheet-end
slice_bounds-drain_sheet-end c =
    sym
    (length-take-le _ _
    (omega (arith, (read_small _ _ _ _ refl c.in-Ok.ensures refl).few, c.read.auto.elevations)))

pub drain_sheet-requires : goal.drain_sheet-requires
drain_sheet-requires c =
    let p = read_small _ _ _ _ refl c.in-Ok.ensures refl in
    record {
      few = p.few;
      fits = p.fits;
      no_sides = refl;
      square = (refl, refl);
      elevations_size = length-take-le _ _ (omega (arith, p.few, c.read.auto.elevations));
      room = c.requires;
    }

pub returns : goal.returns
returns c =
    drained _ _ _ _ refl c.in-Ok.ensures refl _ _ _
    c.drain_sheet.ensures
