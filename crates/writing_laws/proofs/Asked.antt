-- The writer's questions as a gate, and what a yes to all of them says.
use mathlib.Core.Path.{◌≡◌, refl, sym, ◌∙◌, ap₂}
use mathlib.Core.List.{[], ◌∷◌}
use Prim.Native.Nat.{ℕ, ◌*◌, ◌≤◌}
use native.Mathlib.Nat.{mul-le-mul_left}
use native.Mathlib.Omega.{arith}
use lib.Dec.{leb}
use borrow.Author.Tests.{le-leb, leb-true, eq-eqb}
use Rattle.grid.specs.declared.Grid.{Grid}
use Rattle.grid.specs.Sheet.{size}
use Rattle.grid.specs.Checks.{refusal, accepted, ask, all_have, ask_lengths, ask_sheets}
use Rattle.grid.specs.Frames.{text_length}
use Rattle.grid.specs.Writing.{write_check}
use Rattle.grid_laws.proofs.Tests.{cond_true, and_true}
use Rattle.checks.specs.Sizes.{Fits}
use Rattle.checks.proofs.Gate.{Gate, one, both, weaken, passed}
use Rattle.checks.proofs.Asked.{sheets_gate, size_passes, same_fits}

pub record Printable (g : Grid) (elevations room : ℕ) : Type 0 where
  pub few : size g ≤ 2304
  pub fits : Fits g
  pub long : elevations ≡ size g
  pub room_for : text_length g ≤ room

write_gate : (g : Grid) (elevations room : ℕ) →
    Gate (λ later. ask (leb (size g) 2304) (refusal 4 0)
    (ask_sheets g (elevations ∷ []) [] (ask (leb (text_length g) room) (refusal 8 0) later)))
    (Printable g elevations room)
write_gate g elevations room =
    weaken
    (λ f. record {
      few = leb-true (size g) 2304 f.0;
      fits = f.1.0.fits;
      long = f.1.0.inputs_have.0;
      room_for = leb-true (text_length g) room f.1.1;
    })
    (both (one (leb (size g) 2304) 4 0 (omega arith))
    (both (sheets_gate g (elevations ∷ []) []) (one (leb (text_length g) room) 8 0 (omega arith))))

module _ (g : Grid) (elevations room : ℕ) where
  pub printable : (write_check g elevations room).number ≡ 0 → Printable g elevations room
  unfolding write_check
  printable z = (passed (write_gate g elevations room) refl z).fact

  pub write_passes : Printable g elevations room → write_check g elevations room ≡ accepted
  unfolding write_check ask_sheets ask_lengths all_have
  write_passes s =
      cond_true _ _ (le-leb (size g) 2304 s.few)
      ∙ size_passes g s.fits _
      ∙ cond_true _ _ (and_true (eq-eqb elevations (size g) s.long) refl)
      ∙ cond_true _ _ (le-leb (text_length g) room s.room_for)

-- sides are no part of it
pub same_printable : (g h : Grid) {elevations room : ℕ} → g.rows ≡ h.rows → g.cols ≡ h.cols → Printable h elevations room →
    Printable g elevations room
same_printable g h r c p =
    let n : size g ≡ size h = ap₂ ◌*◌ r c in
    let few = p.few in
    record { few = omega arith; fits = same_fits g h r c p.fits; long = p.long ∙ sym n; room_for = rw (r, c) p.room_for }

-- a line has at least one cell, so that 2,304 cells are at most 2,304 lines
pub short : (g : Grid) {elevations room : ℕ} → Printable g elevations room → text_length g ≤ 11529
short g p =
    let few = p.few in
    omega (arith, mul-le-mul_left g.rows p.fits.cols_low)
