use native.Mathlib.Omega.{arith}
use mathlib.Core.Path.{◌≡◌, sym, ◌∙◌, ap}
use Prim.Native.Nat.{ℕ, ◌/◌}
use lib.ListN.{length}
use Rattle.grid.specs.Sheet.{size}
use Rattle.pond_numbers.proofs.Numbering.{sizes_same, passed_by}
use Rattle.pond_numbers.proofs.number.Goals as goal
use Rattle.pond_numbers.proofs.number.Goals.{then-mark_at-eq1, else-mark_at-eq1}

pub number_at-count-requires : goal.number_at-count-requires
number_at-count-requires c =
    let t = c.loop-c-test.true in
    let m = c.mark_at.ensures in
    let one = sym m ∙ c.if-mark_at-eq1.true in
    record {
      sizes = sizes_same c.requires.sizes c.loop-c.auto.work;
      half_value = ap (λ (x : ℕ). x / 2) (sym c.loop-c.auto.work);
      c_bound = omega arith;
      c_value = one;
      numbered = c.loop-c.invariant;
    }

pub loop-c-preserved : goal.loop-c-preserved
loop-c-preserved c =
    let a = c.args in
    let t = c.loop-c-test.true in
    let m = c.mark_at.ensures in
    elim c.if-mark_at-eq1.branch [
      | then-mark_at-eq1 w ↦ rw w.work-is (rw w.count-is w.number_at-count.ensures)
      | else-mark_at-eq1 w ↦
          rw w.work-is
          (rw w.count-is
          (passed_by a.g a.elevations.now c.loop-c.work (length a.work.now / 2) c.loop-c.c c.loop-c.count (sizes_same c.requires.sizes c.loop-c.auto.work)
          (ap (λ (x : ℕ). x / 2) (sym c.loop-c.auto.work)) (omega arith) c.loop-c.invariant (λ q. w.if-mark_at-eq1.false (m ∙ q))))
    ]

pub returns : goal.returns
returns c =
    let t = c.loop-c-test.false in
    let q : c.loop-c.c ≡ size c.args.g = omega arith in
    rw q at c.loop-c.invariant
