use Prim.Native.Nat.{ℕ}
use mathlib.Core.Path.{◌≡◌, subst}
use native.Mathlib.Omega.{arith}
use Rattle.watershed_walk.proofs.Cutting.{CutTo, cut_all}
use Rattle.watershed_walk.proofs.cut_starts.Goals as goal

pub returns : goal.returns
returns c =
    let t = c.loop-cell-test.false in
    let e : c.loop-cell.cell ≡ c.args.n = omega arith in
    cut_all c.args.n c.args.starts.now c.args.tail.now c.loop-cell.tail c.requires.n_in_bounds
    (subst (λ (i : ℕ). CutTo c.args.n c.args.starts.now i c.args.tail.now c.loop-cell.tail) e c.loop-cell.invariant)
