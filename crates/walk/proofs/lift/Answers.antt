-- No step or one: the walk down stops at the cell or at the next.
use Prim.Native.Nat.{◌+◌, ◌<◌, ◌≤◌}
use mathlib.Core.Path.{◌≡◌, refl}
use mathlib.Core.Logic.{inr}
use native.Mathlib.Omega.{arith}
use lib.ListN.{get_or}
use Rattle.route_laws.proofs.Walking.{step_on, stop_met, stop_end}
use Rattle.walk.proofs.lift.Goals as goal

pub returns-then-mark-n-2 : goal.returns-then-mark-n-2
returns-then-mark-n-2 c =
    let a = c.args in
    let stop = stop_end a.n a.tail.now 0 a.cell a.cell refl c.requires.cell_lt_n c.if-mark-n-2.true in
    inr (c.if-mark-n.false, (a.n + 2 + a.cell, omega arith, stop, refl))

pub returns-then-next-n : goal.returns-then-next-n
returns-then-next-n c =
    let a = c.args in
    let t = a.tail.now in
    let low : get_or t a.cell 0 ≤ a.n = c.if-mark-n.false in
    let other : get_or t a.cell 0 ≡ a.n → ⊥ = c.if-mark-n-2.false in
    let on : get_or t a.cell 0 < a.n = omega arith in
    let met : a.n < get_or t (get_or t a.cell 0) 0 = c.if-next-n.true in
    let path = step_on a.n t 0 a.cell a.cell refl c.requires.cell_lt_n on in
    inr (low, (get_or t (get_or t a.cell 0) 0, omega arith, stop_met a.n t 1 a.cell (get_or t a.cell 0) path on met, refl))
