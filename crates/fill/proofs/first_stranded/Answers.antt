-- Where every side is open and no cell is void none is stranded.
use mathlib.Core.Path.{sym, ◌∙◌}
use native.Mathlib.Omega.{arith}
use Rattle.fill.proofs.Voids.{full_reach}
use Rattle.fill.proofs.first_stranded.Goals as goal

pub returns-then-all_drain : goal.returns-then-all_drain
returns-then-all_drain c =
    let a = c.args in
    let drain = c.all_drain.ensures c.if-all_drain.true in
    let cells = c.args.s.now.elevations_len in
    cells ∙ sym (full_reach a.s.now.grid a.s.now.elevations.now (λ x h. c.has_void.ensures drain.1 x (omega arith)) drain.0 cells)
