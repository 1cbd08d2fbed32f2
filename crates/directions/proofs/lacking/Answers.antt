-- A stranded cell is the no of 18; without one 18 is a yes, and 10 stands.
use mathlib.Core.Path.{sym, ◌∙◌, ap}
use native.Mathlib.Omega.{arith}
use Rattle.grid.specs.Checks.{refusal}
use Rattle.checks.proofs.Questions.{stranded_≤, reach_no, reach_yes}
use Rattle.directions.proofs.lacking.Goals as goal

pub returns-then-stranded-s : goal.returns-then-stranded-s
returns-then-stranded-s c =
    let a = c.args in
    let len = c.args.s.now.elevations_len in
    let h = c.if-stranded-s.true in
    let place = c.first_stranded-stranded.ensures in
    rw c.at.ensures (ap (refusal 18) place ∙ sym (reach_no a.s.now.grid a.s.now.elevations.now (refusal 10 a.first) (omega arith)))

pub returns : goal.returns
returns c =
    let a = c.args in
    let len = c.args.s.now.elevations_len in
    let h = c.if-stranded-s.false in
    let most = stranded_≤ a.s.now.grid a.s.now.elevations.now in
    let place = c.first_stranded-stranded.ensures in
    rw c.at-2.ensures (sym (reach_yes a.s.now.grid a.s.now.elevations.now (refusal 10 a.first) (omega arith)))
