use mathlib.Core.Path.{◌≡◌, sym, ◌∙◌, ap}
use native.Mathlib.Omega.{arith}
use Rattle.grid.specs.Sheet.{code_at, position_of}
use Rattle.grid_laws.proofs.Neighbours.{at_eight, position_of_code}
use Rattle.cells.proofs.Codes.{no_position}
use Rattle.cells.proofs.Direction.position.Goals as goal

pub returns-in-1 : goal.returns-in-1
returns-in-1 c = sym (position_of_code 0 (omega arith)) ∙ ap position_of (sym c.in-1.is)

pub returns-in-2 : goal.returns-in-2
returns-in-2 c = sym (position_of_code 1 (omega arith)) ∙ ap position_of (sym c.in-2.is)

pub returns-in-4 : goal.returns-in-4
returns-in-4 c = sym (position_of_code 2 (omega arith)) ∙ ap position_of (sym c.in-4.is)

pub returns-in-8 : goal.returns-in-8
returns-in-8 c = sym (position_of_code 3 (omega arith)) ∙ ap position_of (sym c.in-8.is)

pub returns-in-16 : goal.returns-in-16
returns-in-16 c = sym (position_of_code 4 (omega arith)) ∙ ap position_of (sym c.in-16.is)

pub returns-in-32 : goal.returns-in-32
returns-in-32 c = sym (position_of_code 5 (omega arith)) ∙ ap position_of (sym c.in-32.is)

pub returns-in-64 : goal.returns-in-64
returns-in-64 c = sym (position_of_code 6 (omega arith)) ∙ ap position_of (sym c.in-64.is)

pub returns-in-128 : goal.returns-in-128
returns-in-128 c = sym (position_of_code 7 (omega arith)) ∙ ap position_of (sym c.in-128.is)

pub returns-in_default : goal.returns-in_default
returns-in_default c =
    let k = c.args.code in
    no_position k (at_eight (λ p. k ≡ code_at p → ⊥) c.in_default.in_default-own.rest.0.0.0.0.0.0.0.1 c.in_default.in_default-own.rest.0.0.0.0.0.0.1
    c.in_default.in_default-own.rest.0.0.0.0.0.1 c.in_default.in_default-own.rest.0.0.0.0.1 c.in_default.in_default-own.rest.0.0.0.1 c.in_default.in_default-own.rest.0.0.1
    c.in_default.in_default-own.rest.0.1 c.in_default.in_default-own.rest.1)
