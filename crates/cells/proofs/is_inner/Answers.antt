use mathlib.Core.Path.{refl}
use Rattle.grid_laws.proofs.Tests.{true_false}
use Rattle.cells.proofs.is_inner.Goals as goal

pub returns-then-row-lt1 : goal.returns-then-row-lt1
returns-then-row-lt1 c = λ e. true_false e refl

pub returns-then-g-row : goal.returns-then-g-row
returns-then-g-row c = λ e. true_false e refl

pub returns-then-col-lt1 : goal.returns-then-col-lt1
returns-then-col-lt1 c = λ e. true_false e refl

pub returns-then-g-col : goal.returns-then-g-col
returns-then-g-col c = λ e. true_false e refl
