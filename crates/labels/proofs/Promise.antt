-- The promise of the call is what `checks` has for a call from codes to one list, with the labels for the list.
use Prim.Native.Nat.{ℕ}
use mathlib.Core.List.{List}
use Rattle.grid.specs.declared.Grid.{Grid}
use Rattle.grid.specs.declared.Answer.{Answer}
use Rattle.grid.specs.Routes.{labels}
use Rattle.grid.specs.Promises.{LabelsPromise}
use Rattle.checks.proofs.FromCodes.{FromCodes}

pub promise : {g : Grid} {codes k₀ k₁ w₀ w₁ : List ℕ} {r : Answer} → FromCodes g codes (labels g codes) k₀ k₁ w₀ w₁ r →
    LabelsPromise g codes k₀ k₁ w₀ w₁ r
promise f = record { answer = f.answer; result = f.result; work = f.work }
