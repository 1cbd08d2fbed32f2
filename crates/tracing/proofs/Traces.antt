-- Which crew is the first that is lost.
use mathlib.Core.Path.{◌≡◌, sym}
use mathlib.Core.Bool.{true, false}
use mathlib.Core.List.{List}
use Prim.Native.Nat.{ℕ, ◌<◌}
use native.Mathlib.Omega.{arith}
use Rattle.grid.specs.Crews.{first_lost}
use Rattle.grid_laws.proofs.Below.{first_is, first_none}
use Rattle.crew_laws.proofs.Keeps.{is_lost}

-- no crew below k is lost
abbrev pub NoneLost : List ℕ → List ℕ → ℕ → Type 0
NoneLost codes s k = (j : ℕ) → j < k → is_lost codes s j ≡ false

module _ (codes s : List ℕ) (k : ℕ) (none : NoneLost codes s k) where
  pub lost_here : k < 32 → is_lost codes s k ≡ true → k ≡ first_lost codes s
  unfolding first_lost
  lost_here h t = sym (first_is 32 (is_lost codes s) k h t none)

  pub lost_nowhere : k ≡ 32 → first_lost codes s ≡ 32
  unfolding first_lost
  lost_nowhere e = first_none 32 (is_lost codes s) (λ j h. none j (omega arith))
