-- Peaks of ways to an outlet, and what passes do, with no geometry: `Cell c` says that c is a data cell, `Out c` that c is an outlet,
-- `Next c n` that n is a data neighbour of the data cell c; `e` is the input.
use Rattle.std.specs.Prelude.{◌≡◌, ◌⊎◌, ℕ, suc, ◌<◌, ℤ, ◌≤ℤ◌}
use Rattle.grid.specs.Sheet.{void, top, higher}
use Rattle.join_laws.specs.Ways.{Way, stop, step}

module _ {Out : ℕ → Type 0} {Next : ℕ → ℕ → Type 0} where
  -- the highest elevation on a way
  unfoldable pub peak : (ℕ → ℤ) → {c : ℕ} → Way Out Next c → ℤ
  peak e (stop {c = c} o) = e c
  peak e (step {c = c} b w) = higher (e c) (peak e w)

  -- f never rises along a way
  unfoldable pub Falls : (ℕ → ℤ) → {c : ℕ} → Way Out Next c → Type 0
  Falls f (stop o) = Unit {0}
  Falls f (step {c = c} {n = n} b w) = (f n ≤ℤ f c) × Falls f w

-- F k is the sheet after k passes over the input e
pub record Filling (size : ℕ) (Cell Out : ℕ → Type 0) (Next : ℕ → ℕ → Type 0) (e : ℕ → ℤ) (F : ℕ → ℕ → ℤ) : Type 0 where
  pub on_sheet : (c : ℕ) → Cell c → c < size
  pub out_cell : (c : ℕ) → Out c → Cell c
  pub from_cell : (c n : ℕ) → Next c n → Cell c
  pub to_cell : (c n : ℕ) → Next c n → Cell n
  pub outlet? : (c : ℕ) → Cell c → Out c ⊎ (Out c → ⊥)
  pub input_≤_top : (c : ℕ) → Cell c → e c ≤ℤ top
  pub void_≤_input : (c : ℕ) → Cell c → void ≤ℤ e c
  pub first_out : (c : ℕ) → Out c → F 0 c ≡ e c
  pub first_in : (c : ℕ) → Cell c → (Out c → ⊥) → F 0 c ≡ top
  pub above : (k c : ℕ) → Cell c → e c ≤ℤ F (suc k) c
  pub by_self : (k c : ℕ) → Cell c → F (suc k) c ≤ℤ higher (e c) (F k c)
  pub by_next : (k c n : ℕ) → Next c n → F (suc k) c ≤ℤ higher (e c) (F k n)
  pub attained : (k c : ℕ) → Cell c → (higher (e c) (F k c) ≤ℤ F (suc k) c) ⊎ ((n : ℕ) × Next c n × (higher (e c) (F k n) ≤ℤ F (suc k) c))
