-- The squares of a cell's width and height.
use Prim.Native.Nat.{ℕ, ◌*◌, ◌≤◌}
use native.Mathlib.Nat.{mul-le-mul}

pub side_small : (a : ℕ) → a ≤ 1000 → a * a ≤ 1000000
side_small a h = mul-le-mul {n₁ = a} {m₁ = a} {n₂ = 1000} {m₂ = 1000} h h

pub side_above : (a : ℕ) → 1 ≤ a → 1 ≤ a * a
side_above a h = mul-le-mul {n₁ = 1} {m₁ = 1} {n₂ = a} {m₂ = a} h h
