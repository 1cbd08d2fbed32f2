-- The second half of a work buffer that is long enough for question 9, as a call lends it on: two numbers a cell.
use Prim.Native.Nat.{ℕ, ◌+◌, ◌-◌, ◌*◌, ◌/◌, ◌≤◌}
use mathlib.Core.List.{List}
use native.Mathlib.Omega.{arith}
use lib.ListN.{length, take, drop, length-take, length-drop}

pub half_room : (n : ℕ) (w : List ℕ) → 4 * n ≤ length w → n + n ≤ length (take (length w - length w / 2) (drop (length w / 2) w))
half_room n w h = simp (length-take, length-drop) (omega arith)
