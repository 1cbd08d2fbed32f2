-- The tail that the call lends on is long enough for two numbers a cell.
use Prim.Native.Nat.{ℕ, ◌+◌, ◌-◌, ◌*◌, ◌/◌, ◌≤◌}
use mathlib.Core.List.{List}
use lib.ListN.{length, take, drop}
use Rattle.checks.proofs.Room.{half_room}

pub tail_room : (n : ℕ) (w : List ℕ) → 4 * n ≤ length w → n + n ≤ length (take (length w - length w / 2) (drop (length w / 2) w))
tail_room n w h = half_room n w h
