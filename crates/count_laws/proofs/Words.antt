-- A word of the pass, read as awaited donors and count so far.
use mathlib.Core.Path.{◌≡◌}
use mathlib.Core.Bool.{true, false}
use Prim.Native.Nat.{ℕ, ◌+◌, ◌-◌, ◌*◌, ◌≤◌, ◌<◌}
use native.Mathlib.Omega.{arith}
use borrow.Author.Tests.{le-leb, lt-leb, leb-false}
use Rattle.count_laws.specs.Passing.{awaited, tally, is_done}

pub waiting_small : (x : ℕ) → is_done x ≡ false → x < 4278190080
unfolding is_done
waiting_small x e = leb-false 4278190080 x e

pub small_waiting : (x : ℕ) → x < 4278190080 → is_done x ≡ false
unfolding is_done
small_waiting x h = lt-leb 4278190080 x h

pub tally_small : (x : ℕ) → tally x < 16777216
unfolding tally
tally_small x = omega arith

-- a word with nothing awaited is the count
pub ready_awaits : (x : ℕ) → x < 16777216 → awaited x ≡ 0
unfolding awaited
ready_awaits x h = omega arith

pub awaits_more : (x : ℕ) → 16777216 ≤ x → 1 ≤ awaited x
unfolding awaited
awaits_more x h = omega arith

pub more_awaits : (x : ℕ) → 1 ≤ awaited x → 16777216 ≤ x
unfolding awaited
more_awaits x h = omega arith

pub ready_tally : (x : ℕ) → x < 16777216 → tally x ≡ x
unfolding tally
ready_tally x h = omega arith

pub ready_waiting : (x : ℕ) → x < 16777216 → is_done x ≡ false
ready_waiting x h = small_waiting x (omega arith)

-- the word of a cell that hands its count on
pub closed_done : (x : ℕ) → is_done (x + 4278190080) ≡ true
unfolding is_done
closed_done x = le-leb 4278190080 (x + 4278190080) (omega arith)

pub closed_tally : (x : ℕ) → tally (x + 4278190080) ≡ tally x
unfolding tally
closed_tally x = omega arith

-- the word of a cell that is handed the count x
pub handed_awaits : (y x : ℕ) → 1 ≤ awaited y → tally y + x + 1 < 16777216 → awaited (y - 16777216 + x + 1) + 1 ≡ awaited y
unfolding awaited tally
handed_awaits y x h l = omega arith

pub handed_tally : (y x : ℕ) → 1 ≤ awaited y → tally y + x + 1 < 16777216 → tally (y - 16777216 + x + 1) ≡ tally y + x + 1
unfolding awaited tally
handed_tally y x h l = omega arith

pub handed_waiting : (y x : ℕ) → is_done y ≡ false → 1 ≤ awaited y → tally y + x + 1 < 16777216 → is_done (y - 16777216 + x + 1) ≡ false
unfolding awaited tally
handed_waiting y x e h l = let a = waiting_small y e in small_waiting (y - 16777216 + x + 1) (omega arith)

pub awaited_word : (k x : ℕ) → x < 16777216 → awaited (k * 16777216 + x) ≡ k
unfolding awaited
awaited_word k x h = omega arith

pub tally_word : (k x : ℕ) → x < 16777216 → tally (k * 16777216 + x) ≡ x
unfolding tally
tally_word k x h = omega arith
