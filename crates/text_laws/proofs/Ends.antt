-- Where lines end.
use mathlib.Core.Path.{◌≡◌}
use mathlib.Core.Bool.{true, false}
use Prim.Native.Nat.{ℕ, ◌+◌, ◌-◌, ◌*◌, ◌%◌, ◌≤◌, ◌<◌}
use native.Mathlib.Omega.{arith}
use lib.Dec.{eqb}
use borrow.Author.Tests.{le-leb, lt-leb, eq-eqb, ne_eqb}
use Rattle.grid.specs.Frames.{ends_line}

module _ (cols i : ℕ) where
  pub header_ends : i ≡ 8 → ends_line cols i ≡ true
  unfolding ends_line
  header_ends e = rw (eq-eqb i 8 e)

  pub in_header : (i ≡ 8 → ⊥) → i < 9 → ends_line cols i ≡ false
  unfolding ends_line
  in_header n h = rw (ne_eqb i 8 n, lt-leb 9 i h)

  pub in_lines : 9 ≤ i → ends_line cols i ≡ eqb ((i - 9) % (4 * cols + 1)) (4 * cols)
  unfolding ends_line
  in_lines h = rw (ne_eqb i 8 (λ e. omega arith), le-leb 9 i h)
