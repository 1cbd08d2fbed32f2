-- The elevation that 4 digits make: the number's 16 bits, read as signed; what no digits make reads as 65,535.
use Rattle.std.proofs.Common.{◌≡◌, ℕ, min, to_z, arith}
use Rattle.std.proofs.lemmas.Grind.{common_steps}
use Rattle.std.specs.Int.{w16}
use Rattle.grid.specs.Frames.{from_twos}

pub elevation_read : (n : ℕ) → to_z w16 (min n 65535) ≡ from_twos n
unfolding from_twos
elevation_read n = grind (arith, common_steps)
