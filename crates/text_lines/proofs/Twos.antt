-- An elevation's 16 bits are its two's complement; and what is known of each cell is known of the sheet, for the crates above.
pub use Rattle.grid_laws.proofs.Cells.{all_sixteen}
use Rattle.std.proofs.Common.{◌≡◌, ℤ, pos, negsuc, of_z, arith, refl}
use mir.Syntax.{w16}
use Rattle.grid.specs.Frames.{to_twos}

pub twos_of : (e : ℤ) → of_z w16 e ≡ to_twos e
unfolding to_twos
twos_of (pos n) = refl
twos_of (negsuc n) = omega arith
