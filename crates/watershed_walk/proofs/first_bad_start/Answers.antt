use native.Mathlib.Omega.{arith}
use Rattle.watershed_walk.proofs.Asking.{first_stray_is}
use Rattle.watershed_walk.proofs.first_bad_start.Goals as goal

pub returns : goal.returns
returns c =
    first_stray_is c.args.g c.args.codes.now c.args.starts.now c.requires.codes_len _
    (record { within = omega arith; below = λ k h. c.loop-c.invariant k (omega arith); at = λ h. let z : ⊥ = omega arith in absurd z })
