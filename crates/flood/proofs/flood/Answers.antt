-- Visit by visit through the order.
use mathlib.Core.Path.{refl}
use Rattle.flood_laws.proofs.Steps.{between_none}
use Rattle.flood.proofs.flood.Goals as goal

pub loop-k-init : goal.loop-k-init
loop-k-init c = (refl, between_none c.args.g _ _ c.requires.sorted c.requires.by_index)
