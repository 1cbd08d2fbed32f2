-- `_taken` turns are taken, and every trace on its way stands on a cell with a code.
use mathlib.Core.Path.{◌≡◌, ◌∙◌, ap, sym, subst}
use Prim.Native.Nat.{ℕ, ◌≤◌}
use native.Mathlib.Omega.{arith}
use lib.ListN.{length}
use Rattle.grid.specs.Crews.{turns}
use Rattle.crew_laws.specs.Standing.{Standing}
use Rattle.crew_laws.proofs.Keeps.{still_standing}
use Rattle.turning.proofs.Stepping.{no_turns, one_turn}
use Rattle.turning.proofs.take_turns.Goals as goal

pub loop-taken-init : goal.loop-taken-init
loop-taken-init c = (no_turns c.args.g c.args.codes.now c.args.crews.now, c.requires.standing)

pub loop-taken-preserved : goal.loop-taken-preserved
loop-taken-preserved c =
    let e = c.take_turn.ensures in
    let on = c.requires.on_sheet in
    let n = on.few in
    let m = on.long in
    let few : length c.args.codes.now ≤ 4294967296 = omega arith in (
      one_turn c.args.g c.args.codes.now c.loop-taken._taken c.args.crews.now c.loop-taken.crews c.take_turn.new.crews c.loop-taken.invariant.0 e,
      subst (Standing c.args.codes.now) (sym e) (still_standing c.args.g c.args.codes.now few c.loop-taken.crews c.loop-taken.invariant.1),
    )

pub returns : goal.returns
returns c =
    let e : c.loop-taken._taken ≡ c.args.n = omega arith in
    c.loop-taken.invariant.0 ∙ ap (λ (k : ℕ). turns c.args.g c.args.codes.now k c.args.crews.now) e
