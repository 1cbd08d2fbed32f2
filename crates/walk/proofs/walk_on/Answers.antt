use Prim.Native.Nat.{ℕ}
use mathlib.Core.Path.{◌≡◌, subst}
use mathlib.Core.Bool.{Bool}
use native.Mathlib.Omega.{arith}
use Rattle.route_laws.specs.Walking.{Stepped, WalkedTo}
use Rattle.route_laws.proofs.Walking.{stepped, walked_endless, walked_all}
use Rattle.walk.proofs.walk_on.Goals as goal

pub returns-then-not-walk_from : goal.returns-then-not-walk_from
returns-then-not-walk_from c =
    λ t₀ M long W.
    walked_endless c.args.n t₀ M long c.loop-start.start c.loop-start.tail (c.loop-start.invariant t₀ M long W) (omega arith)
    c.walk_from.new.tail
    (subst (λ (b : Bool). Stepped c.args.n c.loop-start.start c.loop-start.tail c.walk_from.new.tail b)
    (c.if-not-walk_from.true) c.walk_from.ensures)

pub loop-start-preserved : goal.loop-start-preserved
loop-start-preserved c =
    λ t₀ M long W.
    stepped c.args.n t₀ M long c.loop-start.start c.loop-start.tail (c.loop-start.invariant t₀ M long W) (omega arith)
    c.walk_from.new.tail
    (subst (λ (b : Bool). Stepped c.args.n c.loop-start.start c.loop-start.tail c.walk_from.new.tail b)
    (c.if-not-walk_from.false) c.walk_from.ensures)

pub returns : goal.returns
returns c =
    let e : c.loop-start.start ≡ c.args.n = omega arith in
    λ t₀ M long W.
    walked_all c.args.n t₀ M long c.loop-start.tail
    (subst (λ (m : ℕ). WalkedTo c.args.n m t₀ c.loop-start.tail) e (c.loop-start.invariant t₀ M long W))
