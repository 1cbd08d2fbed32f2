-- One start: what the walk down finds lies above n, so it can be written.
use Rattle.std.proofs.Common.{rules}
use Prim.Native.Nat.{ℕ, ◌^◌}
use mathlib.Core.Path.{refl, subst}
use mathlib.Core.Logic.{inl, inr}
use native.Mathlib.Omega.{arith}
use Rattle.grid_laws.proofs.Below.{positive}
use Rattle.route_laws.specs.Walking.{Descent}
use Rattle.route_laws.proofs.Walking.{found_above, found_small}
use Rattle.walk.proofs.walk_from.Goals as goal

pub returns-then-tail-start : goal.returns-then-tail-start
returns-then-tail-start c = inl (refl, c.if-tail-start.true)

pub returns-then-found-eq0 : goal.returns-then-found-eq0
returns-then-found-eq0 c = (
  refl,
  c.if-tail-start.false,
  subst (λ (v : ℕ). Descent c.args.n c.args.tail.now c.args.start v)
      c.if-found-eq0.true c.descend-found.ensures,
)

pub overflow_cast-found : goal.overflow_cast-found
overflow_cast-found c =
    let h = found_small c.args.n (2 ^ 32) c.args.tail.now c.args.start c.descend-found.result
    c.descend-found.ensures (λ i. search rules) (omega arith) in
    omega arith

pub settle-requires : goal.settle-requires
settle-requires c =
    let f = c.if-found-eq0.false in
    let h = found_above c.args.n c.args.tail.now c.args.start c.descend-found.result
    c.descend-found.ensures (positive _ f) in
    record {
      n_bound = c.requires.n_bound;
      n_in_bounds = c.requires.n_in_bounds;
      start_lt_n = c.requires.start_lt_n;
      n_lt_found = h;
      start_bound = c.if-tail-start.false;
    }

pub returns : goal.returns
returns c =
    inr (
      c.if-tail-start.false,
      (c.descend-found.result, positive _ c.if-found-eq0.false, c.descend-found.ensures, c.settle.ensures),
    )
