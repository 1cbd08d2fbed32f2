use mathlib.Core.Path.{◌≡◌, sym, ◌∙◌, ap, subst}
use mathlib.Core.Bool.{true, false}
use Prim.Native.Nat.{ℕ, ◌<◌}
use native.Mathlib.Omega.{arith}
use lib.ListN.{get_or}
use borrow.Author.Count.{below_more}
use Rattle.grid.specs.Sheet.{code_at}
use Rattle.grid.specs.Outlet.{leaves_at, outlet_order}
use Rattle.grid_laws.proofs.Outlets.{order_small}
use Rattle.cells.proofs.Codes.{StaysTo, outlet_found, no_outlet}
use Rattle.cells.proofs.outlet_code.Goals as goal

pub in_order-p-requires : goal.in_order-p-requires
in_order-p-requires c = c.loop-i-test.true

pub leaves-requires : goal.leaves-requires
leaves-requires c =
    record {
      elevations_len = c.requires.elevations_len;
      g_bound = c.requires.g_bound;
      cell_bound = c.requires.cell_bound;
      p_bound = subst (λ (p : ℕ). p < 8) (sym c.in_order-p.ensures) (order_small c.loop-i.i c.loop-i-test.true);
      g_in_bounds = c.requires.g_in_bounds;
      marked = c.requires.marked;
    }

pub code-requires : goal.code-requires
code-requires c =
    subst (λ (p : ℕ). p < 8) (sym c.in_order-p.ensures) (order_small c.loop-i.i c.loop-i-test.true)

pub returns-then-leaves : goal.returns-then-leaves
returns-then-leaves c =
    let e = c.args.elevations.now in
    let here : leaves_at c.args.g e c.args.cell (get_or outlet_order c.loop-i.i 0) ≡ true =
    subst (λ (p : ℕ). leaves_at c.args.g e c.args.cell p ≡ true) c.in_order-p.ensures (sym c.leaves.ensures ∙ c.if-leaves.true) in
    λ d. c.code.ensures ∙ ap code_at c.in_order-p.ensures
    ∙ outlet_found c.args.g e c.args.cell c.loop-i.i c.loop-i-test.true c.loop-i.invariant here d

pub loop-i-preserved : goal.loop-i-preserved
loop-i-preserved c =
    let e = c.args.elevations.now in
    below_more (λ j. leaves_at c.args.g e c.args.cell (get_or outlet_order j 0) ≡ false) c.loop-i.i c.loop-i.invariant
    (subst (λ (p : ℕ). leaves_at c.args.g e c.args.cell p ≡ false) c.in_order-p.ensures
    (sym c.leaves.ensures ∙ c.if-leaves.false))

pub returns : goal.returns
returns c =
    let b = c.loop-i-test.false in
    let q : c.loop-i.i ≡ 8 = omega arith in
    λ d. no_outlet c.args.g c.args.elevations.now c.args.cell
    (subst (StaysTo c.args.g c.args.elevations.now c.args.cell) q c.loop-i.invariant)
