-- No key is below that of the order's first cell.
use native.Mathlib.Omega.{arith}
use lib.ListN.{get_or}
use borrow.Author.Tests.{eqb-false}
use Rattle.grid_laws.proofs.Below.{positive}
use Rattle.fill.proofs.Voids.{lowest_key, first_on}
use Rattle.fill.proofs.lowest_is_void.Goals as goal

pub returns-then-n-eq0 : goal.returns-then-n-eq0
returns-then-n-eq0 c = let none = c.if-n-eq0.true in λ f x h. let z : ⊥ = omega arith in absurd z

pub overflow_cast-lowest : goal.overflow_cast-lowest
overflow_cast-lowest c =
    let some = c.if-n-eq0.false in
    let few = c.requires.n_bound in
    let on = first_on c.args.n c.args.work.now c.requires.sorted (omega arith) in
    omega arith

pub offset_bounds-work-lowest : goal.offset_bounds-work-lowest
offset_bounds-work-lowest c =
    let some = c.if-n-eq0.false in
    let few = c.requires.n_bound in
    let on = first_on c.args.n c.args.work.now c.requires.sorted (omega arith) in
    omega arith

pub bounds-work-lowest : goal.bounds-work-lowest
bounds-work-lowest c =
    let some = c.if-n-eq0.false in
    let room = c.requires.n_in_bounds in
    let on = first_on c.args.n c.args.work.now c.requires.sorted (omega arith) in
    omega arith

pub returns : goal.returns
returns c =
    let some = c.if-n-eq0.false in
    λ f x h. let low = lowest_key c.args.n c.args.work.now c.requires.sorted (omega arith) x h in
    let k = eqb-false (get_or c.args.work.now (get_or c.args.work.now c.args.n 0) 0) 0 f in
    positive (get_or c.args.work.now x 0) (λ z. k (omega arith))
