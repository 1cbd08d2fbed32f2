-- First every void has mark 1, then those on open sides 2, and then all that voids join to them.
use mathlib.Core.Path.{◌≡◌, refl, sym, ◌∙◌, subst}
use Prim.Native.Nat.{ℕ, ◌+◌, ◌*◌, ◌/◌, ◌≤◌, ◌<◌, ◌^◌}
use native.Mathlib.Omega.{arith}
use native.Mathlib.Nat.{mul-zero, zero-mul}
use lib.ListN.{length}
use Rattle.grid.specs.declared.Grid.{Grid}
use Rattle.grid.specs.Sheet.{size}
use Rattle.grid_laws.proofs.Below.{positive}
use Rattle.grid_laws.proofs.Outlets.{void_on}
use Rattle.join_laws.specs.Search.{Parts}
use Rattle.outside.proofs.Seeds.{seeds_none, marked_by}
use Rattle.outside.proofs.mark.Goals as goal

-- marks and queue in the second half
parts : (g : Grid) (l m : ℕ) → m ≡ l → size g < 2 ^ 24 → 4 * size g ≤ l → Parts (size g) (l / 2 + size g) (l / 2) m
parts g l m e few room =
    record {
      few = few;
      marks_in = omega arith;
      queue_in = omega arith;
      apart = λ c i h k q. omega arith;
    }

-- a sheet with cells has rows and columns
some_rows : (g : Grid) → (size g ≡ 0 → ⊥) → (0 < g.rows) × (0 < g.cols)
some_rows g f = (
  positive g.rows (λ q. f (subst (λ (x : ℕ). x * g.cols ≡ 0) (sym q) (zero-mul g.cols))),
  positive g.cols (λ q. f (subst (λ (x : ℕ). g.rows * x ≡ 0) (sym q) (mul-zero g.rows))),
)

pub returns-then-n-eq0 : goal.returns-then-n-eq0
returns-then-n-eq0 c =
    let a = c.args in
    let none = c.if-n-eq0.true in
    record {
      marked = λ x v. let h = void_on a.s.now.grid a.s.now.elevations.now x v in let z : ⊥ = omega arith in absurd z;
      by_index = λ i h. refl;
    }

pub seed_sides-len-requires : goal.seed_sides-len-requires
seed_sides-len-requires c =
    let a = c.args in
    let l = length a.work.now in
    let some = c.if-n-eq0.false in
    record {
      parts = parts a.s.now.grid l _ c.mark_voids.auto.work c.args.s.now.size_bound c.requires;
      half_le_base = omega arith;
      rows_nonzero = some_rows a.s.now.grid some;
      seeds_on = seeds_none a.s.now.grid a.s.now.elevations.now (l / 2 + size a.s.now.grid) (l / 2) c.mark_voids.new.work
          (λ x h. c.mark_voids.ensures.by_index x (let e = c.args.s.now.elevations_len in omega arith));
    }

pub join-requires : goal.join-requires
join-requires c =
    let a = c.args in
    record {
      parts = parts a.s.now.grid (length a.work.now) _ (c.seed_sides-len.auto.work ∙ c.mark_voids.auto.work) c.args.s.now.size_bound c.requires;
      le_value = omega arith;
      searching = c.seed_sides-len.ensures.seeds_on_2.searching;
      cols_bound = c.args.s.now.cols_bound;
    }

pub returns : goal.returns
returns c =
    let a = c.args in
    let l = length a.work.now in
    let few = c.args.s.now.size_bound in
    record {
      marked = marked_by a.s.now.grid a.s.now.elevations.now (l / 2 + size a.s.now.grid) (l / 2) c.mark_voids.new.work c.seed_sides-len.new.work
          c.join.new.work c.seed_sides-len.result
          (λ x h. c.mark_voids.ensures.by_index x (let e = c.args.s.now.elevations_len in omega arith)) c.seed_sides-len.ensures.seeds_on_2 c.seed_sides-len.ensures.by_index
          c.join.ensures.work_after;
      by_index = λ i h. c.join.ensures.goes_on.kept i (λ x m q. omega arith) (λ x m q. omega arith) ∙ c.seed_sides-len.ensures.seeds_on_2.front i h
          ∙ c.mark_voids.ensures.by_index_2 i (omega arith);
    }
